use Rattle.std.proofs.Common.{◌≡◌, ℕ, ◌<◌, length, get_or}
use Rattle.even.specs.DayOf.{day}
use Rattle.sheet.specs.Sheet.{over}
use Rattle.sheet.proofs.layout.Laid.overs.Given as goal

abbrev pub invariant-loop-j : goal.invariant-loop-j
invariant-loop-j l =
    (length l.out ≡ 200) × ((k : ℕ) → k < l.j → get_or l.out k 0 ≡ over (day l.self.hours l.self.tasks.now) l.self.bytes.now k)
