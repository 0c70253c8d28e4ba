use Rattle.std.proofs.Common.{◌≡◌, ℕ, ◌+◌, ◌≤◌, length, get_or}
use Rattle.fraction.specs.Sum.{sum}
use Rattle.even.specs.DayOf.{day}
use Rattle.sheet.specs.Sheet.{row}
use Rattle.sheet.proofs.layout.starts.Given as goal

abbrev pub invariant-loop-j : goal.invariant-loop-j
invariant-loop-j l =
    (length l.out ≡ 201) × (l.at ≡ l.from + sum l.j (row (day l.hours l.tasks)))
    × ((k : ℕ) → k ≤ l.j → get_or l.out k 0 ≡ l.from + sum k (row (day l.hours l.tasks)))
