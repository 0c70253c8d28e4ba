use Rattle.std.proofs.Common.{◌≡◌, ℕ, true, cond, not, ◌&&◌, get_or}
use Rattle.sets.specs.Hours.{has}
use Rattle.level.specs.Parts.{nought}
use Rattle.level.proofs.load.raise.Given as goal

abbrev pub invariant-hours : goal.invariant-hours
invariant-hours l =
    ((k : ℕ) → get_or l.all k nought ≡ cond (has l.fn.set k && not (has l.s-iterator.rest k)) l.level (get_or l.initial.all k nought))
    × ((k : ℕ) → has l.s-iterator.rest k ≡ true → has l.fn.set k ≡ true)
