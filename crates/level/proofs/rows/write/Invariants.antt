use Rattle.std.proofs.Common.{◌≡◌, ℕ, true, cond, not, ◌&&◌, get_or}
use Rattle.sets.specs.Hours.{has}
use Rattle.level.proofs.rows.write.Given as goal

abbrev pub invariant-hours : goal.invariant-hours
invariant-hours l =
    ((k : ℕ) → get_or l.row k 0 ≡ cond (has l.initial.s-iterator.rest k && not (has l.s-iterator.rest k)) (get_or l.cells k 0) 0)
    × ((k : ℕ) → has l.s-iterator.rest k ≡ true → has l.initial.s-iterator.rest k ≡ true)
