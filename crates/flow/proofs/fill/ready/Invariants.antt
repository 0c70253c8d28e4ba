use Rattle.std.proofs.Common.{◌≡◌, ℕ, ◌^◌, ◌<◌, true, cond, not, ◌&&◌, get_or}
use Rattle.sets.specs.Hours.{has}
use Rattle.flow.specs.Lent.{room}
use Rattle.flow.proofs.fill.ready.Given as goal

abbrev pub invariant-loop-s : goal.invariant-loop-s
invariant-loop-s l =
    ((s : ℕ) → room l.net s ≡ cond (has l.fn.hours s && not (has l.s-iterator.rest s)) (get_or l.capacity s 0) 0)
    × ((s : ℕ) → has l.s-iterator.rest s ≡ true → has l.fn.hours s ≡ true)
    × ((s : ℕ) → room l.net s < 2 ^ 64)
