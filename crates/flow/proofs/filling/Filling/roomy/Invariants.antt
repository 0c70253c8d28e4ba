use Rattle.std.proofs.Common.{◌≡◌, ℕ, true, not, ◌&&◌, ltb}
use Rattle.sets.specs.Hours.{has}
use Rattle.flow.specs.Lent.{room}
use Rattle.flow.proofs.filling.Filling.roomy.Given as goal

abbrev pub invariant-loop-s : goal.invariant-loop-s
invariant-loop-s l =
    ((s : ℕ) → has l.found s ≡ ((has l.self.hours s && not (has l.s-iterator.rest s)) && ltb 0 (room l.net s)))
    × ((s : ℕ) → has l.s-iterator.rest s ≡ true → has l.self.hours s ≡ true)
