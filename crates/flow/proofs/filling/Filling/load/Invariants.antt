use Rattle.std.proofs.Common.{◌≡◌, ℕ, true}
use Rattle.fraction.specs.Sum.{size}
use Rattle.sets.specs.Hours.{has}
use Rattle.flow.specs.Filling.{Improves}
use Rattle.flow.proofs.filling.Filling.load.Given as goal

abbrev pub invariant-loop-s : goal.invariant-loop-s
invariant-loop-s l =
    Improves l.initial.self l.self
    × ((s : ℕ) → has l.open s ≡ true → has l.initial.open s ≡ true)
    × ((s : ℕ) → has l.ways s ≡ true → has l.initial.ways s ≡ true)

abbrev pub decreases-loop-s : goal.decreases-loop-s
decreases-loop-s l = size 128 (has l.ways)
