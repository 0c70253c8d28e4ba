use Rattle.std.proofs.Common.{◌≡◌, length}
use Rattle.flow.specs.Filling.{Improves}
use Rattle.flow.proofs.filling.Filling.+drain.Given as goal

abbrev pub decreases-drain : goal.decreases-drain
decreases-drain l = l.d

abbrev pub invariant-loop : goal.invariant-loop
invariant-loop l = (length l.layers ≡ 97) × Improves l.initial.self l.self
