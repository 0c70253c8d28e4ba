use Rattle.std.proofs.Common.{◌≡◌, ◌+◌, ◌≤◌, length}
use Rattle.flow.specs.Filling.{waiting, Keeps}
use Rattle.flow.proofs.filling.Filling.rounds.Given as goal

abbrev pub invariant-loop-layers : goal.invariant-loop-layers
invariant-loop-layers l =
    (length l.layers ≡ 97) × Keeps l.initial.self l.self × (l.looks + waiting l.self ≤ waiting l.initial.self)

abbrev pub decreases-loop-layers : goal.decreases-loop-layers
decreases-loop-layers l = waiting l.self
