use Rattle.std.proofs.Common.{◌≡◌, length}
use Rattle.flow.specs.Filling.{Improves}
use Rattle.flow.proofs.filling.Filling.serve_all.Given as goal

abbrev pub invariant-loop-j : goal.invariant-loop-j
invariant-loop-j l = (length l.layers ≡ 97) × Improves l.initial.self l.self
