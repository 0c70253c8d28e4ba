use Rattle.std.proofs.Common.{◌≡◌, length}
use Rattle.flow.proofs.filling.Filling.wanted.Given as goal

abbrev pub invariant-loop-row : goal.invariant-loop-row
invariant-loop-row l = length l.planes ≡ 8
