use Rattle.std.proofs.Common.{◌<◌}
use Rattle.picture.proofs.scale.step_of.Given as goal

abbrev pub invariant-loop : goal.invariant-loop
invariant-loop l = 0 < l.unit
