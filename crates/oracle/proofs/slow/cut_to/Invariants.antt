use Rattle.oracle.specs.Sets.{Among}
use Rattle.oracle.proofs.slow.cut_to.Given as goal

abbrev pub invariant-loop : goal.invariant-loop
invariant-loop g l = Among l.all.tasks l.«open» × Among l.all.bits l.left
