use Rattle.oracle.specs.Sets.{Among}
use Rattle.oracle.proofs.slow.best.Given as goal

abbrev pub invariant-loop-tasks : goal.invariant-loop-tasks
invariant-loop-tasks g l = Among l.best.tasks l.«open» × Among l.best.bits l.left
