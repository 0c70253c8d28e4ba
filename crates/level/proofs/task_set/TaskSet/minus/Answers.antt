use Rattle.std.proofs.Common.{◌-◌, arith}
use Rattle.std.proofs.lemmas.Bool.Decides.{nat_tests}
use Rattle.level.specs.TaskSet.{holds}
use Rattle.level.proofs.task_set.TaskSet.minus.Goals as goal

pub returns : goal.returns
unfolding holds
returns c k = let a = c.minus.ensures k in let b = c.minus-2.ensures (k - 128) in grind (arith, nat_tests)
