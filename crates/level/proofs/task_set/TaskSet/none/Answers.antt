use Rattle.std.proofs.Common.{◌-◌, arith}
use Rattle.std.proofs.lemmas.Bool.Decides.{nat_tests}
use Rattle.level.specs.TaskSet.{holds}
use Rattle.level.proofs.task_set.TaskSet.none.Goals as goal

pub returns : goal.returns
unfolding holds
returns c k = let a = c.none.ensures k in let b = c.none-2.ensures (k - 128) in grind (arith, nat_tests)
