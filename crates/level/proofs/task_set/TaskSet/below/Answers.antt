use Rattle.std.proofs.Common.{◌-◌, arith}
use Rattle.std.proofs.lemmas.Bool.Decides.{nat_tests}
use Rattle.level.specs.TaskSet.{holds}
use Rattle.level.proofs.task_set.TaskSet.below.Goals as goal

pub returns : goal.returns
unfolding holds
returns c k =
    let a = c.below.ensures k in
    let b = c.below-2.ensures (k - 128) in
    let n = c.saturating_sub.ensures in
    grind (arith, nat_tests)
