use Rattle.std.proofs.Common.{◌-◌, arith}
use Rattle.std.proofs.lemmas.Bool.Decides.{nat_tests}
use Rattle.level.specs.TaskSet.{holds}
use Rattle.level.proofs.task_set.TaskSet.insert.Goals as goal

pub returns-then-j-lt128 : goal.returns-then-j-lt128
unfolding holds
returns-then-j-lt128 c k = let a = c.insert.ensures k in let l = c.if-j-lt128.true in grind (arith, nat_tests)

pub returns-else-j-lt128 : goal.returns-else-j-lt128
unfolding holds
returns-else-j-lt128 c k =
    let a = c.insert-else-j-lt128.ensures (k - 128) in
    let l = c.if-j-lt128.false in
    grind (arith, nat_tests)
