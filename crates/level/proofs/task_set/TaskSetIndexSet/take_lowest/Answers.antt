use Rattle.std.proofs.Common.{◌≡◌, ◌+◌, ◌-◌, arith}
use Rattle.std.proofs.lemmas.Bool.Decides.{nat_tests}
use Rattle.level.specs.TaskSet.{holds}
use Rattle.level.proofs.task_set.TaskSetIndexSet.take_lowest.Goals as goal

pub returns-in-Some : goal.returns-in-Some
unfolding holds
returns-in-Some c =
    let t = c.in-Some.ensures in
    let m = t.0.member in
    let b = t.0.below in (
      record {
        member = grind (arith, nat_tests);
        below = omega arith;
        first = λ k l. let f = t.0.first k l in grind (arith, nat_tests);
      },
      λ k. let r = t.1 k in grind (arith, nat_tests),
    )

pub returns-in_err-j : goal.returns-in_err-j
unfolding holds
returns-in_err-j c =
    let low = c.in_default.ensures in
    let high = c.in_err-j.ensures in
    rw c.from_residual.ensures (
      λ k. let a = low.0 k in let b = high.0 (k - 128) in grind (arith, nat_tests),
      λ k. let a = low.1 k in let b = high.1 (k - 128) in grind (arith, nat_tests),
    )

pub returns : goal.returns
unfolding holds
returns c =
    let low = c.in_default.ensures in
    let t = c.in_ok-j.ensures in
    let j = c.in_ok-j.j in
    let x : (128 + j) - 128 ≡ j = omega arith in
    let m = t.0.member in
    let b = t.0.below in (
      record {
        member = rw x (grind (arith, nat_tests));
        below = omega arith;
        first = λ k l. let a = low.0 k in let f = t.0.first (k - 128) in grind (arith, nat_tests);
      },
      λ k. let a = low.0 k in let d = low.1 k in let r = t.1 (k - 128) in grind (arith, nat_tests),
    )
