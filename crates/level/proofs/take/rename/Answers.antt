use Rattle.std.proofs.Common.{◌+◌, arith}
use Rattle.level.proofs.Changes.{moved_more, moved_past}
use Rattle.level.proofs.Crews.{rest_found}
use Rattle.level.proofs.take.rename.Goals as goal

pub tasks-preserved : goal.tasks-preserved
tasks-preserved c =
    let i = c.tasks.invariant in
    let j = c.in-Some.j in
    let f = rest_found i.1 j c.in-Some.ensures.steps in
    let l = f.below in
    (j + 1, f.rest, moved_more (moved_past i.2 j f.reached f.between) f.member (omega (arith, c.requires.few, c.tasks.auto.of)))
