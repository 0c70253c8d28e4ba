use Rattle.std.proofs.Common.{arith}
use Rattle.flow.proofs.Outcomes.{zeros}
use Rattle.flow.proofs.fill.ready.Goals as goal

pub loop-s-init : goal.loop-s-init
loop-s-init c =
    let all = c.into_iter-s-iterator.ensures.into_iter_gives in
    (λ s. let z = zeros 96 s in rw all (grind arith), λ s h. rw all at h, λ s. let z = zeros 96 s in omega arith)
