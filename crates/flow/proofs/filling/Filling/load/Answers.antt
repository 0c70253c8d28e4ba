use Rattle.std.proofs.Common.{arith}
use Rattle.sets.proofs.Members.{count_remove}
use Rattle.flow.proofs.filling.Filling.load.Goals as goal

pub loop-s-smaller : goal.loop-s-smaller
loop-s-smaller c =
    let at = c.least.ensures c.in-Some.s c.in-Some.ensures.member in
    omega (arith, count_remove c.loop-s.ways c.remove-ways.result c.in-Some.s at c.remove-ways.ensures)
