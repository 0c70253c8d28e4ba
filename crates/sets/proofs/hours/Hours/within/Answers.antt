use Rattle.sets.proofs.Members.{outside_none}
use Rattle.sets.proofs.hours.Hours.within.Goals as goal

pub returns : goal.returns
returns c =
    rw c.is_empty.ensures
    (outside_none c.args.self c.below.result c.minus.result c.args.n c.below.ensures c.minus.ensures)
