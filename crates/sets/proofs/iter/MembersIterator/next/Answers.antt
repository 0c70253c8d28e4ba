use Rattle.std.proofs.Common.{rules}
use Rattle.sets.proofs.Members.{takes_fewer}
use Rattle.sets.proofs.iter.MembersIterator.next.Goals as goal

pub returns-clause-goes : goal.returns-clause-goes
returns-clause-goes g c = let fewer = takes_fewer _ _ _ _ c.take_lowest.ensures in search rules
