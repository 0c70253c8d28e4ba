use Rattle.sets.proofs.Members.{none_any}
use Rattle.sets.proofs.iter.HoursIndexSet.take_lowest.Goals as goal

pub returns-in_err-i : goal.returns-in_err-i
returns-in_err-i c =
    let none = none_any c.args.self.now c.in_err-i.ensures in
    rw c.from_residual.ensures (none, none)
