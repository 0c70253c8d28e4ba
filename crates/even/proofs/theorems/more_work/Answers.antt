use Rattle.even.proofs.Any.{more_work}
use Rattle.even.proofs.theorems.more_work.Goals as goal

pub returns : goal.returns
returns c = more_work
