use Rattle.even.proofs.Any.{same_loads}
use Rattle.even.proofs.theorems.same_loads.Goals as goal

pub returns : goal.returns
returns c = same_loads
