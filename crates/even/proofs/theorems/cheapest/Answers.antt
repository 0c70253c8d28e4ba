use Rattle.even.proofs.Any.{cheapest}
use Rattle.even.proofs.theorems.cheapest.Goals as goal

pub returns : goal.returns
returns c = cheapest
