use Rattle.even.proofs.Cost.{price_units}
use Rattle.even.proofs.theorems.price_of_units.Goals as goal

pub returns : goal.returns
returns c = price_units
