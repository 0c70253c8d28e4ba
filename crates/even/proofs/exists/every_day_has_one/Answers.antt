use Rattle.even.proofs.AlwaysEven.{always}
use Rattle.even.proofs.exists.every_day_has_one.Goals as goal

pub returns : goal.returns
returns c = always
