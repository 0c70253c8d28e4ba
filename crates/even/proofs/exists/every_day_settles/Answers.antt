use Rattle.even.proofs.AlwaysSettled.{always_settled}
use Rattle.even.proofs.exists.every_day_settles.Goals as goal

pub returns : goal.returns
returns c = always_settled
