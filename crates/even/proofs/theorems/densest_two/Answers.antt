use Rattle.even.proofs.Dense.{dense_either}
use Rattle.even.proofs.theorems.densest_two.Goals as goal

pub returns : goal.returns
returns c = dense_either
