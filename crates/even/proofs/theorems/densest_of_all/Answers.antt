use Rattle.even.proofs.Dense.{densest, densest_dense, densest_holds}
use Rattle.even.proofs.theorems.densest_of_all.Goals as goal

pub returns : goal.returns
returns c = λ y a b most. (densest y a b, densest_dense y a b most, densest_holds y a b)
