use Rattle.even.specs.More.{raised}
use Rattle.even.proofs.Any.{more_work, within_raised}
use Rattle.even.proofs.theorems.more_units.Goals as goal

pub returns : goal.returns
returns c = λ y i u d e x z. more_work y (raised y i u) (λ j. j) d e x z (within_raised y i u)
