use Rattle.even.specs.More.{longer}
use Rattle.even.proofs.Any.{more_work, within_longer}
use Rattle.even.proofs.theorems.task_more.Goals as goal

pub returns : goal.returns
returns c = λ y u p d e x z. more_work y (longer y u p) (λ j. j) d e x z (within_longer y u p)
