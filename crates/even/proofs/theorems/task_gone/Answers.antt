use Rattle.even.specs.More.{shorter, skip}
use Rattle.even.proofs.Any.{more_work, within_shorter}
use Rattle.even.proofs.theorems.task_gone.Goals as goal

pub returns : goal.returns
returns c = λ y i d e x z. more_work (shorter y i) y (skip i) d e x z (within_shorter y i)
