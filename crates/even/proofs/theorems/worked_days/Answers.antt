use Rattle.std.proofs.Common.{refl}
use Rattle.fraction.specs.Sum.{sum}
use Rattle.even.specs.Day.{load}
use Rattle.even.proofs.Table.{every, all_worked}
use Rattle.even.proofs.theorems.worked_days.Goals as goal

pub returns : goal.returns
unfolding sum load every
returns c = all_worked _ refl
