use Rattle.std.proofs.Common.{arith}
use Rattle.sets.specs.Hours.{has}
use Rattle.sets.proofs.Bits.{bit_of_or}
use Rattle.sets.proofs.hours.Hours.union.Goals as goal

pub returns : goal.returns
unfolding has
returns c k = rw bit_of_or (grind arith)
