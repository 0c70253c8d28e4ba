use Rattle.std.proofs.Common.{arith}
use Rattle.sets.specs.Hours.{has}
use Rattle.sets.proofs.Bits.{bit_minus}
use Rattle.sets.proofs.hours.Hours.minus.Goals as goal

pub returns : goal.returns
unfolding has
returns c k = rw bit_minus (grind arith)
