use Rattle.std.proofs.Common.{arith}
use Rattle.std.proofs.lemmas.Nat.{one_shl}
use Rattle.std.proofs.lemmas.Bool.Decides.{nat_tests}
use Rattle.sets.specs.Hours.{has}
use Rattle.sets.proofs.Bits.{bit_power}
use Rattle.sets.proofs.hours.Hours.only.Goals as goal

pub returns-then-i-lt128 : goal.returns-then-i-lt128
unfolding has
returns-then-i-lt128 c k = rw (one_shl c.args.i 128 c.if-i-lt128.true, bit_power c.args.i k) (grind arith)

pub returns-else-i-lt128 : goal.returns-else-i-lt128
returns-else-i-lt128 c k = let w = c.none.ensures k in grind (arith, nat_tests)
