use Rattle.std.proofs.Common.{arith}
use Rattle.std.proofs.lemmas.Nat.{one_shl, pow_pos}
use Rattle.std.proofs.lemmas.Bool.Decides.{nat_tests}
use Rattle.sets.specs.Hours.{has}
use Rattle.sets.proofs.Bits.{bit_ones}
use Rattle.sets.proofs.hours.Hours.below.Goals as goal

pub overflow_sub-result : goal.overflow_sub-result
overflow_sub-result c = rw (one_shl c.args.n 128 c.if-n-lt128.true) (omega (arith, pow_pos c.args.n))

pub returns-then-n-lt128 : goal.returns-then-n-lt128
unfolding has
returns-then-n-lt128 c k = rw (one_shl c.args.n 128 c.if-n-lt128.true, bit_ones c.args.n k) (grind arith)

pub returns-else-n-lt128 : goal.returns-else-n-lt128
unfolding has
returns-else-n-lt128 c k = rw (bit_ones 128 k) (grind (arith, nat_tests))
