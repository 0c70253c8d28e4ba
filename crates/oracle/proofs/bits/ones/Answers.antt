use Rattle.std.proofs.Common.{arith}
use Rattle.std.proofs.lemmas.Nat.{one_shl, pow_pos}
use Rattle.oracle.proofs.bits.ones.Goals as goal

pub overflow_sub-result : goal.overflow_sub-result
overflow_sub-result c = rw (one_shl c.min.result 128 (omega arith)) (omega (arith, pow_pos c.min.result))

pub returns : goal.returns
returns c =
    rw (one_shl c.min.result 128 (omega arith), ← c.min.ensures) (omega (arith, pow_pos c.min.result))
