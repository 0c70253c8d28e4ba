use Rattle.std.proofs.Common.{arith}
use Rattle.std.proofs.lemmas.Nat.Gcd.{IsGcd-from_zero, IsGcd-from_mod}
use Rattle.fraction.proofs.Fractions.{greatest}
use Rattle.fraction.proofs.reduce.gcd.Goals as goal

pub loop-small-preserved : goal.loop-small-preserved
loop-small-preserved c g s = c.loop-small.invariant g (IsGcd-from_mod _ _ g s)

pub returns : goal.returns
returns c = greatest _ _ _ (c.loop-small.invariant _ (IsGcd-from_zero _ _ (omega arith)))
