use Rattle.std.proofs.Common.{ℕ}
use Rattle.std.specs.Int.{IsGcd}
use Rattle.fraction.proofs.reduce.gcd.Given as goal

abbrev pub invariant-loop-small : goal.invariant-loop-small
invariant-loop-small l = (g : ℕ) → IsGcd l.big l.small g → IsGcd l.initial.big l.initial.small g

abbrev pub decreases-loop-small : goal.decreases-loop-small
decreases-loop-small l = l.small
