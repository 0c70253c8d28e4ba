use Rattle.std.proofs.Common.{◌<◌, arith}
use Rattle.std.proofs.lemmas.Bool.Decides.{nat_tests}
use Rattle.fraction.proofs.Fractions.{reduced_by, reduced_some}
use Rattle.fraction.proofs.exact.Fraction.reduced.Goals as goal

pub invariant_of-result : goal.invariant_of-result
invariant_of-result c =
    let some : 0 < c.args.den = omega arith in
    let r = reduced_by c.gcd-g.result c.args.num c.args.den c.gcd-g.ensures some in
    record {
      small = omega (arith, r.above_le);
      some = reduced_some _ _ _ _ r some;
      short = omega (arith, r.below_le);
      lowest = r.lowest;
    }

pub returns : goal.returns
returns c =
    let some : 0 < c.args.den = omega arith in
    record {
      test = grind (arith, nat_tests);
      value = reduced_by c.gcd-g.result c.args.num c.args.den c.gcd-g.ensures some;
    }
