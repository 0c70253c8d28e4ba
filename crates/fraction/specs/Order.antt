-- The order of fractions as `cmp` answers it. Assumes nothing: these are definitions.
use Rattle.std.specs.Prelude.{cond}
use Rattle.std.specs.declared.cmp.Ordering.{Ordering}
use Rattle.std.specs.declared.cmp.Ordering.TheVariants.{Less, Equal, Greater}
use Rattle.fraction.specs.declared.exact.Fraction.{Fraction}
use Rattle.fraction.specs.Fraction.{less_than, same_as}

-- how the fractions x and y compare
abbrev pub fraction_cmp : Fraction → Fraction → Ordering
fraction_cmp x y =
    cond (less_than x.num x.den y.num y.den) Less (cond (same_as x.num x.den y.num y.den) Equal Greater)
