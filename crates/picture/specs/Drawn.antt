-- What is read out of a plan that is drawn. Assumes nothing: these are definitions.
use Rattle.std.specs.Prelude.{ℕ, zero, suc, ◌%◌, cond, List, [], ◌∷◌, Some, None, Option}
use Rattle.fraction.specs.declared.exact.Fraction.{Fraction}
use Rattle.sets.specs.declared.hours.Hours.{Hours}
use Rattle.sets.specs.Hours.{has}

-- the load of hour k, 0 / 1 where there is none: its numerator and its denominator
abbrev pub num_at : List Fraction → ℕ → ℕ
num_at [] k = 0
num_at (f ∷ fs) zero = f.num
num_at (f ∷ fs) (suc k) = num_at fs k

abbrev pub den_at : List Fraction → ℕ → ℕ
den_at [] k = 1
den_at (f ∷ fs) zero = f.den
den_at (f ∷ fs) (suc k) = den_at fs k

-- the first group that has hour s, where the groups are counted from g
unfoldable pub group_at : ℕ → List Hours → ℕ → Option ℕ
group_at g [] s = None
group_at g (h ∷ hs) s = cond (has h s) (Some g) (group_at (suc g) hs s)

-- how a group is filled: eight ways, again and again, and a ninth for no group
abbrev pub fill_at : Option ℕ → ℕ
fill_at None = 8
fill_at (Some g) = g % 8
