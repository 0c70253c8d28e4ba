-- What fractions are: bounds, lowest terms, order by cross products, and their text. Assumes nothing: these are definitions.
use Rattle.std.specs.Prelude.{◌≡◌, ℕ, zero, suc, ◌*◌, ◌%◌, ◌^◌, ◌≤◌, Bool, cond, ◌&&◌, List, ◌∷◌, ◌++◌, decimal, ◌==◌, nat_le, nat_lt}

-- a numerator is below this
abbrev pub num_end : ℕ
num_end = 2 ^ 47

-- a denominator is below this
abbrev pub den_end : ℕ
den_end = 2 ^ 16

-- a product of a numerator and a denominator is below this
abbrev pub product_end : ℕ
product_end = 2 ^ 63

-- these may stand above and below the line of a fraction
abbrev pub fits : ℕ → ℕ → Bool
fits num den = nat_lt 0 den && (nat_lt num num_end && nat_lt den den_end)

-- d divides n: nothing is left over
abbrev pub Divides : ℕ → ℕ → Type 0
Divides d n = n % d ≡ 0

-- lowest terms: only 1 divides both
abbrev pub Coprime : ℕ → ℕ → Type 0
Coprime a b = (d : ℕ) → Divides d a → Divides d b → d ≡ 1

-- g is the greatest common divisor of a and b: it divides both, and whatever divides both divides g
pub record Greatest (g a b : ℕ) : Type 0 where
  pub left : Divides g a
  pub right : Divides g b
  pub most : (d : ℕ) → Divides d a → Divides d b → Divides d g

-- Euclid's algorithm, in at most n steps
unfoldable pub euclid : ℕ → ℕ → ℕ → ℕ
euclid zero a b = a
euclid (suc n) a zero = a
euclid (suc n) a (suc b) = euclid n (suc b) (a % suc b)

-- the greatest common divisor, computed
unfoldable pub gcd_of : ℕ → ℕ → ℕ
gcd_of a b = euclid (suc b) a b

-- p / q is num / den in lowest terms: the same number, by taking the greatest common factor out of both
pub record Reduced (num den p q : ℕ) : Type 0 where
  pub lowest : Coprime p q
  pub factor : ℕ
  pub greatest : Greatest factor num den
  pub above : p * factor ≡ num
  pub below : q * factor ≡ den
  pub equal : p * den ≡ num * q
  pub above_le : p ≤ num
  pub below_le : q ≤ den

-- a / b < c / d
abbrev pub less_than : ℕ → ℕ → ℕ → ℕ → Bool
less_than a b c d = nat_lt (a * d) (c * b)

-- a / b ≤ c / d
abbrev pub at_most : ℕ → ℕ → ℕ → ℕ → Bool
at_most a b c d = nat_le (a * d) (c * b)

-- a / b = c / d
abbrev pub same_as : ℕ → ℕ → ℕ → ℕ → Bool
same_as a b c d = a * d == c * b

-- the bytes that are printed: 8/3, or 6 where the denominator is 1
abbrev pub fraction_text : ℕ → ℕ → List ℕ
fraction_text num den = cond (den == 1) (decimal num) (decimal num ++ (47 ∷ decimal den))
