-- Laws of divisors and of making lowest terms; specs/OrderLaws.antt has those of the order.
use Rattle.std.proofs.Common.{◌≡◌, ℕ, zero, suc, ◌*◌, ◌/◌, ◌%◌, ◌<◌, ◌≤◌, sym, ◌∙◌, mod-lt, mul_assoc, mul_comm, mul-zero, div-add-mod', div-le_self, mul_right_comm, le_of_mul-le-mul_right, arith}
use native.Mathlib.Nat.{mod-zero, mul-dvd-mul_right, div-eq_of_eq-mul_left}
use Rattle.std.proofs.lemmas.Nat.{mul-lt}
use Rattle.std.proofs.lemmas.Nat.Gcd.{IsGcd-from_zero, IsGcd-from_mod, same_from_IsGcd, dvd_of_mod-eq-zero, mod-eq-zero_of_dvd, le_of_dvd}
use Rattle.std.specs.Int.{IsGcd}
pub use Rattle.fraction.specs.OrderLaws.{cross_trans, cross_lt_le}
use Rattle.fraction.specs.Fraction.{num_end, den_end, product_end, Divides, Coprime, Greatest, euclid, gcd_of, Reduced}

-- a greatest common divisor, as std has it
pub greatest : (g a b : ℕ) → IsGcd a b g → Greatest g a b
greatest g a b s =
    record {
      left = mod-eq-zero_of_dvd g s.0;
      right = mod-eq-zero_of_dvd g s.1;
      most = λ d h k. mod-eq-zero_of_dvd d (s.2 d (dvd_of_mod-eq-zero d h) (dvd_of_mod-eq-zero d k));
    }

is_gcd : (g a b : ℕ) → Greatest g a b → IsGcd a b g
is_gcd g a b s = (
  dvd_of_mod-eq-zero g s.left,
  dvd_of_mod-eq-zero g s.right,
  λ d h k. dvd_of_mod-eq-zero d (s.most d (mod-eq-zero_of_dvd d h) (mod-eq-zero_of_dvd d k)),
)

-- the computed one is it
euclid_gcd : (n a b : ℕ) → b < n → IsGcd a b (euclid n a b)
unfolding euclid
euclid_gcd zero a b l = absurd (omega arith)
euclid_gcd (suc n) a zero l = IsGcd-from_zero a 0 (omega arith)
euclid_gcd (suc n) a (suc b) l =
    IsGcd-from_mod a (suc b) _ (euclid_gcd n (suc b) (a % suc b) (omega (arith, mod-lt a {m = suc b} (omega arith))))

gcd_is : (g a b : ℕ) → Greatest g a b → gcd_of a b ≡ g
unfolding gcd_of
gcd_is g a b s = same_from_IsGcd a b _ g (euclid_gcd (suc b) a b (omega arith)) (is_gcd g a b s)

-- a quotient by a divisor is exact
pub divides_exact : (d n : ℕ) → Divides d n → n / d * d ≡ n
divides_exact d n h = omega (arith, div-add-mod' n d)

-- a factor of what isn't 0 isn't 0
pub factor_some : (a b : ℕ) → 0 < a * b → 0 < b
factor_some a zero h = omega (arith, mul-zero a)
factor_some a (suc b) h = omega arith

-- both sides of a division times c
pub divides_times : (d n c : ℕ) → Divides d n → Divides (d * c) (n * c)
divides_times d n c h = mod-eq-zero_of_dvd (d * c) (mul-dvd-mul_right d (dvd_of_mod-eq-zero d h) c)

-- a divisor of what isn't 0 is at most it
pub divides_le : (d n : ℕ) → 0 < n → Divides d n → d ≤ n
divides_le d n l h = le_of_dvd l (dvd_of_mod-eq-zero d h)

-- a divisor of what isn't 0 isn't 0
pub divides_some : (d n : ℕ) → 0 < n → Divides d n → 0 < d
divides_some zero n l h = omega (arith, mod-zero n)
divides_some (suc d) n l h = omega arith

-- n / 1 is in lowest terms
pub coprime_one : (n : ℕ) → Coprime n 1
coprime_one n d h k = omega (arith, divides_le d 1 (omega arith) k, divides_some d 1 (omega arith) k)

-- p / q is p * g / (q * g)
pub times_same : (p q g a b : ℕ) → p * g ≡ a → q * g ≡ b → p * b ≡ a * q
times_same p q g a b e f = rw (sym e, sym f) (sym (mul_assoc p q g) ∙ mul_right_comm p q g)

-- what is left of two numbers after their greatest common divisor is taken out is coprime
pub coprime_left : (g a b p q : ℕ) → Greatest g a b → 0 < b → p * g ≡ a → q * g ≡ b → Coprime p q
coprime_left g a b p q s l e f d h k =
    let pg : 0 < q * g = omega arith in
    let some : 0 < g = factor_some q g pg in
    let up : Divides (d * g) a = rw (sym e) (divides_times d p g h) in
    let low : Divides (d * g) b = rw (sym f) (divides_times d q g k) in
    let le : d * g ≤ 1 * g = omega (arith, divides_le (d * g) g some (s.most (d * g) up low)) in
    let pq : 0 < q = factor_some g q (omega (arith, mul_comm g q)) in
    omega (arith, le_of_mul-le-mul_right le some, divides_some d q pq k)

-- lowest terms, by the greatest common divisor
pub reduced_by : (g num den : ℕ) → Greatest g num den → 0 < den → Reduced num den (num / g) (den / g)
reduced_by g num den s l =
    let e = divides_exact g num s.left in
    let f = divides_exact g den s.right in
    record {
      lowest = coprime_left g num den (num / g) (den / g) s l e f;
      factor = g;
      greatest = s;
      above = e;
      below = f;
      equal = times_same (num / g) (den / g) g num den e f;
      above_le = div-le_self num g;
      below_le = div-le_self den g;
    }

-- a denominator in lowest terms isn't 0
pub reduced_some : (num den p q : ℕ) → Reduced num den p q → 0 < den → 0 < q
reduced_some num den p q r l = factor_some r.factor q (omega (arith, r.below, mul_comm q r.factor))

-- lowest terms, computed
pub reduced_parts :
    (num den p q : ℕ) → 0 < den → Reduced num den p q → (p ≡ num / gcd_of num den) × (q ≡ den / gcd_of num den)
reduced_parts num den p q l r =
    let e = gcd_is r.factor num den r.greatest in
    let some : 0 < r.factor = factor_some q r.factor (omega (arith, r.below)) in
    rw e (
      sym (div-eq_of_eq-mul_left some (sym r.above)),
      sym (div-eq_of_eq-mul_left some (sym r.below)),
    )

-- a product of a numerator and a denominator stays below its bound
pub product_below : (a b : ℕ) → a < num_end → b < den_end → a * b < product_end
product_below a b h k = mul-lt a b num_end den_end h k
