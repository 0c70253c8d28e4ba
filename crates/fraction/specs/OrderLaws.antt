-- The laws of the order by cross products, and of lowest terms, in which equal numbers have equal parts. The impls of `Ord` and
-- `PartialOrd` cite these, so they stand here.
use Rattle.std.proofs.Common.{◌≡◌, ℕ, zero, suc, ◌+◌, ◌-◌, ◌*◌, ◌/◌, ◌%◌, ◌<◌, ◌≤◌, ◌&&◌, eqb, refl, sym, ap, ◌∙◌, inl, inr, mul-le-mul_right, mod-lt, mul_comm, add-mul, lt_of_mul-lt-mul_right, mul-lt-mul_of_pos_right, div-add-mod', mul-add, mul_right_comm, le_of_mul-le-mul_right, mul_left_comm, arith}
use native.Mathlib.Nat.{mul-mod_right, mod_self, dvd-mod_iff, dvd_of_mod-eq-zero, mod-eq-zero_of_dvd}
use Rattle.std.proofs.lemmas.Bool.Decides.{nat_tests}
use Rattle.std.proofs.lemmas.Bool.{cases_eq}
use Rattle.std.specs.Cmp.{IsTotalOrder, IsPartialOrder, nat_cmp_total, nat_cmp_is, ranked, unsigned_ties, po}
use Rattle.std.specs.Ordering.{is_eq, as_partial_cmp, partial_lt, partial_le}
use Rattle.std.specs.declared.cmp.Ordering.TheVariants.{Less, Equal}
use Rattle.fraction.specs.declared.exact.Fraction.{Fraction}
use Rattle.fraction.specs.Fraction.{Divides, Coprime, less_than, at_most, same_as}
use Rattle.fraction.specs.Order.{fraction_cmp}

-- what divides b and the rest of a by b divides a
pub divides_whole : (d a b : ℕ) → Divides d (a % b) → Divides d b → Divides d a
divides_whole d a b h k =
    mod-eq-zero_of_dvd d ((dvd-mod_iff d {m = a} {n = b} (dvd_of_mod-eq-zero d k)).0 (dvd_of_mod-eq-zero d h))

-- the order by cross products: a / b ≤ c / d and c / d ≤ e / f give a / b ≤ e / f
pub cross_trans : (a b c d e f : ℕ) → 0 < d → a * d ≤ c * b → c * f ≤ e * d → a * f ≤ e * b
cross_trans a b c d e f l h k =
    let u : a * d * f ≤ c * b * f = mul-le-mul_right f h in
    let v : c * f * b ≤ e * d * b = mul-le-mul_right b k in
    let w : a * f * d ≤ e * b * d =
    omega (arith, u, v, mul_right_comm a f d, mul_right_comm c b f, mul_right_comm e b d) in
    le_of_mul-le-mul_right w l

-- a / b < c / d and c / d ≤ e / f give a / b < e / f
pub cross_lt_le : (a b c d e f : ℕ) → 0 < f → a * d < c * b → c * f ≤ e * d → a * f < e * b
cross_lt_le a b c d e f l h k =
    let u : a * d * f < c * b * f = mul-lt-mul_of_pos_right h l in
    let v : c * f * b ≤ e * d * b = mul-le-mul_right b k in
    let w : a * f * d < e * b * d =
    omega (arith, u, v, mul_right_comm a f d, mul_right_comm c b f, mul_right_comm e b d) in
    lt_of_mul-lt-mul_right d w

-- a / b ≤ c / d and c / d < e / f give a / b < e / f
pub cross_le_lt : (a b c d e f : ℕ) → 0 < b → a * d ≤ c * b → c * f < e * d → a * f < e * b
cross_le_lt a b c d e f l h k =
    let u : a * d * f ≤ c * b * f = mul-le-mul_right f h in
    let v : c * f * b < e * d * b = mul-lt-mul_of_pos_right k l in
    let w : a * f * d < e * b * d =
    omega (arith, u, v, mul_right_comm a f d, mul_right_comm c b f, mul_right_comm e b d) in
    lt_of_mul-lt-mul_right d w

-- a step of Euclid's algorithm on two equal fractions takes the same quotient from both
pub cross_rest :
    (a b c d q r : ℕ) → 0 < b → q * b + r ≡ a → a * d ≡ c * b → (s : ℕ) × (q * d + s ≡ c) × (r * d ≡ s * b)
cross_rest a b c d q r l e h =
    let u : q * d * b + r * d ≡ c * b =
    ap (λ v. v + r * d) (mul_right_comm q d b) ∙ (sym (add-mul (q * b) r d) ∙ (ap (λ v. v * d) e ∙ h)) in
    let le : q * d ≤ c = le_of_mul-le-mul_right {m = q * d} {n = c} {k = b} (omega (arith, u)) l in
    let w : q * d + (c - q * d) ≡ c = omega (arith, le) in
    let x : q * d * b + (c - q * d) * b ≡ c * b = sym (add-mul (q * d) (c - q * d) b) ∙ ap (λ v. v * b) w in
    (c - q * d, w, omega (arith, u, x))

-- a number times the whole and the rest
pub times_both : (q b r k d s a c : ℕ) → q * b + r ≡ a → q * d + s ≡ c → d ≡ k * b → s ≡ k * r → c ≡ k * a
times_both q b r k d s a c e f g h =
    sym f ∙ (ap (λ v. q * v + s) g ∙ (ap (λ v. q * (k * b) + v) h
    ∙ (ap (λ v. v + k * r) (mul_left_comm q k b) ∙ (sym (mul-add k (q * b) r) ∙ ap (λ v. k * v) e))))

-- if c / d is a / b, which is in lowest terms, then c and d are the same multiple of a and b
pub lowest_least :
    (fuel a b c d : ℕ) → b < fuel → 0 < b → Coprime a b → a * d ≡ c * b → (k : ℕ) × (c ≡ k * a) × (d ≡ k * b)
lowest_least zero a b c d u l h e = absurd (omega arith)
lowest_least (suc fuel) a b c d u l h e =
    elim (cases_eq (a % b) 0) [
      | inl z ↦
          (let one : b ≡ 1 = h b z (mod_self b) in
          (d, omega (arith, rw one at e, mul_comm a d), rw one (omega arith)))
      | inr nz ↦
          (let s = cross_rest a b c d (a / b) (a % b) l (div-add-mod' a b) e in
          let r =
          lowest_least fuel b (a % b) d s.0 (omega (arith, mod-lt a l)) (omega arith)
          (λ v hb hr. h v (divides_whole v a b hr hb) hb)
          (mul_comm b s.0 ∙ (sym s.2 ∙ mul_comm (a % b) d)) in
          (r.0, times_both (a / b) b (a % b) r.0 d s.0 a c (div-add-mod' a b) s.1 r.1 r.2, r.1))
    ]

-- a multiple in lowest terms is the number itself
pub lowest_multiple : (k a b c d : ℕ) → c ≡ k * a → d ≡ k * b → Coprime c d → (a ≡ c) × (b ≡ d)
lowest_multiple k a b c d e f g =
    let one : k ≡ 1 =
    g k (ap (λ v. v % k) e ∙ mul-mod_right k a) (ap (λ v. v % k) f ∙ mul-mod_right k b) in
    (omega (arith, ap (λ v. v * a) one), omega (arith, ap (λ v. v * b) one))

-- lowest terms are unique
pub lowest_unique : (a b c d : ℕ) → 0 < b → Coprime a b → Coprime c d → a * d ≡ c * b → (a ≡ c) × (b ≡ d)
lowest_unique a b c d l h g e =
    let r = lowest_least (suc b) a b c d (omega arith) l h e in lowest_multiple r.0 a b c d r.1 r.2 g

-- so fractions in lowest terms are the same number exactly if their parts are equal
pub same_by_parts :
    (a b c d : ℕ) → 0 < b → Coprime a b → Coprime c d → same_as a b c d ≡ (eqb a c && eqb b d)
same_by_parts a b c d l h g =
    elim (cases_eq (a * d) (c * b)) [
      | inl e ↦ (let r = lowest_unique a b c d l h g e in let x = r.0 in let y = r.1 in grind (arith, nat_tests))
      | inr ne ↦
          (let apart : a ≡ c → b ≡ d → ⊥ = λ p q. ne (ap (λ v. v * d) p ∙ ap (λ v. c * v) (sym q)) in
          grind (arith, nat_tests))
    ]

-- fractions that are the same number have the same parts
pub parts_same : (x y : Fraction) → x.num * y.den ≡ y.num * x.den → (x.num ≡ y.num) × (x.den ≡ y.den)
parts_same x y e = lowest_unique _ _ _ _ x.some x.lowest y.lowest e

below : (x y : Fraction) → fraction_cmp x y ≡ Less → x.num * y.den < y.num * x.den
below x y e = ranked _ _ Less (sym e)

-- `cmp` is a total order
pub fractions_total : IsTotalOrder fraction_cmp
fractions_total =
    record {
      antisymm = λ x y. nat_cmp_total.antisymm (x.num * y.den) (y.num * x.den);
      trans = λ x y z h k.
          (let l = below y z k in
          sym (nat_cmp_is _ _ Less (cross_lt_le _ _ _ _ _ _ z.some (below x y h) (omega (arith, l)))));
      congr = λ x y z e. (let r = parts_same x y (ranked _ _ Equal (sym e)) in rw (r.0, r.1) refl);
    }

-- and `==` by their parts holds exactly where `cmp` answers `Equal`
pub fractions_tie : (x y : Fraction) → (eqb x.num y.num && eqb x.den y.den) ≡ is_eq (fraction_cmp x y)
fractions_tie x y = sym (same_by_parts _ _ _ _ x.some x.lowest y.lowest) ∙ unsigned_ties _ _

pub fractions_partial : IsPartialOrder (λ (x y : Fraction). eqb x.num y.num && eqb x.den y.den) (as_partial_cmp fraction_cmp)
fractions_partial = po fractions_total fractions_tie

-- so `<`, `<=` and `==` compare the numbers, exactly
pub less_by_cmp : (x y : Fraction) → partial_lt (as_partial_cmp fraction_cmp) x y ≡ less_than x.num x.den y.num y.den
less_by_cmp x y = grind (arith, nat_tests)

pub at_most_by_cmp : (x y : Fraction) → partial_le (as_partial_cmp fraction_cmp) x y ≡ at_most x.num x.den y.num y.den
at_most_by_cmp x y = grind (arith, nat_tests)

pub same_by_eq : (x y : Fraction) → (eqb x.num y.num && eqb x.den y.den) ≡ same_as x.num x.den y.num y.den
same_by_eq x y = sym (same_by_parts _ _ _ _ x.some x.lowest y.lowest)
