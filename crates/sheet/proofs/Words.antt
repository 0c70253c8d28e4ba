-- Laws of numbers in words of 64 bits.
use Rattle.std.proofs.Common.{Decides, Bool, eqb, le_refl, ◌≡◌, ℕ, zero, suc, ◌+◌, ◌-◌, ◌*◌, ◌/◌, ◌^◌, ◌<◌, ◌≤◌, List, [], ◌∷◌, length, get_or, set, sym, refl, ap, ◌∙◌, inl, inr, mul-le-mul_right, div-le_self, arith, lit<, get_or-set_other, get_or-set_same}
use native.Mathlib.Nat.{eq_of_mul-eq-mul_right}
use Rattle.std.proofs.lemmas.Nat.{mul-le, div-mul-add}
use Rattle.std.proofs.lemmas.Bool.{cases_Bool, cases_eq, eq-eqb, ne_eqb}
use Rattle.std.proofs.lemmas.List.{ext_get_or}
use Rattle.fraction.specs.Sum.{sum}
use Rattle.fraction.proofs.Sums.{sum_bound}
use Rattle.even.specs.Whole.{whole}
use Rattle.sheet.specs.Limbs.{base, upto, value}

-- a product of two words, and two words more, fits two words
pub fused_fits :
    (a b c d : ℕ) → a < 2 ^ 64 → b < 2 ^ 64 → c < 2 ^ 64 → d < 2 ^ 64 → a * b + c + d < 2 ^ 128
fused_fits a b c d la lb lc ld =
    omega (arith, mul-le a b 18446744073709551615 18446744073709551615 (omega arith) (omega arith))

pub base_more : (n : ℕ) → base (n + 1) ≡ base n * 2 ^ 64
unfolding base
base_more n = rw native.Mathlib.Numerals.add-one refl

pub upto_more : (n : ℕ) (l : List ℕ) → upto (n + 1) l ≡ upto n l + get_or l n 0 * base n
unfolding upto
upto_more n l = rw native.Mathlib.Numerals.add-one refl

pub upto_none : (l : List ℕ) → upto 0 l ≡ 0
unfolding upto
upto_none l = refl

pub base_none : base 0 ≡ 1
unfolding base
base_none = refl

pub base_some : (n : ℕ) → 0 < base n
unfolding base
base_some zero = omega arith
base_some (suc n) = omega (arith, base_some n)

-- words that agree write the same number
pub upto_same : (n : ℕ) (l m : List ℕ) → ((k : ℕ) → k < n → get_or l k 0 ≡ get_or m k 0) → upto n l ≡ upto n m
unfolding upto
upto_same zero l m h = refl
upto_same (suc n) l m h =
    omega (arith, ap (λ v. v * base n) (h n (omega arith)), upto_same n l m (λ k p. h k (omega arith)))

-- words that are all 0 write 0
pub upto_zero : (n : ℕ) (l : List ℕ) → ((k : ℕ) → k < n → get_or l k 0 ≡ 0) → upto n l ≡ 0
unfolding upto
upto_zero zero l h = refl
upto_zero (suc n) l h =
    omega (arith, ap (λ v. v * base n) (h n (omega arith)), upto_zero n l (λ k p. h k (omega arith)))

-- a word that is set
pub upto_set :
    (n : ℕ) (l : List ℕ) (k v : ℕ) → k < n → k < length l →
    upto n (set l k v) + get_or l k 0 * base k ≡ upto n l + v * base k
unfolding upto
upto_set zero l k v h p = absurd (omega arith)
upto_set (suc n) l k v h p =
    elim (cases_eq k n) [
      | inl e ↦
          rw e
          (let q : n < length l = omega (arith, rw e at p) in
          omega
          (arith, ap (λ w. w * base n) (get_or-set_same l n v 0 q), upto_same n (set l n v) l (λ i m. get_or-set_other l n i v 0 (omega arith))))
      | inr ne ↦
          omega
          (arith, upto_set n l k v (omega arith) p, ap (λ w. w * base n) (get_or-set_other l k n v 0 (omega arith)))
    ]

-- one word more of a sum with a product
pub carry_more :
    (b u c t w by low high to what : ℕ) → u + c * b ≡ t + by * w → low + high * 2 ^ 64 ≡ by * what + to + c →
    (u + low * b) + high * (b * 2 ^ 64) ≡ (t + to * b) + by * (w + what * b)
carry_more b u c t w by low high to what h k = omega (arith, ap (λ v. v * b) k)

-- one word more of a sum with a product of words
pub carry_step :
    (i : ℕ) (to was what : List ℕ) (carry by low high : ℕ) → i < length to →
    upto i to + carry * base i ≡ upto i was + by * upto i what → get_or to i 0 ≡ get_or was i 0 →
    low + high * 2 ^ 64 ≡ by * get_or what i 0 + get_or to i 0 + carry →
    upto (i + 1) (set to i low) + high * base (i + 1) ≡ upto (i + 1) was + by * upto (i + 1) what
carry_step i to was what carry by low high l h g e =
    let s : upto (i + 1) (set to i low) ≡ upto i to + low * base i =
    omega (arith, upto_set (i + 1) to i low (omega arith) l, upto_more i to) in
    omega
    (arith, s, ap (λ m. high * m) (base_more i), upto_more i was, ap (λ m. by * m) (upto_more i what), ap (λ m. m * base i) g, carry_more (base i) (upto i to) carry (upto i was) (upto i what) by low high (get_or to i 0) (get_or what i 0) h e)

-- one word more of a division, from the top
pub divide_more :
    (b v u w rest by o q left out : ℕ) → v ≡ (u + w * b) + rest * (b * 2 ^ 64) + by * o → q * by + left ≡ rest * 2 ^ 64 + w →
    out ≡ o + q * b → v ≡ u + left * b + by * out
divide_more b v u w rest by o q left out h k e = omega (arith, ap (λ z. z * b) k, ap (λ z. by * z) e)

-- one word more of a division of words, from the top: word k - 1
pub divide_step :
    (k : ℕ) (what out : List ℕ) (rest by q left : ℕ) → 0 < k → k ≤ 8 → length out ≡ 8 →
    value what ≡ upto k what + rest * base k + by * value out →
    ((i : ℕ) → i < k → get_or out i 0 ≡ 0) → q * by + left ≡ rest * 2 ^ 64 + get_or what (k - 1) 0 →
    value what ≡ upto (k - 1) what + left * base (k - 1) + by * value (set out (k - 1) q)
divide_step k what out rest by q left l m n v z e =
    let a : k ≡ (k - 1) + 1 = omega arith in
    let h : value what ≡ (upto (k - 1) what + get_or what (k - 1) 0 * base (k - 1)) + rest * (base (k - 1) * 2 ^ 64) + by * value out =
    omega
    (arith, v, ap (λ i. upto i what) a, upto_more (k - 1) what, ap (λ i. rest * base i) a, ap (λ w. rest * w) (base_more (k - 1))) in
    let o : value (set out (k - 1) q) ≡ value out + q * base (k - 1) =
    omega
    (arith, upto_set 8 out (k - 1) q (omega arith) (omega arith), ap (λ w. w * base (k - 1)) (z (k - 1) (omega arith))) in
    divide_more (base (k - 1)) (value what) (upto (k - 1) what) (get_or what (k - 1) 0) rest by (value out) q left _ h e o

-- the division is done where no word is left
pub divide_all : (v rest by o : ℕ) → rest < by → v ≡ rest + by * o → o ≡ v / by
divide_all v rest by o l h = sym (ap (λ z. z / by) (omega arith) ∙ div-mul-add o by rest l)

base_over : (i n : ℕ) → i < n → (r : ℕ) × (base n ≡ r * 2 ^ 64 * base i)
unfolding base
base_over i zero h = absurd (omega arith)
base_over i (suc n) h =
    elim (cases_eq i n) [
      | inl e ↦ (1, rw e (omega arith))
      | inr ne ↦ (let r = base_over i n (omega arith) in (r.0 * 2 ^ 64, omega (arith, r.1)))
    ]

-- the words from word i on: what they add is word i, and a multiple of the next base
pub upto_rest :
    (i n : ℕ) (l : List ℕ) → i < n → (r : ℕ) × (upto n l ≡ upto i l + (get_or l i 0 + r * 2 ^ 64) * base i)
unfolding upto
upto_rest i zero l h = absurd (omega arith)
upto_rest i (suc n) l h =
    elim (cases_eq i n) [
      | inl e ↦ (0, rw e (omega arith))
      | inr ne ↦
          (let r = upto_rest i n l (omega arith) in
          let b = base_over i n (omega arith) in
          (r.0 + get_or l n 0 * b.0, omega (arith, r.1, ap (λ z. get_or l n 0 * z) b.1)))
    ]

-- numbers whose words agree up to word i, and not there, differ
pub upto_differ :
    (i n : ℕ) (a b : List ℕ) → i < n → upto i a ≡ upto i b → get_or a i 0 < 2 ^ 64 → get_or b i 0 < 2 ^ 64 →
    (get_or a i 0 ≡ get_or b i 0 → ⊥) → upto n a ≡ upto n b → ⊥
upto_differ i n a b h e fa fb ne same =
    let r = upto_rest i n a h in
    let s = upto_rest i n b h in
    let t : (get_or a i 0 + r.0 * 2 ^ 64) * base i ≡ (get_or b i 0 + s.0 * 2 ^ 64) * base i = omega (arith, r.1, s.1) in
    let u : get_or a i 0 + r.0 * 2 ^ 64 ≡ get_or b i 0 + s.0 * 2 ^ 64 = eq_of_mul-eq-mul_right (base i) (base_some i) _ _ t in
    ne (omega arith)

-- words that write the same number are the same
module _ (a b : List ℕ) (fa : (i : ℕ) → get_or a i 0 < 2 ^ 64) (fb : (i : ℕ) → get_or b i 0 < 2 ^ 64) where
  words_same : (n m : ℕ) → upto n a ≡ upto n b → m ≤ n → (k : ℕ) → k < m → get_or a k 0 ≡ get_or b k 0
  words_same n zero e l k h = absurd (omega arith)
  words_same n (suc m) e l k h =
      elim (cases_eq k m) [
        | inl q ↦
            rw q
            (elim (cases_eq (get_or a m 0) (get_or b m 0)) [
              | inl same ↦ same
              | inr ne ↦
                  absurd
                  (upto_differ m n a b (omega arith) (upto_same m a b (words_same n m e (omega arith))) (fa m) (fb m) ne e)
            ])
        | inr ne ↦ words_same n m e (omega arith) k (omega arith)
      ]

  pub same_value : (r : Bool) → length a ≡ 8 → length b ≡ 8 → Decides r (a ≡ b) → r ≡ eqb (value a) (value b)
  same_value r la lb d =
      elim (cases_eq (value a) (value b)) [
        | inl e ↦
            d.1 (ext_get_or 0 a b (omega (arith, la, lb)) (λ i l. words_same 8 8 e (le_refl _) i (omega (arith, la, l)))) ∙ sym (eq-eqb _ _ e)
        | inr ne ↦
            elim (cases_Bool r) [
              | inl t ↦ absurd (ne (ap (λ l. value l) (d.0 t)))
              | inr f ↦ f ∙ sym (ne_eqb _ _ ne)
            ]
      ]

-- eight words that are 0
pub value_zeros : value (0 ∷ 0 ∷ 0 ∷ 0 ∷ 0 ∷ 0 ∷ 0 ∷ 0 ∷ []) ≡ 0
unfolding upto base
value_zeros = refl

-- the words of the whole
pub whole_words :
    value
    (0x77b11561e0ec9980 ∷ 0x828aac71a1852d9f ∷ 0xc5bab863233ab7e5 ∷ 0x9982fab5bfb714cf ∷ 0xd5c736238e883de6 ∷ 0x38cca8bd6aa ∷ 0 ∷ 0 ∷ [])
    ≡ whole
unfolding upto base whole
whole_words = refl

-- a sum that fits has no carry
pub no_carry : (v r n : ℕ) → v + r * base 8 ≡ n → n < base 8 → v ≡ n
no_carry v zero n e l = omega arith
no_carry v (suc r) n e l = absurd (omega arith)

-- a word times a number of seven words fits eight
pub times_fits : (n v : ℕ) → n < 2 ^ 64 → v < base 7 → n * v < base 8
times_fits n v l m =
    omega
    (arith, mul-le n v 18446744073709551615 (base 7) (omega arith) (omega arith), base_more 7, base_some 7)

pub seven_eight : base 7 < base 8
seven_eight = omega (arith, base_more 7, base_some 7)

pub whole_fits : whole < base 7
unfolding whole base
whole_fits = lit< tt

all_fit : 200 * (18446744073709551616 * whole) < base 7
unfolding whole base
all_fit = lit< tt

-- two hundred words over any denominators fit seven words
pub sum_fits :
    (n : ℕ) (a d : ℕ → ℕ) → n ≤ 200 → ((j : ℕ) → j < n → a j < 2 ^ 64) → sum n (λ j. a j * (whole / d j)) < base 7
sum_fits n a d l h =
    let each : sum n (λ j. a j * (whole / d j)) ≤ n * (18446744073709551616 * whole) =
    sum_bound n _ _ (λ j m. mul-le (a j) (whole / d j) _ whole (omega (arith, h j m)) (div-le_self whole (d j))) in
    omega (arith, all_fit, mul-le-mul_right (18446744073709551616 * whole) l)
