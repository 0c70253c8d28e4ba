-- Laws of the binary digits of a number.
use Rattle.std.proofs.Common.{◌≡◌, ℕ, zero, suc, ◌+◌, ◌-◌, ◌/◌, ◌%◌, ◌^◌, ◌<◌, ◌≤◌, true, false, cond, not, ◌&&◌, ◌||◌, eqb, ltb, sym, refl, ap, ◌∙◌, pow-suc, arith}
use native.Mathlib.Nat.{zero-div}
use lib.Bits.{bit_and, bit_or, bit_xor}
use lib.Count.{ones, ones_step, count_trailing_zeros, under}
use Rattle.std.proofs.lemmas.Nat.{and_shr, or_shr, xor_shr, and_mod, or_mod, xor_mod, shr-shr, pow_pos, mod_below}
use Rattle.std.proofs.lemmas.Bool.Decides.{nat_tests}
use Rattle.fraction.specs.Sum.{sum, size}
use Rattle.fraction.proofs.Sums.{sum_none, sum_same}
use Rattle.sets.specs.Bit.{bit}

-- the number 0 has no digit 1
pub bit_zero : (k : ℕ) → bit 0 k ≡ false
unfolding bit
bit_zero k = let z : 0 / 2 ^ k ≡ 0 = zero-div (2 ^ k) in rw z

-- the digits above the lowest are those of the half
pub bit_suc : (n k : ℕ) → bit n (suc k) ≡ bit (n / 2) k
unfolding bit
bit_suc n k =
    let j : 1 + k ≡ suc k = omega arith in
    let e : n / 2 / 2 ^ k ≡ n / 2 ^ suc k = shr-shr n 1 k ∙ ap (λ i. n / 2 ^ i) j in rw e

pub bit_first : (n : ℕ) → bit n 0 ≡ eqb (n % 2) 1
unfolding bit
bit_first n = let e : n / 2 ^ 0 ≡ n = omega arith in rw e

-- digits of a conjunction, a disjunction and an exclusive disjunction
and_digit : (x y : ℕ) → x < 2 → y < 2 → eqb (bit_and x y) 1 ≡ (eqb x 1 && eqb y 1)
and_digit zero y p q = refl
and_digit (suc zero) zero p q = refl
and_digit (suc zero) (suc zero) p q = refl
and_digit (suc zero) (suc (suc y)) p q = absurd (omega arith)
and_digit (suc (suc x)) y p q = absurd (omega arith)

or_digit : (x y : ℕ) → x < 2 → y < 2 → eqb (bit_or x y) 1 ≡ (eqb x 1 || eqb y 1)
or_digit zero y p q = refl
or_digit (suc zero) zero p q = refl
or_digit (suc zero) (suc zero) p q = refl
or_digit (suc zero) (suc (suc y)) p q = absurd (omega arith)
or_digit (suc (suc x)) y p q = absurd (omega arith)

xor_digit : (x y : ℕ) → x < 2 → y < 2 → eqb (bit_xor x y) 1 ≡ cond (eqb x 1) (not (eqb y 1)) (eqb y 1)
xor_digit zero y p q = refl
xor_digit (suc zero) zero p q = refl
xor_digit (suc zero) (suc zero) p q = refl
xor_digit (suc zero) (suc (suc y)) p q = absurd (omega arith)
xor_digit (suc (suc x)) y p q = absurd (omega arith)

pub bit_of_and : (a b k : ℕ) → bit (bit_and a b) k ≡ (bit a k && bit b k)
unfolding bit
bit_of_and a b k =
    rw (and_shr a b k, and_mod (a / 2 ^ k) (b / 2 ^ k) 1)
    (and_digit (a / 2 ^ k % 2) (b / 2 ^ k % 2) (mod_below (a / 2 ^ k) 2 (omega arith)) (mod_below (b / 2 ^ k) 2 (omega arith)))

pub bit_of_or : (a b k : ℕ) → bit (bit_or a b) k ≡ (bit a k || bit b k)
unfolding bit
bit_of_or a b k =
    rw (or_shr a b k, or_mod (a / 2 ^ k) (b / 2 ^ k) 1)
    (or_digit (a / 2 ^ k % 2) (b / 2 ^ k % 2) (mod_below (a / 2 ^ k) 2 (omega arith)) (mod_below (b / 2 ^ k) 2 (omega arith)))

pub bit_of_xor : (a b k : ℕ) → bit (bit_xor a b) k ≡ cond (bit a k) (not (bit b k)) (bit b k)
unfolding bit
bit_of_xor a b k =
    rw (xor_shr a b k, xor_mod (a / 2 ^ k) (b / 2 ^ k) 1)
    (xor_digit (a / 2 ^ k % 2) (b / 2 ^ k % 2) (mod_below (a / 2 ^ k) 2 (omega arith)) (mod_below (b / 2 ^ k) 2 (omega arith)))

-- the digits of a that b has not
pub bit_minus : (a b k : ℕ) → bit (bit_xor a (bit_and a b)) k ≡ (bit a k && not (bit b k))
bit_minus a b k = rw (bit_of_xor a (bit_and a b) k, bit_of_and a b k) (grind arith)

-- the digits of 2 ^ i, and of 2 ^ n - 1
pub bit_power : (i k : ℕ) → bit (2 ^ i) k ≡ eqb k i
bit_power zero zero = rw bit_first
bit_power zero (suc k) = rw (bit_suc 1 k, bit_zero k) (grind (arith, nat_tests))
bit_power (suc i) zero =
    let e : 2 ^ suc i % 2 ≡ 0 = omega (arith, pow-suc 2 i) in rw (bit_first (2 ^ suc i), e) (grind (arith, nat_tests))
bit_power (suc i) (suc k) =
    let e : 2 ^ suc i / 2 ≡ 2 ^ i = omega (arith, pow-suc 2 i) in
    rw (bit_suc (2 ^ suc i) k, e, bit_power i k) (grind (arith, nat_tests))

pub bit_ones : (n k : ℕ) → bit (2 ^ n - 1) k ≡ ltb k n
bit_ones zero k = rw (bit_zero k) (grind (arith, nat_tests))
bit_ones (suc n) zero =
    let e : (2 ^ suc n - 1) % 2 ≡ 1 = omega (arith, pow-suc 2 n, pow_pos n) in rw (bit_first (2 ^ suc n - 1), e) (grind (arith, nat_tests))
bit_ones (suc n) (suc k) =
    let e : (2 ^ suc n - 1) / 2 ≡ 2 ^ n - 1 = omega (arith, pow-suc 2 n, pow_pos n) in
    rw (bit_suc (2 ^ suc n - 1) k, e, bit_ones n k) (grind (arith, nat_tests))

-- a number below 2 ^ n has its digits below n
pub bit_below : (n a k : ℕ) → a < 2 ^ n → n ≤ k → bit a k ≡ false
bit_below zero a k h l = let e : a ≡ 0 = omega arith in rw (e, bit_zero k)
bit_below (suc n) a zero h l = absurd (omega arith)
bit_below (suc n) a (suc k) h l =
    rw bit_suc (bit_below n (a / 2) k (omega (arith, pow-suc 2 n)) (omega arith))

-- numbers with the same digits are equal
pub bit_same : (n a b : ℕ) → a < 2 ^ n → b < 2 ^ n → ((k : ℕ) → bit a k ≡ bit b k) → a ≡ b
bit_same zero a b p q h = omega arith
bit_same (suc n) a b p q h =
    let halves : a / 2 ≡ b / 2 =
    bit_same n (a / 2) (b / 2) (omega (arith, pow-suc 2 n)) (omega (arith, pow-suc 2 n))
    (λ k. sym (bit_suc a k) ∙ h (suc k) ∙ bit_suc b k) in
    let low : eqb (a % 2) 1 ≡ eqb (b % 2) 1 = sym (bit_first a) ∙ h 0 ∙ bit_first b in
    grind (arith, nat_tests)

-- the first term of a sum apart
pub sum_first : (n : ℕ) (f : ℕ → ℕ) → sum (suc n) f ≡ f 0 + sum n (λ i. f (suc i))
unfolding sum
sum_first zero f = omega arith
sum_first (suc n) f = omega (arith, sum_first n f)

-- how many digits are 1
pub ones_size : (n a : ℕ) → a < 2 ^ n → ones a ≡ size n (bit a)
ones_size zero a h =
    let e : a ≡ 0 = omega arith in rw e (omega (arith, sum_none (λ i. cond (bit 0 i) 1 0), lib.Count.ones-ones 0))
ones_size (suc n) a h =
    let rest : sum n (λ i. cond (bit a (suc i)) 1 0) ≡ size n (bit (a / 2)) =
    sum_same n _ _ (λ i l. ap (λ b. cond {A = ℕ} b 1 0) (bit_suc a i)) in
    let low : cond {A = ℕ} (bit a 0) 1 0 ≡ a % 2 = rw bit_first (grind (arith, nat_tests)) in
    omega (
      arith,
      ones_step a,
      sum_first n (λ i. cond (bit a i) 1 0),
      rest,
      low,
      ones_size n (a / 2) (omega (arith, pow-suc 2 n)),
    )

-- below the zeros at the end of a number no digit is 1
under_before :
    (a d t : ℕ) → a % 2 ≡ d → ((k : ℕ) → k < t → bit (a / 2) k ≡ false) → (k : ℕ) → k < under d t → bit a k ≡ false
under_before a (suc d) t e rest k h = absurd (omega arith)
under_before a zero t e rest zero h = rw (bit_first a, e)
under_before a zero t e rest (suc k) h = rw bit_suc (rest k (omega arith))

pub trailing_before : (n a k : ℕ) → k < count_trailing_zeros n a → bit a k ≡ false
unfolding count_trailing_zeros
trailing_before zero a k h = absurd (omega arith)
trailing_before (suc n) a k h =
    under_before a (a % 2) (count_trailing_zeros n (a / 2)) refl (trailing_before n (a / 2)) k h

-- right above them one is, unless the number is 0
under_at :
    (a d t n : ℕ) → a % 2 ≡ d → (d ≡ 0 → (t < n) × (bit (a / 2) t ≡ true)) →
    (under d t < suc n) × (bit a (under d t) ≡ true)
under_at a (suc d) t n e rest =
    (omega arith, (let o : a % 2 ≡ 1 = omega (arith, mod_below a 2 (omega arith)) in rw (bit_first a, o)))
under_at a zero t n e rest = (omega (arith, (rest refl).0), rw bit_suc (rest refl).1)

pub trailing_at : (n a : ℕ) → a < 2 ^ n → 0 < a → (count_trailing_zeros n a < n) × (bit a (count_trailing_zeros n a) ≡ true)
unfolding count_trailing_zeros
trailing_at zero a h p = absurd (omega arith)
trailing_at (suc n) a h p =
    under_at a (a % 2) (count_trailing_zeros n (a / 2)) n refl
    (λ e. trailing_at n (a / 2) (omega (arith, pow-suc 2 n)) (omega arith))
