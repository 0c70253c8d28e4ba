-- Laws of the rows of bits of tasks.
use Rattle.std.proofs.Common.{◌≡◌, ℕ, zero, suc, ◌/◌, ◌^◌, ◌<◌, ◌≤◌, true, not, ◌⊎◌, sym, ap, ◌∙◌, inl, inr, pow-suc, arith}
use Rattle.std.proofs.lemmas.Nat.{pow_pos}
use Rattle.std.proofs.lemmas.Bool.{cases_lt, cases_Bool, both_ways, eqb-true}
use Rattle.fraction.specs.Sum.{any}
use Rattle.fraction.proofs.Sums.{any_some, any_has, look}
use Rattle.sets.specs.declared.hours.Hours.{Hours}
use Rattle.sets.specs.Bit.{bit}
use Rattle.sets.specs.Hours.{has}
use Rattle.night.specs.declared.task.Task.{Task}
use Rattle.night.specs.Task.{Fits}
use Rattle.sets.proofs.Bits.{bit_zero, bit_suc, bit_same, bit_below}
use Rattle.sets.proofs.Members.{has_below, has_bit, empty_bits, zero_digit}

-- a number whose digits lie below n is below 2 ^ n
pub bits_lt : (n m a : ℕ) → a < 2 ^ m → ((k : ℕ) → bit a k ≡ true → k < n) → a < 2 ^ n
bits_lt zero m a l h =
    let z : a ≡ 0 =
    bit_same m a 0 l (pow_pos m)
    (λ k. elim (cases_Bool (bit a k)) [ inl t ↦ absurd (omega (arith, h k t)) | inr f ↦ f ∙ sym (bit_zero k) ]) in
    omega arith
bits_lt (suc n) zero a l h = omega (arith, pow_pos (suc n))
bits_lt (suc n) (suc m) a l h =
    let half =
    bits_lt n m (a / 2) (omega (arith, pow-suc 2 m)) (λ k t. omega (arith, h (suc k) (bit_suc a k ∙ t))) in
    omega (arith, half, pow-suc 2 n)

-- a set whose word is below 2 ^ n lies below n
pub has_within : (h : Hours) (n k : ℕ) → h.bits < 2 ^ n → has h k ≡ true → k < n
has_within h n k l t =
    elim (cases_lt k n) [
      | inl s ↦ s
      | inr g ↦
          absurd
          (both_ways (bit h.bits k) (bit_below n h.bits k l g) (sym (has_bit h k (has_below h k t)) ∙ t))
    ]

-- a set that isn't empty and lies below n
pub row_good :
    (h : Hours) (n : ℕ) → h.bits < 2 ^ 128 → any 128 (has h) ≡ true → ((k : ℕ) → has h k ≡ true → k < n) →
    (any n (has h) ≡ true) × (h.bits < 2 ^ n)
row_good h n f some all =
    let r = any_some 128 (has h) some in (
      any_has n (has h) r.0 (all r.0 r.2) r.2,
      bits_lt n 128 h.bits f
          (λ k b. elim (cases_lt k 128) [
            | inl l ↦ all k (has_bit h k l ∙ b)
            | inr g ↦ absurd (both_ways (bit h.bits k) (bit_below 128 h.bits k f g) b)
          ]),
    )

-- an hour is one of the set from n on, or it is below n if it is in the set
past :
    (h : Hours) (n k : ℕ) → k < 128 → ((n ≤ k) × (bit h.bits k ≡ true)) ⊎ (has h k ≡ true → k < n)
past h n k l =
    elim (cases_lt k n) [
      | inl s ↦ inr (λ t. s)
      | inr g ↦
          elim (cases_Bool (has h k)) [
            | inl t ↦ inl (g, sym (has_bit h k l) ∙ t)
            | inr o ↦ inr (λ t. absurd (both_ways (has h k) o t))
          ]
    ]

-- what a row that doesn't fit has: no digit, or one from n on
pub row_bad :
    (h : Hours) (n : ℕ) → h.bits < 2 ^ 128 → ((any n (has h) ≡ true) × (h.bits < 2 ^ n) → ⊥) →
    (h.bits ≡ 0) ⊎ ((k : ℕ) × (n ≤ k) × (bit h.bits k ≡ true))
row_bad h n f bad =
    elim (cases_Bool (any 128 (has h))) [
      | inr none ↦ inl (eqb-true h.bits 0 (empty_bits h f ∙ ap not none))
      | inl some ↦
          elim
          (look {P = λ k. (n ≤ k) × (bit h.bits k ≡ true)} {Q = λ k. has h k ≡ true → k < n} 128 (past h n)) [
            | inl r ↦ inr (r.0, r.2.0, r.2.1)
            | inr all ↦ absurd (bad (row_good h n f some (λ k t. all k (has_below h k t) t)))
          ]
    ]

-- a task that fits has no bad row
pub fits_row :
    (n : ℕ) (t : Task) → Fits n t → (t.hours.bits ≡ 0) ⊎ ((k : ℕ) × (n ≤ k) × (bit t.hours.bits k ≡ true)) → ⊥
fits_row n t f (inl z) =
    let r = any_some n (has t.hours) f.1 in
    let b = has_bit t.hours r.0 (has_below t.hours r.0 r.2) in
    both_ways (bit t.hours.bits r.0) (zero_digit t.hours.bits r.0 z) (sym b ∙ r.2)
fits_row n t f (inr (k, l, b)) = both_ways (bit t.hours.bits k) (bit_below n t.hours.bits k f.2 l) b

-- a set with an hour below n has one below 128
pub any_some_word : (h : Hours) (n : ℕ) → any n (has h) ≡ true → any 128 (has h) ≡ true
any_some_word h n t =
    let r = any_some n (has h) t in any_has 128 (has h) r.0 (has_below h r.0 r.2) r.2
