-- Laws of the first index that passes a test.
use Rattle.std.proofs.Common.{◌≡◌, ℕ, zero, suc, ◌+◌, ◌*◌, ◌/◌, ◌%◌, ◌^◌, ◌<◌, ◌≤◌, min, Bool, true, false, ◌⊎◌, List, length, take, drop, get_or, sym, refl, ap, ◌∙◌, inl, inr, arith}
use lib.Count.{count_trailing_zeros}
use Rattle.std.proofs.lemmas.Bool.Decides.{nat_tests}
use Rattle.std.proofs.lemmas.Bool.{both_ways, cases_Bool, cases_eq, cases_lt, lt-ltb}
use Rattle.std.proofs.lemmas.Nat.{div-mul-add, mod-mul-add}
use Rattle.sets.specs.Bit.{bit}
use Rattle.night.specs.Format.{width}
use Rattle.sets.proofs.Bits.{bit_zero, trailing_before, trailing_at}
use Rattle.sheet.specs.First.{first}
use Rattle.sheet.proofs.Chunks.{slice_long, slice_at}

pub first_none : (n : ℕ) (p : ℕ → Bool) → ((i : ℕ) → i < n → p i ≡ false) → first n p ≡ n
unfolding first
first_none zero p h = refl
first_none (suc n) p h =
    let e = first_none n p (λ i l. h i (omega arith)) in
    let f = h n (omega arith) in
    grind (arith, nat_tests)

pub first_is :
    (n : ℕ) (p : ℕ → Bool) (k : ℕ) → k < n → p k ≡ true → ((i : ℕ) → i < k → p i ≡ false) → first n p ≡ k
unfolding first
first_is zero p k l t h = absurd (omega arith)
first_is (suc n) p k l t h =
    elim (cases_eq k n) [
      | inl e ↦ (let w = first_none n p (λ i m. h i (omega arith)) in let t' = rw e at t in rw e (grind (arith, nat_tests)))
      | inr ne ↦ (let w = first_is n p k (omega arith) t h in grind (arith, nat_tests))
    ]

-- the row of bits in bytes of which those before byte k are 0
pub bits_none : (b : List ℕ) (p n : ℕ) → ((i : ℕ) → i < width n → get_or b (p + i) 0 ≡ 0) →
    first n (λ i. bit (get_or b (p + i / 8) 0) (i % 8)) ≡ n
bits_none b p n h =
    first_none n _ (λ i l. ap (λ v. bit v (i % 8)) (h (i / 8) (omega arith)) ∙ bit_zero (i % 8))

pub bits_first :
    (b : List ℕ) (p n k : ℕ) → ((i : ℕ) → i < k → get_or b (p + i) 0 ≡ 0) → get_or b (p + k) 0 < 2 ^ 8 → 0 < get_or b (p + k) 0 →
    min n (k * 8 + count_trailing_zeros 8 (get_or b (p + k) 0)) ≡ first n (λ i. bit (get_or b (p + i / 8) 0) (i % 8))
bits_first b p n k z fits some =
    let t = count_trailing_zeros 8 (get_or b (p + k) 0) in
    let at = trailing_at 8 (get_or b (p + k) 0) fits some in
    let small : t < 8 = at.0 in
    let bits : ℕ → Bool = λ i. bit (get_or b (p + i / 8) 0) (i % 8) in
    let before : (i : ℕ) → i < k * 8 + t → bits i ≡ false =
    λ i l.
    elim (cases_lt (i / 8) k) [
      | inl m ↦ ap (λ v. bit v (i % 8)) (z (i / 8) m) ∙ bit_zero (i % 8)
      | inr ge ↦
          (let e : i / 8 ≡ k = omega arith in
          let m : i % 8 < t = omega arith in
          ap (λ q. bit (get_or b (p + q) 0) (i % 8)) e ∙ trailing_before 8 (get_or b (p + k) 0) (i % 8) m)
    ] in
    let here : bits (k * 8 + t) ≡ true =
    ap (λ q. bit (get_or b (p + q) 0) ((k * 8 + t) % 8)) (div-mul-add k 8 t small)
    ∙ (ap (λ r. bit (get_or b (p + k) 0) r) (mod-mul-add k 8 t small) ∙ at.1) in
    elim (cases_lt (k * 8 + t) n) [
      | inl l ↦ (let m : min n (k * 8 + t) ≡ k * 8 + t = omega arith in m ∙ sym (first_is n bits (k * 8 + t) l here before))
      | inr ge ↦
          (let m : min n (k * 8 + t) ≡ n = omega arith in m ∙ sym (first_none n bits (λ i l. before i (omega arith))))
    ]

-- the same by the bytes of the row alone
module _ (b : List ℕ) (p n len : ℕ) where
  pub row_none :
      width n ≤ len → p + len ≤ length b →
      ((i : ℕ) → i < length (take len (drop p b)) → get_or (take len (drop p b)) i 0 ≡ 0) →
      first n (λ i. bit (get_or b (p + i / 8) 0) (i % 8)) ≡ n
  row_none w h z =
      bits_none b p n
      (λ i l. sym (slice_at b p len i (omega arith)) ∙ z i (omega (arith, slice_long b p len h)))

  pub row_first :
      (k : ℕ) → k < len → ((i : ℕ) → i < k → get_or (take len (drop p b)) i 0 ≡ 0) →
      get_or (take len (drop p b)) k 0 < 2 ^ 8 → 0 < get_or (take len (drop p b)) k 0 →
      min n (k * 8 + count_trailing_zeros 8 (get_or (take len (drop p b)) k 0)) ≡ first n (λ i. bit (get_or b (p + i / 8) 0) (i % 8))
  row_first k l z fits some =
      let e = slice_at b p len k l in
      ap (λ v. min n (k * 8 + count_trailing_zeros 8 v)) e
      ∙ bits_first b p n k (λ i m. sym (slice_at b p len i (omega arith)) ∙ z i m) (omega (arith, e)) (omega (arith, e))

-- the first index that passes is found, or none passes
first_cases :
    (n : ℕ) (p : ℕ → Bool) → ((first n p < n) × (p (first n p) ≡ true)) ⊎ ((i : ℕ) → i < n → p i ≡ false)
unfolding first
first_cases zero p = inr (λ i l. absurd (omega arith))
first_cases (suc n) p =
    elim (first_cases n p) [
      | inl r ↦ (let e = lt-ltb (first n p) n r.0 in inl (rw e (omega (arith, r.0)), rw e r.1))
      | inr none ↦
          elim (cases_Bool (p n)) [
            | inl t ↦ (let e = first_is (suc n) p n (omega arith) t none in inl (rw e (omega arith), rw e t))
            | inr f ↦ inr (λ i l. elim (cases_eq i n) [ inl q ↦ rw q f | inr ne ↦ none i (omega arith) ])
          ]
    ]

pub first_finds :
    (n : ℕ) (p : ℕ → Bool) (k : ℕ) → k < n → p k ≡ true → (first n p < n) × (p (first n p) ≡ true)
first_finds n p k l t =
    elim (first_cases n p) [ inl r ↦ r | inr none ↦ absurd (both_ways (p k) (none k l) t) ]
