-- Laws of sets of hours.
use Rattle.std.specs.Prelude.{OnSome}
use Rattle.std.proofs.Common.{Option, None, Some, rules, ◌≡◌, ℕ, ◌+◌, ◌^◌, ◌<◌, Bool, true, false, cond, not, ◌&&◌, eqb, ltb, Decides, sym, ap, ◌∙◌, inl, inr, arith}
use lib.Count.{ones, count_trailing_zeros}
use Rattle.std.proofs.lemmas.Bool.Decides.{nat_tests}
use Rattle.std.proofs.lemmas.Bool.{cases_eq, cases_lt, cases_Bool, both_ways, not-true, eq-eqb, ne_eqb}
use Rattle.fraction.specs.Sum.{part, size, any}
use Rattle.fraction.proofs.Sums.{sum_same, sum_update, any_some, any_none, any_hasn't}
use Rattle.sets.specs.declared.hours.Hours.{Hours}
use Rattle.sets.specs.Bit.{bit}
use Rattle.sets.specs.Hours.{has, blank, Lowest}
use Rattle.sets.specs.Iter.{Takes}
use Rattle.sets.proofs.Bits.{bit_zero, bit_same, bit_below, ones_size, trailing_before, trailing_at}

-- an hour of a set lies below 128
pub has_below : (h : Hours) (i : ℕ) → has h i ≡ true → i < 128
unfolding has
has_below h i m = grind (arith, nat_tests)

-- below 128 the hours of a set are its digits
pub has_bit : (h : Hours) (i : ℕ) → i < 128 → has h i ≡ bit h.bits i
unfolding has
has_bit h i l = grind (arith, nat_tests)

-- the empty set has no hour
pub has_blank : (i : ℕ) → has blank i ≡ false
unfolding has
has_blank i = rw bit_zero (grind (arith, nat_tests))

-- a set with no hour below 128 has none
pub none_any : (h : Hours) → any 128 (has h) ≡ false → (i : ℕ) → has h i ≡ false
none_any h e i =
    elim (cases_lt i 128) [
      | inl l ↦ any_none 128 (has h) e i l
      | inr g ↦
          elim (cases_Bool (has h i)) [ inl t ↦ absurd (omega (arith, has_below h i t)) | inr f ↦ f ]
    ]

-- sets of two words with the same hours are the same
same_digits : (g h : Hours) → h.bits < 2 ^ 128 → g.bits < 2 ^ 128 → ((i : ℕ) → has g i ≡ has h i) → g.bits ≡ h.bits
same_digits g h p q e =
    bit_same 128 g.bits h.bits q p
    (λ i. elim (cases_lt i 128) [
      | inl l ↦ sym (has_bit g i l) ∙ e i ∙ has_bit h i l
      | inr o ↦ bit_below 128 g.bits i q o ∙ sym (bit_below 128 h.bits i p o)
    ])

pub same_members : (g h : Hours) → g.bits < 2 ^ 128 → h.bits < 2 ^ 128 → ((i : ℕ) → has g i ≡ has h i) → g ≡ h
same_members g h q p e = ap (λ b. record { bits = b }) (same_digits g h p q e)

-- the sum over a set without one of its members, and its size
pub part_remove :
    (n : ℕ) (p q : ℕ → Bool) (f : ℕ → ℕ) (i : ℕ) → i < n → p i ≡ true → ((k : ℕ) → q k ≡ (p k && not (eqb k i))) →
    part n q f + f i ≡ part n p f
part_remove n p q f i l m e =
    let u =
    sum_update n (λ k. cond (p k) (f k) 0) (λ k. cond (q k) (f k) 0) i l
    (λ k b ne. let w = e k in grind (arith, nat_tests)) in
    let w = e i in
    let at : cond (p i) (f i) 0 ≡ f i = grind (arith, nat_tests) in
    let gone : cond (q i) (f i) 0 ≡ 0 = grind (arith, nat_tests) in
    omega (arith, u, at, gone)

pub size_remove :
    (n : ℕ) (p q : ℕ → Bool) (i : ℕ) → i < n → p i ≡ true → ((k : ℕ) → q k ≡ (p k && not (eqb k i))) →
    size n q + 1 ≡ size n p
size_remove n p q i l m e = part_remove n p q (λ k. 1) i l m e

-- an hour less lowers the size of a set by one
pub count_remove :
    (h g : Hours) (i : ℕ) → has h i ≡ true → ((k : ℕ) → has g k ≡ (has h k && not (eqb k i))) →
    size 128 (has g) + 1 ≡ size 128 (has h)
count_remove h g i m e = size_remove 128 (has h) (has g) i (has_below h i m) m e

-- a number that is taken out of a set leaves fewer
pub takes_fewer :
    (n : ℕ) (p q : ℕ → Bool) (r : Option ℕ) → Takes n p r q → OnSome r (size n q < size n p)
takes_fewer n p q None t = search rules
takes_fewer n p q (Some i) t = let fewer = size_remove n p q i t.0.below t.0.member t.1 in search rules

pub zero_digit : (n k : ℕ) → n ≡ 0 → bit n k ≡ false
zero_digit n k z = rw z (bit_zero k)

-- the empty set is the word 0
pub empty_bits : (h : Hours) → h.bits < 2 ^ 128 → eqb h.bits 0 ≡ not (any 128 (has h))
empty_bits h f =
    elim (cases_Bool (any 128 (has h))) [
      | inl t ↦
          let r = any_some 128 (has h) t in
          let b = sym (has_bit h r.0 r.1) ∙ r.2 in
          elim (cases_eq h.bits 0) [
            | inl z ↦ absurd (both_ways _ (zero_digit h.bits r.0 z) b)
            | inr nz ↦ rw t (ne_eqb h.bits 0 nz)
          ]
      | inr n ↦
          let z : h.bits ≡ 0 =
          same_digits h blank (omega arith) f (λ i. none_any h n i ∙ sym (has_blank i)) in
          rw n (eq-eqb h.bits 0 z)
    ]

-- the size of a set is how many digits are 1
pub size_bits : (h : Hours) → h.bits < 2 ^ 128 → ones h.bits ≡ size 128 (has h)
size_bits h f =
    ones_size 128 h.bits f
    ∙ sum_same 128 _ _ (λ i l. ap (λ b. cond {A = ℕ} b 1 0) (sym (has_bit h i l)))

-- the lowest hour is how many zeros the word ends in
pub lowest_bits : (h : Hours) → h.bits < 2 ^ 128 → 0 < h.bits → Lowest h (count_trailing_zeros 128 h.bits)
lowest_bits h f p =
    let at = trailing_at 128 h.bits f p in
    record {
      member = has_bit h (count_trailing_zeros 128 h.bits) at.0 ∙ at.1;
      below = at.0;
      first = λ k l. has_bit h k (omega (arith, at.0)) ∙ trailing_before 128 h.bits k l;
    }

-- a set with nothing outside of the hours below n lies below n
pub outside_none :
    (h below rest : Hours) (n : ℕ) → ((k : ℕ) → has below k ≡ (ltb k n && ltb k 128)) →
    ((k : ℕ) → has rest k ≡ (has h k && not (has below k))) →
    Decides (not (any 128 (has rest))) ((k : ℕ) → has h k ≡ true → k < n)
outside_none h below rest n b r = (
  λ e k m. let none = none_any rest (not-true _ e) k in let x = b k in let y = r k in let l = has_below h k m in grind (arith, nat_tests),
  λ all. ap not (any_hasn't 128 (has rest) (λ k l. let a = all k in let x = b k in let y = r k in grind (arith, nat_tests))),
)
