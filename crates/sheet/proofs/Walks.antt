-- A walk over the hours of a set, the lowest first.
use Rattle.std.proofs.Common.{Some, ◌≡◌, ℕ, ◌+◌, ◌<◌, ◌≤◌, Bool, true, false, not, cond, eqb, sym, refl, ◌∙◌, inl, inr, arith}
use Rattle.std.proofs.lemmas.Bool.{and_parts, both_ways, cases_eq, cases_lt, cases_Bool, eq-eqb, ne_eqb}
use Rattle.fraction.specs.Sum.{size}
use Rattle.sets.specs.Iter.{Takes}
use Rattle.sheet.proofs.Places.{sum_cut}

-- the hours of a set that are still to come are those from m on
pub record From (set rest : ℕ → Bool) (m : ℕ) : Type 0 where
  pub member : (k : ℕ) → rest k ≡ true → set k ≡ true
  pub low : (k : ℕ) → rest k ≡ true → m ≤ k
  pub all : (k : ℕ) → set k ≡ true → m ≤ k → rest k ≡ true

pub from_all : (set : ℕ → Bool) → From set set 0
from_all set = record { member = λ k h. h; low = λ k h. omega arith; all = λ k h l. h }

-- the hour that comes is none that came, and no other comes in between
pub record Came (set next : ℕ → Bool) (m i : ℕ) : Type 0 where
  pub from : From set next (i + 1)
  pub after : m ≤ i
  pub member : set i ≡ true
  pub between : (k : ℕ) → m ≤ k → k < i → set k ≡ false

-- what is left when hour i has been taken out
pub taken_other : (rest next : ℕ → Bool) (n i k : ℕ) → Takes n rest (Some i) next → next k ≡ true → (rest k ≡ true) × (k ≡ i → ⊥)
taken_other rest next n i k t h =
    let both = and_parts (rest k) (not (eqb k i)) (sym (t.1 k) ∙ h) in
    (both.0, λ e. both_ways (not (eqb k i)) (rw (eq-eqb k i e) refl) both.1)

pub taken_left : (rest next : ℕ → Bool) (n i k : ℕ) → Takes n rest (Some i) next → rest k ≡ true → (k ≡ i → ⊥) → next k ≡ true
taken_left rest next n i k t h ne = t.1 k ∙ (rw (h, ne_eqb k i ne) refl)

pub came : (set rest next : ℕ → Bool) (n m i : ℕ) → From set rest m → Takes n rest (Some i) next → Came set next m i
came set rest next n m i f t =
    record {
      from =
          record {
            member = λ k h. f.member k (taken_other rest next n i k t h).0;
            low =
                λ k h.
                let o = taken_other rest next n i k t h in
                elim (cases_lt k i) [
                  | inl l ↦ absurd (both_ways (rest k) (t.0.first k l) o.0)
                  | inr ge ↦ elim (cases_eq k i) [ inl e ↦ absurd (o.1 e) | inr ne ↦ omega arith ]
                ];
            all =
                λ k h l.
                taken_left rest next n i k t (f.all k h (omega (arith, f.low i t.0.member, l))) (λ e. absurd (omega (arith, e, l)));
          };
      after = f.low i t.0.member;
      member = f.member i t.0.member;
      between =
          λ k a l.
          elim (cases_Bool (set k)) [
            | inl h ↦ absurd (both_ways (rest k) (t.0.first k l) (f.all k h a))
            | inr h ↦ h
          ];
    }

-- at the end none is left
pub from_end : (set rest : ℕ → Bool) (m : ℕ) → From set rest m → ((k : ℕ) → rest k ≡ false) → (k : ℕ) → m ≤ k → set k ≡ false
from_end set rest m f z k a =
    elim (cases_Bool (set k)) [ inl h ↦ absurd (both_ways (rest k) (z k) (f.all k h a)) | inr h ↦ h ]

-- hours that are not in a set add nothing to its size
pub size_gap : (m i : ℕ) (set : ℕ → Bool) → m ≤ i → ((k : ℕ) → m ≤ k → k < i → set k ≡ false) → size i set ≡ size m set
size_gap m i set l h = sum_cut m i (λ k. cond (set k) 1 0) l (λ k a b. rw (h k a b) refl)
