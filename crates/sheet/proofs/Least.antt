-- An hour in which least lies, found in a walk.
use Rattle.std.proofs.Common.{Some, ◌≡◌, ℕ, ◌<◌, Bool, true, false, ◌⊎◌, List, inl, inr}
use Rattle.std.proofs.lemmas.Bool.{both_ways, cases_eq}
use Rattle.sets.specs.Iter.{Takes}
use Rattle.sheet.specs.Layout.{lower}
use Rattle.sheet.specs.Sheet.{den}
use Rattle.sheet.proofs.Slopes.{lower_more, lower_self}
use Rattle.sheet.proofs.Walks.{taken_other, taken_left}

-- of the hours of a set that came, none is lower than the best
pub record Best (b : List ℕ) (set rest : ℕ → Bool) (best : ℕ) : Type 0 where
  pub is : set best ≡ true
  pub member : (k : ℕ) → rest k ≡ true → set k ≡ true
  pub least : (k : ℕ) → set k ≡ true → (rest k ≡ true) ⊎ (lower b k best ≡ false)

module _ (b : List ℕ) (set : ℕ → Bool) where
  pub best_first : (first : ℕ) → set first ≡ true → Best b set set first
  best_first first h = record { is = h; member = λ k m. m; least = λ k m. inl m }

  module _ (rest next : ℕ → Bool) (n best t : ℕ) (f : Best b set rest best) (s : Takes n rest (Some t) next) where
    -- an hour in which less lies
    pub best_lower : 0 < den b best → lower b t best ≡ true → Best b set next t
    best_lower o h =
        record {
          is = f.member t s.0.member;
          member = λ k m. f.member k (taken_other rest next n t k s m).0;
          least =
              λ k m.
              elim (cases_eq k t) [
                | inl e ↦ inr (rw e (lower_self b t))
                | inr ne ↦
                    elim (f.least k m) [
                      | inl r ↦ inl (taken_left rest next n t k s r ne)
                      | inr l ↦ inr (lower_more b k best t o l h)
                    ]
              ];
        }

    -- and one in which no less lies
    pub best_stays : lower b t best ≡ false → Best b set next best
    best_stays h =
        record {
          is = f.is;
          member = λ k m. f.member k (taken_other rest next n t k s m).0;
          least =
              λ k m.
              elim (cases_eq k t) [
                | inl e ↦ inr (rw e h)
                | inr ne ↦
                    elim (f.least k m) [ inl r ↦ inl (taken_left rest next n t k s r ne) | inr l ↦ inr l ]
              ];
        }

  pub best_least : (rest : ℕ → Bool) (best : ℕ) → Best b set rest best → ((k : ℕ) → rest k ≡ false) → (k : ℕ) → set k ≡ true → lower b k best ≡ false
  best_least rest best f z k m =
      elim (f.least k m) [ inl r ↦ absurd (both_ways (rest k) (z k) r) | inr l ↦ l ]
