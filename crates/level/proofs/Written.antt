-- Writing the rows of a group, one by one.
use Rattle.std.proofs.Common.{◌≡◌, ℕ, ◌+◌, ◌*◌, ◌<◌, ◌≤◌, Bool, true, false, List, get_or, refl, ◌∙◌, inl, inr, arith}
use Rattle.std.proofs.lemmas.Bool.{cases_eq, cases_lt}
use Rattle.fraction.specs.Sum.{size}
use Rattle.level.specs.Parts.{amount}
use Rattle.level.specs.Row.{Written}

pub written_none : {t : ℕ → Bool} {f : ℕ → ℕ → ℕ} {plan : List ℕ} → Written 0 t f plan plan
written_none = record { rows = λ j s l. absurd (omega arith); rest = λ k l. refl }

module _ {j : ℕ} {t : ℕ → Bool} {f : ℕ → ℕ → ℕ} {plan plan' : List ℕ} (w : Written j t f plan plan') where
  -- the row of a task of the group is written
  pub written_put :
      (plan'' : List ℕ) → t j ≡ true → ((s : ℕ) → s < 96 → amount plan'' j s ≡ f (size j t) s) →
      ((k : ℕ) → k < j * 96 → get_or plan'' k 0 ≡ get_or plan' k 0) →
      ((k : ℕ) → j * 96 + 96 ≤ k → get_or plan'' k 0 ≡ get_or plan' k 0) → Written (j + 1) t f plan plan''
  written_put plan'' y within before after =
      record {
        rows = λ i s l k.
            elim (cases_eq i j) [
              | inl e ↦ rw e (rw y (within s k))
              | inr ne ↦
                  (let l' : i < j = omega arith in
                  let b : i * 96 + s < j * 96 = omega arith in
                  before (i * 96 + s) b ∙ w.rows i s l' k)
            ];
        rest = λ k l. after k (omega arith) ∙ w.rest k (omega arith);
      }

  -- those of others are passed over
  pub written_past : (b : ℕ) → j ≤ b → ((k : ℕ) → j ≤ k → k < b → t k ≡ false) → Written b t f plan plan'
  written_past b le none =
      record {
        rows = λ i s l k.
            elim (cases_lt i j) [
              | inl a ↦ w.rows i s a k
              | inr a ↦ rw (none i a l) (w.rest (i * 96 + s) (omega arith))
            ];
        rest = λ k l. w.rest k (omega arith);
      }
