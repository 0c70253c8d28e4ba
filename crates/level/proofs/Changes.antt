-- Changing the labels of tasks, one by one.
use Rattle.std.proofs.Common.{◌≡◌, ℕ, ◌+◌, ◌-◌, ◌<◌, ◌≤◌, Bool, true, false, cond, not, ◌&&◌, eqb, List, length, set, sym, ap, ◌∙◌, inl, inr, arith}
use Rattle.std.proofs.lemmas.List.{get_or-set_same, get_or-set_other}
use Rattle.std.proofs.lemmas.Bool.{cases_eq, cases_lt, cases_Bool}
use Rattle.fraction.specs.Sum.{any, both, without}
use Rattle.fraction.proofs.Sums.{any_some, any_has, any_none, any_hasn't}
use Rattle.night.specs.declared.task.Task.{Task}
use Rattle.night.specs.Task.{may}
use Rattle.level.specs.Change.{Freed, Moved}
use Rattle.level.specs.Cut.{open_to}
use Rattle.level.specs.Parts.{label, Ready}
use Rattle.level.specs.Stack.{is}

-- sets that meet, one of them with members below n only, meet below n
pub any_low :
    (n k : ℕ) (p : ℕ → Bool) → n ≤ k → ((i : ℕ) → p i ≡ true → i < n) → any k p ≡ any n p
any_low n k p l low =
    elim (cases_Bool (any n p)) [
      | inl y ↦
          (let r = any_some n p y in
          any_has k p r.0 (omega (arith, r.1)) r.2 ∙ sym y)
      | inr z ↦
          any_hasn't k p
          (λ i g. elim (cases_Bool (p i)) [
            | inl t ↦ (let v = any_none n p z i (low i t) in absurd (grind arith))
            | inr f ↦ f
          ])
          ∙ sym z
    ]

-- whether a task may use an hour of a set
pub meets_low :
    (ts : List Task) (u : ℕ → Bool) (j : ℕ) → Ready ts → j < length ts → any 128 (both (may ts j) u) ≡ open_to 96 (may ts) u j
meets_low ts u j r l = any_low 96 128 (both (may ts j) u) (omega arith) (λ i y. r.low j i l (grind arith))

-- labels that stay are passed over
pub freed_past :
    {ts : List Task} {top : ℕ} {u : ℕ → Bool} {a b : ℕ} {of of' : List ℕ} → Freed ts top u a of of' → a ≤ b →
    ((k : ℕ) → a ≤ k → k < b → without (is (label of) top) (open_to 96 (may ts) u) k ≡ false) → Freed ts top u b of of'
freed_past {a = a} w le none =
    record {
      done = λ i l. elim (cases_lt i a) [ inl g ↦ w.done i g | inr g ↦ rw (none i g l) (w.rest i g) ];
      rest = λ i l. w.rest i (omega arith);
    }

-- one label more is told
pub freed_more :
    (ts : List Task) (top : ℕ) (u : ℕ → Bool) (j : ℕ) (of of₁ of₂ : List ℕ) → Freed ts top u j of of₁ →
    label of₂ j ≡ cond (without (is (label of₁) top) (open_to 96 (may ts) u) j) (top - 1) (label of₁ j) →
    ((i : ℕ) → (i ≡ j → ⊥) → label of₂ i ≡ label of₁ i) → Freed ts top u (j + 1) of of₂
freed_more ts top u j of of₁ of₂ w here there =
    record {
      done = λ i l.
          elim (cases_eq i j) [
            | inl e ↦ rw e (here ∙ ap (λ v. cond (eqb v top && not (open_to 96 (may ts) u j)) (top - 1) v) (w.rest j (omega arith)))
            | inr ne ↦ there i ne ∙ w.done i (omega arith)
          ];
      rest = λ i l. there i (λ e. omega arith) ∙ w.rest i (omega arith);
    }

module _ {a b from : ℕ} {of of' : List ℕ} (w : Moved a b from of of') where
  -- labels of others are passed over
  pub moved_past : (m : ℕ) → from ≤ m → ((k : ℕ) → from ≤ k → k < m → is (label of) a k ≡ false) → Moved a b m of of'
  moved_past m le none =
      record {
        done = λ j l. elim (cases_lt j from) [ inl g ↦ w.done j g | inr g ↦ rw (none j g l) (w.rest j g) ];
        rest = λ j l. w.rest j (omega arith);
      }

  -- one more is moved
  pub moved_more : is (label of) a from ≡ true → from < length of' → Moved a b (from + 1) of (set of' from b)
  moved_more y l =
      record {
        done = λ j g. elim (cases_eq j from) [
          | inl e ↦ rw e (rw y (get_or-set_same of' from b 0 l))
          | inr ne ↦ get_or-set_other of' from j b 0 ne ∙ w.done j (omega arith)
        ];
        rest = λ j g. get_or-set_other of' from j b 0 (λ e. omega arith) ∙ w.rest j (omega arith);
      }
