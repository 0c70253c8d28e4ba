-- Gathering the tasks of a part, one by one.
use Rattle.std.proofs.Common.{◌≡◌, ℕ, ◌+◌, ◌*◌, ◌<◌, ◌≤◌, None, Some, Bool, true, false, cond, not, ◌&&◌, ltb, List, length, get_or, set, refl, ◌∙◌, inl, inr, arith}
use Rattle.std.proofs.lemmas.Bool.{both_ways, cases_lt}
use Rattle.std.proofs.lemmas.Bool.Decides.{nat_tests}
use Rattle.fraction.specs.Sum.{part, size}
use Rattle.fraction.proofs.Sums.{sum_tail}
use Rattle.sets.specs.declared.hours.Hours.{Hours}
use Rattle.night.specs.declared.task.Task.{Task}
use Rattle.sets.specs.Hours.{blank}
use Rattle.sets.specs.Iter.{Takes}
use Rattle.night.specs.Task.{blank_task, units}
use Rattle.level.specs.declared.task_set.TaskSet.{TaskSet}
use Rattle.level.specs.Crew.{Manned, CrewOf}
use Rattle.level.specs.Parts.{label}
use Rattle.level.specs.Stack.{is}
use Rattle.level.specs.TaskSet.{holds}
use Rattle.level.proofs.Gather.{gather_put}

module _
    {ts : List Task} {p : ℕ → Bool} {q j : ℕ} {may : List Hours} {supply : List ℕ} (w : Manned ts p q j may supply) where
  -- a task of the part is put behind those before it
  pub manned_put :
      (k : ℕ) → k ≡ size j p → k < length may → k < length supply → p j ≡ true →
      Manned ts p q (j + 1) (set may k (get_or ts j blank_task).hours) (set supply k (units ts j * q))
  manned_put k e l l' y =
      record {
        allowed = gather_put p j k may blank (λ i. (get_or ts i blank_task).hours) e l y w.allowed;
        supplied = gather_put p j k supply 0 (λ i. units ts i * q) e l' y w.supplied;
      }

  -- others are passed over
  pub manned_past : (b : ℕ) → ((k : ℕ) → j ≤ k → k < b → p k ≡ false) → Manned ts p q b may supply
  manned_past b none =
      record {
        allowed = λ i l y.
            elim (cases_lt i j) [ inl a ↦ w.allowed i a y | inr a ↦ absurd (both_ways _ (none i a l) y) ];
        supplied = λ i l y.
            elim (cases_lt i j) [ inl a ↦ w.supplied i a y | inr a ↦ absurd (both_ways _ (none i a l) y) ];
      }

-- a sum over a set stays where no member comes
pub part_past :
    (a b : ℕ) (p : ℕ → Bool) (f : ℕ → ℕ) → a ≤ b → ((k : ℕ) → a ≤ k → k < b → p k ≡ false) → part b p f ≡ part a p f
part_past a b p f l none = sum_tail a b (λ i. cond (p i) (f i) 0) l (λ i g h. rw (none i g h) refl)

-- of the first n tasks, those that p picks, from one on, are still to come in the walk over a set
pub record Rest (n : ℕ) (p : ℕ → Bool) (from : ℕ) (c : TaskSet) : Type 0 where
  pub reached : from ≤ n
  pub tasks : (j : ℕ) → holds c j ≡ (ltb j n && (not (ltb j from) && p j))

-- at first all of a part are
pub rest_all : {n : ℕ} {of : List ℕ} {i : ℕ} {c : TaskSet} → CrewOf n of i c → Rest n (is (label of) i) 0 c
rest_all w = record { reached = omega arith; tasks = λ j. let e = w.tasks j in grind (arith, nat_tests) }

-- j comes next
pub record Found (n : ℕ) (p : ℕ → Bool) (from j : ℕ) (c : TaskSet) : Type 0 where
  pub reached : from ≤ j
  pub below : j < n
  pub member : p j ≡ true
  pub between : (k : ℕ) → from ≤ k → k < j → p k ≡ false
  pub rest : Rest n p (j + 1) c

module _ {n : ℕ} {p : ℕ → Bool} {from : ℕ} {c : TaskSet} (w : Rest n p from c) where
  pub rest_found : {c' : TaskSet} (j : ℕ) → Takes 256 (holds c) (Some j) (holds c') → Found n p from j c'
  rest_found j t =
      let e = w.tasks j in
      let m = t.0.member in
      let l : j < n = grind (arith, nat_tests) in
      record {
        reached = grind (arith, nat_tests);
        below = l;
        member = grind (arith, nat_tests);
        between = λ k g h. let a = w.tasks k in let b = t.0.first k h in grind (arith, nat_tests);
        rest = record {
          reached = omega arith;
          tasks = λ k.
              let a = w.tasks k in
              let b = t.0.first k in
              t.1 k ∙ elim (cases_lt k j) [
                | inl g ↦ (let f = b g in grind (arith, nat_tests))
                | inr g ↦ grind (arith, nat_tests)
              ];
        };
      }

  -- after the last none comes
  pub rest_none : (c' : TaskSet) → Takes 256 (holds c) None (holds c') → (k : ℕ) → from ≤ k → k < n → p k ≡ false
  rest_none c' t k g l = let a = w.tasks k in let b = t.0 k in grind (arith, nat_tests)
