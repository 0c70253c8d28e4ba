-- What makes a sheet accepted, and that no sheet is both accepted and refused.
use Rattle.std.proofs.Common.{◌≡◌, ℕ, ◌<◌, true, false, List, is_ok, Ok, Err, Result, refl, inl, inr, arith, MatchResult}
use borrow.Author.Tests.{clash}
use Rattle.even.specs.Day.{Day, Even}
use Rattle.even.specs.Whole.{whole}
use Rattle.even.proofs.Shares.{whole_some}
use Rattle.even.proofs.Any.{cheapest, lowest_peak, most_even}
use Rattle.sheet.specs.Sheet.{amount, plan}
use Rattle.sheet.specs.Verdict.{Accepted, Adds, Level, Loaded, Refused, Sized, Unbeaten, code}
use Rattle.sheet.specs.declared.refusal.Refusal.{Refusal}

module _ (y : Day) (b : List ℕ) where
  -- nothing is done where a task may not be
  pub plan_only : (j s : ℕ) → y.may j s ≡ false → plan y b j s ≡ 0
  unfolding plan amount
  plan_only j s m = rw m (omega arith)

  pub accepted_by :
      Sized y b → ((s : ℕ) → s < y.hours → Loaded y b s) → ((j : ℕ) → j < y.tasks → Adds y b j) →
      ((j s t : ℕ) → j < y.tasks → s < y.hours → t < y.hours → Level y b j s t) → Accepted y b
  unfolding Even
  accepted_by z l a v =
      record {
        sized = z;
        loads = l;
        there = λ j m. (a j m).there;
        some = λ j m. (a j m).some;
        is_plan = record { parts = whole_some; all = λ j m. (a j m).all; only = λ j s m n. plan_only j s };
        is_even = v;
      }

  accepted_adds : Accepted y b → (j : ℕ) → j < y.tasks → Adds y b j
  accepted_adds w j l = record { there = w.there j l; some = w.some j l; all = w.is_plan.all j l }

  -- a sheet that is accepted is not refused
  pub accepted_once : (c : ℕ × ℕ × ℕ × ℕ) → Accepted y b → Refused y b c → ⊥
  unfolding Even
  accepted_once c w (inl r) = r.1.wrong w.sized
  accepted_once c w (inr (inl r)) = r.1.wrong (w.loads c.1 r.1.hour)
  accepted_once c w (inr (inr (inl r))) = r.1.wrong (accepted_adds w c.1 r.1.task)
  accepted_once c w (inr (inr (inr r))) =
      omega
      (arith, r.1.less, w.is_even c.1 c.2 c.3 r.1.task r.1.hour r.1.other r.1.done r.1.may)

  pub accepted_best : Accepted y b → Unbeaten y b
  accepted_best w =
      record {
        evenest = λ e z p. most_even y whole e (plan y b) z w.is_plan w.is_even p;
        lowest = λ e z p. lowest_peak y whole e (plan y b) z w.is_plan w.is_even p;
        cheapest = λ t e z r p. cheapest t y whole e (plan y b) z r w.is_plan w.is_even p;
      }

  -- so the verdict tells all
  pub verdict_all :
      (r : Result (Unit {0}) Refusal) → MatchResult r (λ v. Accepted y b) (λ e. Refused y b (code e)) → Accepted y b → is_ok r ≡ true
  verdict_all (Ok v) h w = refl
  verdict_all (Err e) h w = absurd (accepted_once (code e) w h)

  pub verdict_best :
      (r : Result (Unit {0}) Refusal) → MatchResult r (λ v. Accepted y b) (λ e. Refused y b (code e)) → is_ok r ≡ true → Unbeaten y b
  verdict_best (Ok v) h t = accepted_best h
  verdict_best (Err e) h t = absurd (clash t)
