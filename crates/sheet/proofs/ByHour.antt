-- The loads of a sheet, hour by hour.
use Rattle.std.proofs.Common.{◌≡◌, ℕ, ◌+◌, ◌*◌, ◌/◌, ◌<◌, ◌≤◌, Bool, true, false, cond, ◌&&◌, eqb, ltb, List, length, get_or, sym, refl, ap, ◌∙◌, inl, inr, arith, ltb-true, lt-ltb, eq-eqb, eqb-true}
use borrow.Author.Tests.{clash}
use Rattle.std.proofs.lemmas.Bool.{and_parts, cases_eq}
use Rattle.fraction.specs.Sum.{sum, size}
use Rattle.fraction.proofs.Sums.{sum_none, sum_more, sum_same}
use Rattle.even.specs.Day.{Day, load}
use Rattle.even.specs.Whole.{whole}
use Rattle.night.specs.Task.{may}
use Rattle.night.specs.declared.task.Task.{Task}
use Rattle.sheet.specs.Layout.{lies, Starts, Overs}
use Rattle.even.specs.DayOf.{day}
use Rattle.sheet.specs.Sheet.{amount, den, num, over, place, plan, start, word}
use Rattle.sheet.specs.Verdict.{Loaded}
use Rattle.sheet.proofs.Places.{place_end}

-- the hours before s are right, and the amounts of hour s come next
pub record Through (y : Day) (b : List ℕ) (s : ℕ) (at : List ℕ) : Type 0 where
  pub long : length at ≡ 201
  pub next : (j : ℕ) → j < y.tasks → get_or at j 0 ≡ start y b j + size s (y.may j) * 8
  pub before : (i : ℕ) → i < s → Loaded y b i

pub through_none : {y : Day} {b starts : List ℕ} → Starts y b starts → Through y b 0 starts
through_none {y} {b} w =
    record {
      long = w.long;
      next = λ j l. omega (arith, w.each j (omega arith), sum_none (λ i. cond (y.may j i) 1 0));
      before = λ i l. absurd (omega arith);
    }

module _ (n : ℕ) (ts : List Task) {b : List ℕ} {s : ℕ} {at : List ℕ} (t : Through (day n ts) b s at) where
  pub through_within :
      length b ≡ start (day n ts) b (length ts) → s < n → (j : ℕ) → j < length ts → may ts j s ≡ true →
      get_or at j 0 + 9 ≤ length b
  through_within e l j m h = omega (arith, e, t.next j m, place_end (day n ts) b j s (length ts) m l h)

  -- what the tasks add is the load
  pub through_load :
      {overs : List ℕ} → Overs (day n ts) b overs → sum (length ts) (lies ts b overs at s) ≡ load (day n ts) (plan (day n ts) b) s
  unfolding load plan amount
  through_load {overs} o =
      sum_same (length ts) (lies ts b overs at s) (λ j. cond (may ts j s) (word b (place (day n ts) b j s)) 0 * (whole / over (day n ts) b j))
      (λ j l.
      let p : get_or at j 0 + 1 ≡ place (day n ts) b j s = omega (arith, t.next j l) in
      rw (p, o.each j l) refl)

  -- the next hour, where this one is right
  pub through_more :
      {next : List ℕ} → length next ≡ 201 → Loaded (day n ts) b s →
      ((j : ℕ) → j < length ts → get_or next j 0 ≡ get_or at j 0 + cond (may ts j s) 8 0) → Through (day n ts) b (s + 1) next
  through_more l h f =
      record {
        long = l;
        next =
            λ j m.
            omega
            (arith, f j m, t.next j m, eight (may ts j s), sum_more s (λ i. cond (may ts j i) 1 0));
        before = λ i m. elim (cases_eq i s) [ inl e ↦ rw e h | inr ne ↦ t.before i (omega arith) ];
      }
    where
      eight : (m : Bool) → cond {A = ℕ} m 8 0 ≡ cond {A = ℕ} m 1 0 * 8
      eight true = refl
      eight false = refl

-- the test of a load
pub loaded_by :
    (y : Day) (b : List ℕ) (s p : ℕ) → p ≡ load y (plan y b) s → (ltb 0 (den b s) && eqb (p * den b s) (num b s * whole)) ≡ true →
    Loaded y b s
loaded_by y b s p e h =
    let both = and_parts (ltb 0 (den b s)) (eqb (p * den b s) (num b s * whole)) h in
    record { over = ltb-true _ _ both.0; load = ap (λ v. v * den b s) (sym e) ∙ eqb-true _ _ both.1 }

pub loaded_not :
    (y : Day) (b : List ℕ) (s p : ℕ) → p ≡ load y (plan y b) s → (ltb 0 (den b s) && eqb (p * den b s) (num b s * whole)) ≡ false →
    Loaded y b s → ⊥
loaded_not y b s p e h w =
    let a = lt-ltb 0 (den b s) w.over in
    let c = eq-eqb (p * den b s) (num b s * whole) (ap (λ v. v * den b s) e ∙ w.load) in
    absurd (clash (sym h ∙ (rw (a, c) refl)))
