-- The plan of a night goes onto a sheet that is accepted.
use Rattle.std.proofs.Common.{◌≡◌, ℕ, ◌<◌, ◌≤◌, List, length, get_or, refl, ap, ◌∙◌, inl, inr, mul-le-mul_right, arith, IsOk, MatchResult, Result, Ok, Err}
use Rattle.std.proofs.lemmas.List.{get_or_default}
use Rattle.std.proofs.lemmas.Bool.{cases_lt, lt-ltb, le-ltb}
use Rattle.fraction.specs.declared.exact.Fraction.{Fraction}
use Rattle.fraction.proofs.Sums.{sum_const, sum_inject}
use Rattle.night.specs.declared.night.Night.{Night}
use Rattle.night.specs.Format.{width}
use Rattle.night.specs.Night.{hours_of, tasks_of}
use Rattle.even.specs.DayOf.{day_of}
use Rattle.level.specs.declared.levels.Levels.{Levels}
use Rattle.level.specs.Levels.{Solved, hour_group, needed}
use Rattle.level.specs.Parts.{num, den, nought}
use Rattle.sheet_writer.specs.Planned.{room}
use Rattle.sheet_writer.specs.Written.{Fitting, LevelPlan, NotWritten, Wrote, span, why}
use Rattle.sheet_writer.specs.declared.refusal.Unwritten.{Unwritten}

module _ {night : Night} {r : Levels} {plan plan' work work' : List ℕ} (w : Solved night r plan plan' work work') where
  -- each group has an hour of its own
  few_groups : r.count ≤ hours_of night
  few_groups =
      let hour : ℕ → ℕ = λ g. elim (cases_lt g r.count) [ inl l ↦ (w.some g l).0 | inr n ↦ 0 ] in
      let inside : (g : ℕ) → g < r.count → (hour g < hours_of night) × (hour_group r (hour g) ≡ g) = λ g l.
      elim (cases_lt g r.count) as (λ c. (elim c [ inl l ↦ (w.some g l).0 | inr n ↦ 0 ] < hours_of night) × (hour_group r (elim c [ inl l ↦ (w.some g l).0 | inr n ↦ 0 ]) ≡ g)) [
        | inl m ↦ ((w.some g m).1, (w.some g m).2)
        | inr n ↦ absurd (omega arith)
      ] in
      let i =
      sum_inject r.count (hours_of night) hour (λ s. 1) (λ g l. (inside g l).0)
      (λ g h l k e. let a = (inside g (omega arith)).1 in let b = (inside h k).1 in let c = ap (hour_group r) e in omega arith) in
      omega (arith, i, sum_const r.count 1, sum_const (hours_of night) 1)

  -- a load, at any default
  load_at : (s : ℕ) (d : Fraction) → s < hours_of night → get_or r.loads s d ≡ get_or r.loads s nought
  load_at s d l = get_or_default r.loads s d nought (omega (arith, w.long, night.short))

  grouped_load : (s : ℕ) (d : Fraction) → s < hours_of night → hour_group r s < r.count →
      ((get_or r.loads s d).num ≡ num r.levels (hour_group r s)) × ((get_or r.loads s d).den ≡ den r.levels (hour_group r s))
  grouped_load s d l x =
      let t = lt-ltb (hour_group r s) r.count x in
      let same = w.written s l in
      (ap (λ (f : Fraction). f.num) (load_at s d l) ∙ (same.num ∙ rw t refl), ap (λ (f : Fraction). f.den) (load_at s d l) ∙ (same.den ∙ rw t refl))

  idle_load : (s : ℕ) (d : Fraction) → s < hours_of night → r.count ≤ hour_group r s →
      ((get_or r.loads s d).num ≡ 0) × ((get_or r.loads s d).den ≡ 1)
  idle_load s d l x =
      let t = le-ltb (hour_group r s) r.count x in
      let same = w.written s l in
      (ap (λ (f : Fraction). f.num) (load_at s d l) ∙ (same.num ∙ rw t refl), ap (λ (f : Fraction). f.den) (load_at s d l) ∙ (same.den ∙ rw t refl))

  pub solved_plan :
      LevelPlan (hours_of night) (tasks_of night) r.loads r.groups r.count r.of plan' (num r.levels) (den r.levels) (hour_group r)
  solved_plan =
      record {
        grouped = w.groups;
        level = grouped_load;
        idle = λ s d l x. (idle_load s d l x).0;
        own = λ g s l k. w.sets g s l ∙ rw (lt-ltb s (hours_of night) k) refl;
        some = w.some;
      }

  pub solved_fits : Fitting (hours_of night) (length (tasks_of night)) r.loads r.count r.of
  solved_fits =
      record {
        dens = λ s d l.
            elim (cases_lt (hour_group r s) r.count) [
              | inl x ↦ omega (arith, (grouped_load s d l x).1, w.small (hour_group r s) x)
              | inr x ↦ omega (arith, (idle_load s d l x).1)
            ];
        few = omega (arith, few_groups, night.short);
        groups = λ j l. omega (arith, w.groups.some j l, few_groups, night.short);
      }

  pub solved_room : span (day_of night) r.count ≤ room night
  solved_room = omega (arith, mul-le-mul_right (width (hours_of night)) few_groups)

  -- with room for it, it is written
  solved_written :
      (sheet : List ℕ) (c : ℕ × ℕ) → needed night ≤ length plan' → room night ≤ length sheet →
      NotWritten (hours_of night) (tasks_of night) r.loads r.count r.of plan' sheet c → ⊥
  solved_written sheet c long wide (inl large) = large.1.wrong solved_fits
  solved_written sheet c long wide (inr (inl plan)) = let s = plan.1.short in omega arith
  solved_written sheet c long wide (inr (inr short)) = let s = short.1.short in omega (arith, solved_room)

  pub solved_is_ok :
      (sheet sheet' : List ℕ) (r' : Result ℕ Unwritten) → needed night ≤ length plan' → room night ≤ length sheet →
      MatchResult r'
      (Wrote (hours_of night) (tasks_of night) r.loads r.groups r.count r.of plan' sheet sheet')
      (λ e. (sheet' ≡ sheet) × NotWritten (hours_of night) (tasks_of night) r.loads r.count r.of plan' sheet (why e)) → IsOk r'
  solved_is_ok sheet sheet' (Ok n) long wide m = refl
  solved_is_ok sheet sheet' (Err e) long wide m = absurd (solved_written sheet (why e) long wide m.1)
