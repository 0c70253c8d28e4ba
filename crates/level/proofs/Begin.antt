-- The state before the first flow.
use Rattle.std.proofs.Common.{◌≡◌, ℕ, ◌<◌, ◌≤◌, cond, List, length, get_or, refl, ◌∙◌, arith}
use Rattle.std.proofs.lemmas.Bool.Decides.{nat_tests}
use Rattle.fraction.specs.Sum.{any}
use Rattle.fraction.proofs.Sums.{any_some, any_hasn't}
use Rattle.night.specs.declared.task.Task.{Task}
use Rattle.fraction.specs.declared.exact.Fraction.{Fraction}
use Rattle.sets.specs.declared.hours.Hours.{Hours}
use Rattle.sets.specs.Hours.{has, blank}
use Rattle.night.specs.Task.{may}
use Rattle.level.specs.Parts.{label, num, den, Ready, State}
use Rattle.level.proofs.Amounts.{start, start_none, amounts_none}

module _
    (ts : List Task) (hours : List Hours) (levels : List Fraction) (of : List ℕ) (r : Ready ts) (labels : length of ≡ 200)
    (groups : length levels ≡ 96) (rows : length hours ≡ 96) (ej : (j : ℕ) → j < 200 → label of j ≡ 95)
    (es : (s : ℕ) → has (get_or hours 95 blank) s ≡ any (length ts) (λ j. may ts j s)) where
  pub begin_some : 0 < length ts → (plan : List ℕ) → State ts 0 95 hours levels of plan
  begin_some some plan =
      record {
        at = λ s. cond (any (length ts) (λ j. may ts j s)) 95 96;
        stack = start (num levels) (den levels) (λ j l. any_some 96 (may ts j) (r.some j l)) some (λ j l. ej j (omega (arith, r.few))) (λ s l. refl);
        amounts = amounts_none;
        sets = λ i l k s.
            let k' : 95 ≤ i = omega (arith, k (omega arith)) in
            let e : i ≡ 95 = omega arith in
            rw e (es s ∙ grind (arith, nat_tests));
        far = λ s l.
            let z =
            any_hasn't (length ts) (λ j. may ts j s)
            (λ j i. let g = r.low j s i in grind arith) in
            rw z (omega arith);
        small = λ g l. absurd (omega arith);
        labels = labels;
        groups = groups;
        rows = rows;
      }

  pub begin_none : length ts ≡ 0 → (plan : List ℕ) → State ts 0 96 hours levels of plan
  begin_none none plan =
      record {
        at = λ s. 96;
        stack = rw none (start_none (num levels) (den levels) (λ s l. omega arith));
        amounts = amounts_none;
        sets = λ i l k s. absurd (omega (arith, k (omega arith)));
        far = λ s l. omega arith;
        small = λ g l. absurd (omega arith);
        labels = labels;
        groups = groups;
        rows = rows;
      }
