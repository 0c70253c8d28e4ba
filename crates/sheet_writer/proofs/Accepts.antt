-- A sheet that says a plan made of groups is accepted.
use Rattle.std.proofs.Common.{◌≡◌, ℕ, ◌+◌, ◌*◌, ◌/◌, ◌<◌, false, List, length, get_or, take, sym, refl, ap, ◌∙◌, inl, inr, arith, lit<, length-take-le, eq-eqb, eqb-true}
use Rattle.std.proofs.lemmas.Bool.{cases_Bool, cases_lt}
use Rattle.fraction.specs.declared.exact.Fraction.{Fraction}
use Rattle.fraction.specs.Sum.{sum}
use Rattle.fraction.proofs.Fractions.{coprime_one}
use Rattle.fraction.proofs.Sums.{sum_same}
use Rattle.even.specs.Day.{Day, Even, load}
use Rattle.even.specs.DayOf.{day}
use Rattle.even.specs.Grouped.{spread}
use Rattle.even.specs.Whole.{whole}
use Rattle.even.proofs.GroupedEven.{grouped_is_even}
use Rattle.night.specs.Format.{width}
use Rattle.night.specs.Task.{may}
use Rattle.sets.specs.declared.hours.Hours.{Hours}
use Rattle.night.specs.declared.task.Task.{Task}
use Rattle.sheet.specs.Sheet.{amount, den, first_of, group, over, plan, row, within}
use Rattle.sheet.specs.Verdict.{Accepted}
use Rattle.sheet_writer.specs.Written.{LevelPlan, Says, Wrote, span}
use Rattle.sheet.proofs.Firsts.{first_finds}
use Rattle.sheet.proofs.Places.{over_some, start_from}
use Rattle.sheet.proofs.Verdicts.{plan_only}

-- a fraction, to stand where a list of fractions has ended
abbrev nought : Fraction
nought = record { num = 0; den = 1; small = lit< tt; some = lit< tt; short = lit< tt; lowest = coprime_one 0 }

-- plans that agree are even, and have the same loads, as one another
even_same :
    (y : Day) (x z : ℕ → ℕ → ℕ) → ((j s : ℕ) → j < y.tasks → s < y.hours → z j s ≡ x j s) → Even y x → Even y z
unfolding Even load
even_same y x z h e j s t lj ls lt d m =
    omega
    (arith, h j s lj ls, e j s t lj ls lt (omega (arith, h j s lj ls)) m, sum_same y.tasks (λ i. z i s) (λ i. x i s) (λ i l. h i s l ls), sum_same y.tasks (λ i. z i t) (λ i. x i t) (λ i l. h i t l lt))

load_same :
    (y : Day) (x z : ℕ → ℕ → ℕ) → ((j s : ℕ) → j < y.tasks → s < y.hours → z j s ≡ x j s) → (s : ℕ) → s < y.hours →
    load y z s ≡ load y x s
unfolding load
load_same y x z h s l = sum_same y.tasks (λ i. z i s) (λ i. x i s) (λ i m. h i s m l)

amount_none : (y : Day) (b : List ℕ) (j s : ℕ) → y.may j s ≡ false → amount y b j s ≡ 0
unfolding amount
amount_none y b j s f = rw f refl

module _
    {n : ℕ} {ts : List Task} {loads : List Fraction} {rows : List Hours} {k : ℕ} {of a b : List ℕ} {num' den' at : ℕ → ℕ}
    (w : Says n ts loads rows k of a b) (p : LevelPlan n ts loads rows k of a num' den' at)
  where
    -- the first hour of a group is one of its hours
    first_hour : (g : ℕ) → g < k → (first_of (day n ts) b g < n) × (at (first_of (day n ts) b g) ≡ g)
    first_hour g l =
        let s = p.some g l in
        let f =
        first_finds n (within (day n ts) b g) s.0 s.1
        (w.hours g s.0 l s.1 ∙ (p.own g s.0 l s.1 ∙ eq-eqb (at s.0) g s.2)) in
        (f.0, eqb-true _ _ (sym (w.hours g _ l f.0 ∙ p.own g _ l f.0) ∙ f.1))

    says_over : (j : ℕ) → j < length ts → over (day n ts) b j ≡ den' (get_or of j 0)
    says_over j l =
        let y = day n ts in
        let g = w.of_task j l in
        let few = p.grouped.some j l in
        let f = first_hour (get_or of j 0) few in
        let q : first_of y b (group y b j) ≡ first_of y b (get_or of j 0) = ap (first_of y b) g in
        over_some y b j (omega (arith, g, w.count)) (omega (arith, q, f.0))
        ∙ (ap (den b) q
        ∙ (w.dens _ nought f.0 ∙ ((p.level _ nought f.0 (omega (arith, f.1))).1 ∙ ap den' f.1)))

    says_plan :
        (j s : ℕ) → j < length ts → s < n →
        plan (day n ts) b j s ≡ spread den' (λ i. get_or of i 0) (λ i t. get_or a (i * 96 + t) 0) j s
    unfolding plan spread
    says_plan j s l m =
        ap (λ v. amount (day n ts) b j s * (whole / v)) (says_over j l)
        ∙ ap (λ v. v * (whole / den' (get_or of j 0)))
        (elim (cases_Bool (may ts j s)) [
          | inl t ↦ w.amounts j s l m t
          | inr f ↦ amount_none (day n ts) b j s f ∙ sym (p.grouped.only j s l m f)
        ])

    pub says_accepted : length b ≡ span (day n ts) k → Accepted (day n ts) b
    says_accepted e =
        let y = day n ts in
        let x = spread den' (λ i. get_or of i 0) (λ i t. get_or a (i * 96 + t) 0) in
        let even = grouped_is_even y k num' den' (λ i. get_or of i 0) at (λ i t. get_or a (i * 96 + t) 0) p.grouped in
        let lies : (s : ℕ) → s < n → load y (plan y b) s ≡ load y x s = load_same y x (plan y b) says_plan in
        record {
          sized = e ∙ (ap (λ v. n * 9 + 1 + v * width n + sum (length ts) (row y)) (sym w.count) ∙ start_from y b (length ts) (width n) refl);
          loads =
              λ s l.
              elim (cases_lt (at s) k) [
                | inl m ↦
                    (let d = w.dens s nought l ∙ (p.level s nought l m).1 in
                    let u = w.nums s nought l ∙ (p.level s nought l m).0 in
                    record {
                      over = omega (arith, d, p.grouped.over (at s) m);
                      load =
                          ap (λ v. v * den b s) (lies s l)
                          ∙ (ap (λ v. load y x s * v) d ∙ (even.level s l m ∙ ap (λ v. v * whole) (sym u)));
                    })
                | inr ge ↦
                    (let z = lies s l ∙ even.idle s l ge in
                    let u = w.nums s nought l ∙ p.idle s nought l ge in
                    record {
                      over = omega (arith, w.dens s nought l, (get_or loads s nought).some);
                      load = omega (arith, ap (λ v. v * den b s) z, ap (λ v. v * whole) u);
                    })
              ];
          there = λ j l. omega (arith, w.of_task j l, w.count, p.grouped.some j l);
          some =
              λ j l.
              omega
              (arith, ap (first_of y b) (w.of_task j l), (first_hour (get_or of j 0) (p.grouped.some j l)).0);
          is_plan =
              record {
                parts = even.plan.parts;
                all = λ j l. sum_same n (plan y b j) (x j) (λ s m. says_plan j s l m) ∙ even.plan.all j l;
                only = λ j s l m. plan_only y b j s;
              };
          is_even = even_same y x (plan y b) says_plan even.even;
        }

-- so what is written of such a plan is accepted
pub wrote_accepted :
    {n : ℕ} {ts : List Task} {loads : List Fraction} {rows : List Hours} {k : ℕ} {of a b b' : List ℕ} {v : ℕ}
    {num' den' at : ℕ → ℕ} → Wrote n ts loads rows k of a b b' v → LevelPlan n ts loads rows k of a num' den' at →
    Accepted (day n ts) (take v b')
wrote_accepted {b' = b'} {v = v} w p = says_accepted w.says p (length-take-le v b' w.room ∙ w.long)
