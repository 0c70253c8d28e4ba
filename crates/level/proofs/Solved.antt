-- From the last state to what the call promises.
use Rattle.std.proofs.Common.{◌≡◌, ℕ, ◌*◌, ◌<◌, ◌≤◌, true, false, ◌&&◌, eqb, ltb, List, length, get_or, sym, refl, ◌∙◌, subst, inl, inr, zero-mul, arith}
use Rattle.std.proofs.lemmas.Bool.{cases_lt, cases_Bool, eq-eqb, ne_eqb, lt-ltb, le-ltb}
use Rattle.std.proofs.lemmas.Bool.Decides.{nat_tests}
use Rattle.fraction.specs.declared.exact.Fraction.{Fraction}
use Rattle.fraction.proofs.Sums.{any_some, any_has}
use Rattle.sets.specs.declared.hours.Hours.{Hours}
use Rattle.night.specs.declared.night.Night.{Night}
use Rattle.night.specs.declared.task.Task.{Task}
use Rattle.sets.specs.Hours.{has, blank}
use Rattle.night.specs.Night.{hours_of, tasks_of}
use Rattle.night.specs.Task.{blank_task, may}
use Rattle.night.proofs.Rows.{has_within}
use Rattle.even.specs.Day.{Day, load}
use Rattle.even.specs.DayOf.{day_of}
use Rattle.even.specs.Grouped.{Grouped, spread}
use Rattle.even.specs.Whole.{whole}
use Rattle.even.proofs.Any.{most_even, lowest_peak, cheapest}
use Rattle.even.proofs.GroupedEven.{grouped_plan, grouped_even, grouped_load, grouped_idle}
use Rattle.even.proofs.GroupedDensest.{densest_first}
use Rattle.level.specs.declared.parts.Parts.{Parts}
use Rattle.level.specs.Levels.{needed, Solved}
use Rattle.level.specs.Load.{group_at, level_at, Same}
use Rattle.level.specs.Parts.{nought, num, den, label, amount, State}
use Rattle.level.specs.Walk.{Within, Walking}
use Rattle.level.proofs.Amounts.{grouped}
use Rattle.level.proofs.Firsts.{first_is, first_none}

-- the tasks of a night may use hours below its own only, and each may use one
pub night_within : (night : Night) → Within (hours_of night) (tasks_of night)
night_within night =
    record {
      ready =
          record {
            few = night.few;
            light = λ j l. (night.each j l).0;
            some = λ j l.
                (let r = any_some (hours_of night) (may (tasks_of night) j) (night.each j l).1 in
                any_has 96 (may (tasks_of night) j) r.0 (omega (arith, r.1, night.short)) r.2);
            low = λ j s l y. (let a = below j s l y in omega (arith, night.short));
          };
      few = night.short;
      low = below;
    }
  where
    below : (j s : ℕ) → j < length (tasks_of night) → may (tasks_of night) j s ≡ true → s < hours_of night
    below j s l y = has_within (get_or (tasks_of night) j blank_task).hours (hours_of night) s (night.each j l).2 y

-- groups told by other labels of hours
grouped_at :
    {y : Day} {k : ℕ} {num den group at : ℕ → ℕ} {a : ℕ → ℕ → ℕ} (at' : ℕ → ℕ) → Grouped y k num den group at a →
    ((s : ℕ) → s < y.hours → at s < k → at' s ≡ at s) → ((s : ℕ) → s < y.hours → k ≤ at s → k ≤ at' s) →
    Grouped y k num den group at' a
grouped_at {y} {k} {num} {den} {group} {at} {a} at' w same none =
    record {
      some = w.some;
      over = w.over;
      small = w.small;
      fall = w.fall;
      all = w.all;
      only = w.only;
      own = λ j s i l o.
          (let e = w.own j s i l o in
          let g = w.some j i in
          same s l (omega arith) ∙ e);
      full = λ s l m.
          (let g : at s < k = elim (cases_lt (at s) k) [ inl x ↦ x | inr x ↦ (let b = none s l x in absurd (omega arith)) ] in
          rw (same s l g) (w.full s l g));
      before = λ j s i l y'.
          (let e = w.before j s i l y' in
          let g = w.some j i in
          let b = same s l (omega arith) in
          omega arith);
    }

-- the label of an hour is its group
module _
    {ts : List Task} {k : ℕ} {hs : List Hours} {lv : List Fraction} {of plan : List ℕ} (w : State ts k 96 hs lv of plan) where
  at_group : (s : ℕ) → w.at s < k → group_at k hs s ≡ w.at s
  at_group s l =
      let b = w.stack.found in
      first_is k (λ g. has (get_or hs g blank) s) (w.at s) l
      (w.sets (w.at s) (omega arith) (λ x. omega arith) s ∙ eq-eqb (w.at s) (w.at s) refl)
      (λ i g. w.sets i (omega arith) (λ x. omega arith) s ∙ ne_eqb (w.at s) i (λ x. omega arith))

  at_none : (s : ℕ) → k ≤ w.at s → group_at k hs s ≡ k
  at_none s l =
      let b = w.stack.found in
      first_none k (λ g. has (get_or hs g blank) s)
      (λ i g. w.sets i (omega arith) (λ x. omega arith) s ∙ ne_eqb (w.at s) i (λ x. omega arith))

  at_is : (s : ℕ) → group_at k hs s < k → group_at k hs s ≡ w.at s
  at_is s l =
      elim (cases_lt (w.at s) k) [ inl x ↦ at_group s x | inr x ↦ (let e = at_none s x in absurd (omega arith)) ]

  -- an hour of a group is one that some task may use
  at_used :
      (n : ℕ) → Within n ts → (s : ℕ) → w.at s < k →
      (s < n) × ((j : ℕ) × (j < length ts) × (may ts j s ≡ true) × (label of j ≡ group_at k hs s))
  at_used n v s l =
      let b = w.stack.found in
      let g : s < 96 = elim (cases_lt s 96) [ inl x ↦ x | inr x ↦ (let a = w.far s x in absurd (omega arith)) ] in
      let r = w.stack.used s g (omega arith) in
      (v.low r.0 s r.1 r.2, (r.0, r.1, r.2, r.3 ∙ sym (at_group s l)))

  at_sets :
      (n : ℕ) → Within n ts → (g s : ℕ) → g < k → has (get_or hs g blank) s ≡ (ltb s n && eqb (group_at k hs s) g)
  at_sets n v g s l =
      let b = w.stack.found in
      w.sets g (omega arith) (λ x. omega arith) s
      ∙ elim (cases_lt (w.at s) k) [
        | inl x ↦
            (let e = at_group s x in
            let u = (at_used n v s x).0 in
            rw e (grind (arith, nat_tests)))
        | inr x ↦ (let e = at_none s x in rw e (grind (arith, nat_tests)))
      ]

  at_beyond : (n : ℕ) → Within n ts → (s : ℕ) → n ≤ s → group_at k hs s ≡ k
  at_beyond n v s l =
      elim (cases_lt (w.at s) k) [ inl x ↦ (let u = (at_used n v s x).0 in absurd (omega arith)) | inr x ↦ at_none s x ]

-- the loads are those of the plan
load_is :
    {y : Day} (k : ℕ) (hs : List Hours) (lv all : List Fraction) {group : ℕ → ℕ} {a : ℕ → ℕ → ℕ} →
    Grouped y k (num lv) (den lv) group (group_at k hs) a → (s : ℕ) → s < y.hours →
    Same (get_or all s nought) (level_at k hs lv s) →
    load y (spread (den lv) group a) s * den all s ≡ num all s * whole
load_is k hs lv all w s l e =
    elim (cases_lt (group_at k hs s) k) [
      | inl x ↦
          (let c = lt-ltb (group_at k hs s) k x in
          let n : num all s ≡ num lv (group_at k hs s) = e.num ∙ rw c refl in
          let d : den all s ≡ den lv (group_at k hs s) = e.den ∙ rw c refl in
          rw (n, d) (grouped_load w s l x))
      | inr x ↦
          (let c = le-ltb (group_at k hs s) k x in
          let n : num all s ≡ 0 = e.num ∙ rw c refl in
          let z = grouped_idle w s l x in
          rw (n, z) (zero-mul (den all s) ∙ sym (zero-mul whole)))
    ]

pub solved :
    (night : Night) (p : Parts) (all : List Fraction) (flows longest : ℕ) (plan plan' work work' : List ℕ) →
    needed night ≤ length plan → needed night ≤ length work →
    Walking (hours_of night) (tasks_of night) p flows longest plan plan' work work' → p.top ≡ 96 →
    flows ≤ p.found * longest → ((s : ℕ) → s < 96 → Same (get_or all s nought) (level_at p.found p.hours p.levels s)) → length all ≡ 96 →
    Solved night
    (record {
      count = p.found;
      groups = p.hours;
      levels = p.levels;
      of = p.of;
      loads = all;
      flows = flows;
      longest = longest;
    })
    plan plan' work work'
solved night p all flows longest plan plan' work work' rp rw' walking done shared loads long =
    let y = day_of night in
    let short = night_within night in
    let w : State (tasks_of night) p.found 96 p.hours p.levels p.of plan' =
    subst (λ x. State (tasks_of night) p.found x p.hours p.levels p.of plan') done walking.held in
    let never : (j s : ℕ) → j < length (tasks_of night) → hours_of night ≤ s → may (tasks_of night) j s ≡ false = λ j s l g.
    elim (cases_Bool (may (tasks_of night) j s)) [ inl t ↦ (let b = short.low j s l t in absurd (omega arith)) | inr f ↦ f ] in
    let groups : Grouped y p.found (num p.levels) (den p.levels) (label p.of) (group_at p.found p.hours) (amount plan') =
    grouped_at (group_at p.found p.hours)
    (grouped y w.stack w.amounts short.few
    (λ j s i l g. never j s i g)
    (λ g l. let b = w.small g l in omega arith))
    (λ s l x. at_group w s x) (λ s l x. let e = at_none w s x in omega arith) in
    record {
      room = (rp, rw');
      a_plan = grouped_plan groups;
      even = grouped_even groups;
      least = λ e z q. most_even y whole e _ z (grouped_plan groups) (grouped_even groups) q;
      lowest = λ e z q. lowest_peak y whole e _ z (grouped_plan groups) (grouped_even groups) q;
      cheapest = λ c rise e z q. cheapest c y whole e _ z rise (grouped_plan groups) (grouped_even groups) q;
      loads = λ s l. load_is p.found p.hours p.levels all groups s l (loads s (let b = short.few in omega arith));
      long = long;
      written = λ s l. loads s (let b = short.few in omega arith);
      groups = groups;
      densest = densest_first y p.found (num p.levels) (den p.levels) (label p.of) (group_at p.found p.hours) (amount plan') groups;
      some = λ g l.
          (let b = w.stack.found in
          let r = w.stack.some g (omega arith) (λ x. omega arith) in
          let x : w.at r.0 < p.found = omega (arith, r.2) in
          (r.0, (at_used w (hours_of night) short r.0 x).0, at_group w r.0 x ∙ r.2));
      sets = λ g s l. at_sets w (hours_of night) short g s l;
      used = λ s l x.
          (let e = at_is w s x in
          (at_used w (hours_of night) short s (omega arith)).1);
      mine = λ j l.
          (let r = w.stack.mine j l in
          let x : w.at r.0 < p.found = omega (arith, r.3, groups.some j l) in
          (r.0, short.low j r.0 l r.2, r.2, at_group w r.0 x ∙ r.3));
      idle = λ s l x.
          (let e = at_beyond w (hours_of night) short s l in
          let v = loads s x in
          let f : ltb (group_at p.found p.hours s) p.found ≡ false =
          rw e (le-ltb p.found p.found (omega arith)) in
          (v.num ∙ rw f refl, v.den ∙ rw f refl));
      small = w.small;
      terms = λ g l. (get_or p.levels g nought).lowest;
      flows = let c = walking.count in omega arith;
      longest = (shared, walking.most);
      beyond = λ j s l g k. w.amounts.only j s l k (groups.some j l) (never j s l g);
      plan_rest = walking.plans;
      work_rest = walking.works;
    }
