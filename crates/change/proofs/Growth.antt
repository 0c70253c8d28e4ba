-- A change that adds work keeps the tasks there were, and one that takes work away has no others.
use Rattle.std.proofs.Common.{◌≡◌, ℕ, suc, ◌+◌, ◌<◌, cond, List, [], ◌∷◌, length, get_or, sym, refl, ap, ◌∙◌, inl, inr, add-one, arith, length-append, length-set}
use Rattle.std.specs.List.{remove}
use Rattle.std.proofs.lemmas.List.Edits.{length-remove, get_or-remove_below, get_or-remove_above}
use Rattle.std.proofs.lemmas.List.{get_or_append_left, get_or-set_same, get_or-set_other}
use Rattle.std.proofs.lemmas.Bool.{cases_eq, cases_lt, cases_order, lt-ltb, le-ltb}
use Rattle.std.proofs.lemmas.Bool.Decides.{nat_tests}
use Rattle.night.specs.declared.task.Task.{Task}
use Rattle.night.specs.Task.{units, may, blank_task}
use Rattle.even.specs.Day.{Day}
use Rattle.even.specs.DayOf.{day}
use Rattle.even.specs.More.{Within, skip}
use Rattle.change.specs.declared.kinds.Change.{Change}
use Rattle.change.specs.declared.kinds.Change.TheVariants.{Comes, Goes, More}
use Rattle.change.specs.Row.{Possible, AllCan, after, after_row}
use Rattle.change.specs.Growth.{Adds, Takes, OnlyAdds, OnlyTakes}

-- no task is lost on the way over a day between
pub within_trans : {y w v : Day} {f g : ℕ → ℕ} → Within y w f → Within w v g → Within y v (λ j. g (f j))
within_trans {y} {w} {v} {f} {g} p q =
    record {
      span = p.span ∙ q.span;
      there = λ j l. q.there (f j) (p.there j l);
      apart = λ i j l k e.
          elim (cases_order (f i) (f j)) [
            | inl same ↦ p.apart i j l k same
            | inr other ↦
                elim other [
                  | inl lt ↦ q.apart (f i) (f j) lt (p.there j k) e
                  | inr gt ↦ q.apart (f j) (f i) gt (p.there i (omega arith)) (sym e)
                ]
          ];
      units = λ j l. omega (arith, p.units j l, q.units (f j) (p.there j l));
      allowed = λ j s l k. p.allowed j s l k ∙ q.allowed (f j) s (p.there j l) (rw p.span at k);
    }

pub within_same : (y : Day) → Within y y (λ j. j)
within_same y =
    record { span = refl; there = λ j l. l; apart = λ i j l k e. omega arith; units = λ j l. omega arith; allowed = λ j s l k. refl }

-- the tasks before a change that adds, within those after it
pub adds_within : (n : ℕ) (ts : List Task) (c : Change) → Possible n ts c → Adds c → Within (day n ts) (day n (after ts c)) (λ j. j)
adds_within n ts (Comes t) p a =
    record {
      span = refl;
      there = λ j l. simp length-append (omega arith);
      apart = λ i j l k e. omega arith;
      units = λ j l. omega (arith, ap (λ (u : Task). u.units) (get_or_append_left ts (t ∷ []) blank_task j l));
      allowed = λ j s l k. ap (λ (u : Task). may (u ∷ []) 0 s) (sym (get_or_append_left ts (t ∷ []) blank_task j l));
    }
adds_within n ts (Goes j) p a = absurd a
adds_within n ts (More i u) p a =
    let raised : Task = record { units = units ts i + u; hours = (get_or ts i blank_task).hours } in
    record {
      span = refl;
      there = λ j l. simp length-set (omega arith);
      apart = λ i j l k e. omega arith;
      units = λ j l.
          elim (cases_eq j i) [
            | inl e ↦ rw e (omega (arith, ap (λ (v : Task). v.units) (get_or-set_same ts i raised blank_task p.0)))
            | inr ne ↦ omega (arith, ap (λ (v : Task). v.units) (get_or-set_other ts i j raised blank_task ne))
          ];
      allowed = λ j s l k.
          elim (cases_eq j i) [
            | inl e ↦ rw e (ap (λ (v : Task). may (v ∷ []) 0 s) (sym (get_or-set_same ts i raised blank_task p.0)))
            | inr ne ↦ ap (λ (v : Task). may (v ∷ []) 0 s) (sym (get_or-set_other ts i j raised blank_task ne))
          ];
    }

-- a task that is left, where it was before task i went
skipped : (ts : List Task) (i j : ℕ) → i < length ts → get_or (remove ts i) j blank_task ≡ get_or ts (skip i j) blank_task
skipped ts i j l =
    elim (cases_lt j i) [
      | inl lt ↦ get_or-remove_below ts i blank_task j lt l ∙ ap (λ b. get_or ts (cond b j (suc j)) blank_task) (sym (lt-ltb j i lt))
      | inr ge ↦
          get_or-remove_above ts i blank_task j ge l
          ∙ (ap (λ k. get_or ts k blank_task) (add-one j) ∙ ap (λ b. get_or ts (cond b j (suc j)) blank_task) (sym (le-ltb j i ge)))
    ]

-- the tasks after a change that takes away, within those before it
pub takes_within :
    (n : ℕ) (ts : List Task) (c : Change) → Possible n ts c → Takes c → (f : ℕ → ℕ) × Within (day n (after ts c)) (day n ts) f
takes_within n ts (Comes t) p a = absurd a
takes_within n ts (Goes i) p a =
    let long = length-remove ts i p in (
      skip i,
      record {
        span = refl;
        there = λ j l. grind (arith, nat_tests);
        apart = λ h j l k e. grind (arith, nat_tests);
        units = λ j l. omega (arith, ap (λ (v : Task). v.units) (skipped ts i j p));
        allowed = λ j s l k. ap (λ (v : Task). may (v ∷ []) 0 s) (skipped ts i j p);
      },
    )
takes_within n ts (More i u) p a = absurd a

-- a row that only adds
pub row_adds :
    (n : ℕ) (ts : List Task) (cs : List Change) → AllCan n ts cs → OnlyAdds cs → Within (day n ts) (day n (after_row ts cs)) (λ j. j)
row_adds n ts [] can adds = within_same (day n ts)
row_adds n ts (c ∷ cs) can adds =
    within_trans (adds_within n ts c (can 0 (omega arith)) adds.0)
    (row_adds n (after ts c) cs (λ i l. can (suc i) (omega arith)) adds.1)

-- a row that only takes away
pub row_takes :
    (n : ℕ) (ts : List Task) (cs : List Change) → AllCan n ts cs → OnlyTakes cs →
    (f : ℕ → ℕ) × Within (day n (after_row ts cs)) (day n ts) f
row_takes n ts [] can takes = ((λ j. j), within_same (day n ts))
row_takes n ts (c ∷ cs) can takes =
    let p = takes_within n ts c (can 0 (omega arith)) takes.0 in
    let q = row_takes n (after ts c) cs (λ i l. can (suc i) (omega arith)) takes.1 in
    ((λ j. p.0 (q.0 j)), within_trans q.1 p.1)
