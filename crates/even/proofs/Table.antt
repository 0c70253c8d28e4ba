-- A test of a worked day that the checker computes.
use Rattle.std.proofs.Common.{◌≡◌, ℕ, zero, suc, ◌*◌, ◌<◌, ◌≤◌, Bool, true, false, not, ◌&&◌, ◌||◌, eqb, ltb, leb, List, [], ◌∷◌, length, get_or, ap, ◌∙◌, inl, inr, arith}
use Rattle.std.proofs.lemmas.Bool.Decides.{nat_tests}
use Rattle.std.proofs.lemmas.Bool.{cases_eq, and_parts, eqb-true, ltb-true}
use Rattle.fraction.specs.Sum.{sum}
use Rattle.even.specs.Day.{Day, Plan, Even, load}
use Rattle.even.specs.Worked.{Row, day, amount, Worked, AllWorked}
use Rattle.even.proofs.Any.{same_loads}

-- a test passes at each index below n
unfoldable pub every : ℕ → (ℕ → Bool) → Bool
every zero p = true
every (suc n) p = p n && every n p

every_at : (n : ℕ) (p : ℕ → Bool) → every n p ≡ true → (i : ℕ) → i < n → p i ≡ true
unfolding every
every_at zero p h i l = absurd (omega arith)
every_at (suc n) p h i l =
    let r = and_parts (p n) (every n p) h in
    elim (cases_eq i n) [ inl e ↦ rw e r.0 | inr ne ↦ every_at n p r.1 i (omega arith) ]

-- all of each task is done, and only where it may be
abbrev all_done : Day → ℕ → (ℕ → ℕ → ℕ) → Bool
all_done y d x = every y.tasks (λ j. eqb (sum y.hours (x j)) (y.work j * d))

abbrev only_there : Day → (ℕ → ℕ → ℕ) → Bool
only_there y x = every y.tasks (λ j. every y.hours (λ s. y.may j s || eqb (x j s) 0))

only_from : (may : Bool) (a : ℕ) → (may || eqb a 0) ≡ true → may ≡ false → a ≡ 0
only_from may a h off = grind (arith, nat_tests)

plan_from :
    (y : Day) (d : ℕ) (x : ℕ → ℕ → ℕ) → 0 < d → all_done y d x ≡ true → only_there y x ≡ true → Plan y d x
plan_from y d x pos all only =
    record {
      parts = pos;
      all = λ j l. eqb-true _ _ (every_at y.tasks _ all j l);
      only = λ j s lj ls. only_from (y.may j s) (x j s) (every_at y.hours _ (every_at y.tasks _ only j lj) s ls);
    }

-- no task is done in an hour with more load than another in which it may be
abbrev none_higher : Day → (ℕ → ℕ → ℕ) → Bool
none_higher y x =
    every y.tasks (λ j. every y.hours (λ s. every y.hours (λ t.
    eqb (x j s) 0 || (not (y.may j t) || leb (load y x s) (load y x t)))))

no_higher : (may : Bool) (a l k : ℕ) → (eqb a 0 || (not may || leb l k)) ≡ true → 0 < a → may ≡ true → l ≤ k
no_higher may a l k h some can = grind (arith, nat_tests)

even_from : (y : Day) (x : ℕ → ℕ → ℕ) → none_higher y x ≡ true → Even y x
unfolding Even
even_from y x h j s t lj ls lt =
    no_higher (y.may j t) (x j s) (load y x s) (load y x t)
    (every_at y.hours _ (every_at y.hours _ (every_at y.tasks _ h j lj) s ls) t lt)

-- the loads are those of a list
abbrev loads_are : Day → (ℕ → ℕ → ℕ) → List ℕ → Bool
loads_are y x ls = every y.hours (λ s. eqb (load y x s) (get_or ls s 0))

abbrev pub passes : Row → Bool
passes r =
    ltb 0 r.over
    && (all_done (day r) r.over (amount r)
    && (only_there (day r) (amount r)
    && (none_higher (day r) (amount r) && loads_are (day r) (amount r) r.loads)))

worked : (r : Row) → passes r ≡ true → Worked r
worked r h =
    let y = day r in
    let x = amount r in
    let a = and_parts _ _ h in
    let b = and_parts (all_done y r.over x) _ a.1 in
    let c = and_parts (only_there y x) _ b.1 in
    let d = and_parts (none_higher y x) _ c.1 in
    let plan = plan_from y r.over x (ltb-true 0 r.over a.0) b.0 c.0 in
    let even = even_from y x d.0 in
    record {
      plan = plan;
      even = even;
      every = λ e z p f s l.
          same_loads y e r.over z x p f plan even s l ∙ ap (λ v. v * e) (eqb-true _ _ (every_at y.hours _ d.1 s l));
    }

abbrev pub all_pass : List Row → Bool
all_pass [] = true
all_pass (r ∷ rs) = passes r && all_pass rs

each_worked : (rs : List Row) → all_pass rs ≡ true → (i : ℕ) (r : Row) → i < length rs → Worked (get_or rs i r)
each_worked [] h i d l = absurd (omega arith)
each_worked (r ∷ rs) h zero d l = worked r (and_parts (passes r) (all_pass rs) h).0
each_worked (r ∷ rs) h (suc i) d l = each_worked rs (and_parts (passes r) (all_pass rs) h).1 i d (omega arith)

pub all_worked : (rs : List Row) → all_pass rs ≡ true → AllWorked rs
all_worked rs h = record { at = each_worked rs h }
