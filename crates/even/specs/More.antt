-- Days with more work. Assumes nothing: these are definitions.
use Rattle.std.specs.Prelude.{◌≡◌, ℕ, suc, ◌+◌, ◌-◌, ◌*◌, ◌<◌, ◌≤◌, Bool, cond, ◌==◌, ◌≢◌, nat_lt}
use Rattle.even.specs.Day.{Day, load}

-- day w has the work of day y, and maybe more: the same hours, and task j of y is task f j of w, with the same hours allowed and
-- no fewer units; no two tasks of y are the same task of w
pub record Within (y w : Day) (f : ℕ → ℕ) : Type 0 where
  pub span : y.hours ≡ w.hours
  pub there : (j : ℕ) → j < y.tasks → f j < w.tasks
  pub apart : (i j : ℕ) → i < j → j < y.tasks → f i ≢ f j
  pub units : (j : ℕ) → j < y.tasks → y.work j ≤ w.work (f j)
  pub allowed : (j s : ℕ) → j < y.tasks → s < y.hours → y.may j s ≡ w.may (f j) s

-- no hour of day y has more load by x, in parts of 1 / d, than by z of day w, in parts of 1 / e
abbrev pub NoMore : Day → ℕ → (ℕ → ℕ → ℕ) → Day → ℕ → (ℕ → ℕ → ℕ) → Type 0
NoMore y d x w e z = (s : ℕ) → s < y.hours → load y x s * e ≤ load w z s * d

-- the day with u units more for task i
abbrev pub raised : Day → ℕ → ℕ → Day
raised y i u =
    record { tasks = y.tasks; hours = y.hours; work = λ j. cond (j == i) (y.work j + u) (y.work j); may = y.may }

-- the day with one task more, the last: u units, in the hours that pass the test p
abbrev pub longer : Day → ℕ → (ℕ → Bool) → Day
longer y u p =
    record {
      tasks = suc y.tasks;
      hours = y.hours;
      work = λ j. cond (j == y.tasks) u (y.work j);
      may = λ j. cond (j == y.tasks) p (y.may j);
    }

-- the number that task j had before task i was gone: later tasks have moved down by one
abbrev pub skip : ℕ → ℕ → ℕ
skip i j = cond (nat_lt j i) j (suc j)

-- the day with task i gone
abbrev pub shorter : Day → ℕ → Day
shorter y i =
    record { tasks = y.tasks - 1; hours = y.hours; work = λ j. y.work (skip i j); may = λ j. y.may (skip i j) }
