-- The range of the numbers that a plan needs. Assumes nothing: these are definitions.
use Rattle.std.specs.Prelude.{ℕ, ◌*◌, ◌<◌, ◌≤◌}
use Rattle.fraction.specs.Limits.{max_hours, max_tasks, max_units}
use Rattle.fraction.specs.Sum.{sum}
use Rattle.fraction.specs.Fraction.{num_end, den_end}

-- a night within the limits; work j: the units of task j
pub record Limited (tasks hours : ℕ) (work : ℕ → ℕ) : Type 0 where
  pub few_tasks : tasks ≤ max_tasks
  pub few_hours : hours ≤ max_hours
  pub few_units : (j : ℕ) → j < tasks → work j ≤ max_units

-- what a plan needs: all units over the hours is a fraction; and at most r are
-- a task's units in parts of 1 / q, those of all tasks, and a level's numerator times a denominator or a number of hours
pub record Bounded (r tasks hours : ℕ) (work : ℕ → ℕ) : Type 0 where
  pub numerators : sum tasks work < num_end
  pub denominators : hours < den_end
  pub supply : (j q : ℕ) → j < tasks → q ≤ hours → work j * q ≤ r
  pub supplies : (q : ℕ) → q ≤ hours → sum tasks (λ j. work j * q) ≤ r
  pub products : (p q : ℕ) → p ≤ sum tasks work → q ≤ hours → p * q ≤ r

-- r bounds what every plan within the limits needs
abbrev pub Bounds : ℕ → Type 0
Bounds r = (tasks hours : ℕ) (work : ℕ → ℕ) → Limited tasks hours work → Bounded r tasks hours work
