-- What a day, a plan, a load and an even plan are. Assumes nothing: these are definitions.
use Rattle.std.specs.Prelude.{◌≡◌, ℕ, ◌-◌, ◌*◌, ◌<◌, ◌≤◌, Bool, true, false}
use Rattle.fraction.specs.Sum.{sum}

-- tasks and hours, numbered from 0; work j: the units that task j needs; may j s: task j may be done in hour s
pub record Day : Type 0 where
  pub tasks : ℕ
  pub hours : ℕ
  pub work : ℕ → ℕ
  pub may : ℕ → ℕ → Bool

-- a plan: x j s is how much of task j is done in hour s, in parts of 1 / d;
-- all of each task is done, and only in hours in which it may be
pub record Plan (y : Day) (d : ℕ) (x : ℕ → ℕ → ℕ) : Type 0 where
  pub parts : 0 < d
  pub all : (j : ℕ) → j < y.tasks → sum y.hours (x j) ≡ y.work j * d
  pub only : (j s : ℕ) → j < y.tasks → s < y.hours → y.may j s ≡ false → x j s ≡ 0

-- the load of an hour: what is done in it, over all tasks
unfoldable pub load : Day → (ℕ → ℕ → ℕ) → ℕ → ℕ
load y x s = sum y.tasks (λ j. x j s)

-- even: no task is done in an hour that has more load than another in which the task may be done
unfoldable pub Even : Day → (ℕ → ℕ → ℕ) → Type 0
Even y x =
    (j s t : ℕ) → j < y.tasks → s < y.hours → t < y.hours → 0 < x j s → y.may j t ≡ true → load y x s ≤ load y x t

-- how much load lies above a level k, over all hours
unfoldable pub above : Day → (ℕ → ℕ → ℕ) → ℕ → ℕ
above y x k = sum y.hours (λ s. load y x s - k)
