-- Tasks, and the tasks that a night can have. Assumes nothing: these are definitions.
use Rattle.std.specs.Prelude.{◌≡◌, ℕ, ◌^◌, ◌<◌, ◌≤◌, Bool, true, List, length, get_or, slice_index_or}
use Rattle.fraction.specs.Sum.{any}
use Rattle.night.specs.declared.task.Task.{Task}
use Rattle.sets.specs.Hours.{has, blank}
use Rattle.fraction.specs.Limits.{max_hours, max_tasks, max_units}

-- what stands where a list of tasks has ended
abbrev pub blank_task : Task
blank_task = record { units = 0; hours = blank }

-- the units that task j needs
abbrev pub units : List Task → ℕ → ℕ
units ts j = (get_or ts j blank_task).units

-- task j may be done in hour s
abbrev pub may : List Task → ℕ → ℕ → Bool
may ts j s = has (get_or ts j blank_task).hours s

-- a task that a night of n hours can have: few enough units, and at least one hour, all below n
abbrev pub Fits : ℕ → Task → Type 0
Fits n t = (t.units ≤ max_units) × (any n (has t.hours) ≡ true) × (t.hours.bits < 2 ^ n)

-- the hours and tasks of a night
pub record Sound (n : ℕ) (ts : List Task) : Type 0 where
  pub some : 0 < n
  pub short : n ≤ max_hours
  pub few : length ts ≤ max_tasks
  pub each : (j : ℕ) → j < length ts → Fits n (slice_index_or ts j blank_task)
