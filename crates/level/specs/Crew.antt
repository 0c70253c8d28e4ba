-- The gathered tasks of a part as the code holds them. Assumes nothing: these are definitions.
use Rattle.std.specs.Prelude.{◌≡◌, ℕ, ◌*◌, ◌<◌, ◌≤◌, Bool, true, ◌&&◌, List, length, get_or, nat_lt, slice_index, slice_index_or}
use Rattle.fraction.specs.Sum.{size}
use Rattle.sets.specs.declared.hours.Hours.{Hours}
use Rattle.night.specs.declared.task.Task.{Task}
use Rattle.sets.specs.Hours.{blank}
use Rattle.night.specs.Task.{blank_task, units}
use Rattle.level.specs.declared.parts.Parts.{Parts}
use Rattle.level.specs.declared.task_set.TaskSet.{TaskSet}
use Rattle.level.specs.Parts.{label}
use Rattle.level.specs.Stack.{is}
use Rattle.level.specs.TaskSet.{holds, nobody}

-- the set c has just those of the first n tasks that have the label i
pub record CrewOf (n : ℕ) (of : List ℕ) (i : ℕ) (c : TaskSet) : Type 0 where
  pub tasks : (j : ℕ) → holds c j ≡ (nat_lt j n && is (label of) i j)

-- each part that waits has the set of its tasks
pub record Crews (n : ℕ) (p : Parts) : Type 0 where
  pub sets : length p.sets ≡ 96
  pub each : (i : ℕ) → p.top ≤ i → i < 96 → CrewOf n p.of i (slice_index_or p.sets i nobody)

-- the tasks below m that p picks stand in rising order: task j at the position size j p, with its hours and q for each of its units
pub record Manned (ts : List Task) (p : ℕ → Bool) (q m : ℕ) (may : List Hours) (supply : List ℕ) : Type 0 where
  pub allowed : (j : ℕ) → j < m → p j ≡ true → slice_index_or may (size j p) blank ≡ (get_or ts j blank_task).hours
  pub supplied : (j : ℕ) → j < m → p j ≡ true → slice_index supply (size j p) ≡ units ts j * q
