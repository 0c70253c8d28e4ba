-- The bytes of a night: hours (one), tasks (one); for each task its units (four) and a row of bits, one for each hour,
-- in whole bytes. Low bytes and low bits come first.
-- Assumes nothing: these are definitions.
use Rattle.std.specs.Prelude.{◌≡◌, ℕ, ◌+◌, ◌*◌, ◌/◌, ◌<◌, ◌≤◌, List, ◌∷◌, ◌++◌, length, take, drop, slice_index, slice_index_or}
use Rattle.std.specs.List.{flat_map}
use Rattle.night.specs.declared.task.Task.{Task}
use Rattle.night.specs.Bytes.{little, digits}
use Rattle.fraction.specs.Limits.{max_hours, max_tasks}
use Rattle.night.specs.Task.{blank_task, Fits}

-- how many bytes a row of n bits takes
abbrev pub width : ℕ → ℕ
width n = (n + 7) / 8

-- where the bytes of task j begin, and where they end if there are j tasks; a row takes w bytes
abbrev pub place : ℕ → ℕ → ℕ
place w j = 2 + j * (4 + w)

-- the hours that the bytes b say
abbrev pub hours_in : List ℕ → ℕ
hours_in b = slice_index b 0

-- the number of tasks
abbrev pub count_in : List ℕ → ℕ
count_in b = slice_index b 1

-- the number that the w bytes from p on write
abbrev pub number_at : List ℕ → ℕ → ℕ → ℕ
number_at b p w = little (take w (drop p b))

-- the row of task j, as a number: bit i is hour i
abbrev pub row_in : List ℕ → ℕ → ℕ
row_in b j = number_at b (place (width (hours_in b)) j + 4) (width (hours_in b))

-- the units of task j
abbrev pub units_in : List ℕ → ℕ → ℕ
units_in b j = number_at b (place (width (hours_in b)) j) 4

-- task j
abbrev pub task_in : List ℕ → ℕ → Task
task_in b j = record { units = units_in b j; hours = record { bits = row_in b j } }

-- where a night ends that begins as b does
abbrev pub end_in : List ℕ → ℕ
end_in b = place (width (hours_in b)) (count_in b)

-- the bytes of a night
pub record WellFormed (b : List ℕ) : Type 0 where
  pub some : 0 < hours_in b
  pub short : hours_in b ≤ max_hours
  pub few : count_in b ≤ max_tasks
  pub ends : length b ≡ end_in b
  pub each : (j : ℕ) → j < count_in b → Fits (hours_in b) (task_in b j)

-- the bytes b say n hours and the tasks ts
pub record Says (b : List ℕ) (n : ℕ) (ts : List Task) : Type 0 where
  pub hours : n ≡ hours_in b
  pub count : length ts ≡ count_in b
  pub tasks : (j : ℕ) → j < length ts → slice_index_or ts j blank_task ≡ task_in b j

-- the bytes that a task is written as, where a row takes w of them
abbrev pub task_bytes : ℕ → Task → List ℕ
task_bytes w t = digits 4 t.units ++ digits w t.hours.bits

-- the bytes that a night of n hours with the tasks ts is written as
abbrev pub night_bytes : ℕ → List Task → List ℕ
night_bytes n ts = n ∷ length ts ∷ flat_map (task_bytes (width n)) ts
