-- The day of a night: what theorems on days and plans say of it. Assumes nothing: these are definitions.
use Rattle.std.specs.Prelude.{ℕ, List, length}
use Rattle.night.specs.declared.task.Task.{Task}
use Rattle.night.specs.declared.night.Night.{Night}
use Rattle.night.specs.Night.{hours_of, tasks_of}
use Rattle.night.specs.Task.{units, may}
use Rattle.even.specs.Day.{Day}

-- the day of n hours with these tasks
abbrev pub day : ℕ → List Task → Day
day n ts = record { tasks = length ts; hours = n; work = units ts; may = may ts }

-- the day of a night
abbrev pub day_of : Night → Day
day_of n = day (hours_of n) (tasks_of n)
