-- What a night holds. Assumes nothing: these are definitions.
use Rattle.std.specs.Prelude.{ℕ, List, vec_items}
use Rattle.night.specs.declared.task.Task.{Task}
use Rattle.night.specs.declared.night.Night.{Night}

-- how many hours a night has
abbrev pub hours_of : Night → ℕ
hours_of n = n.hours

-- its tasks
abbrev pub tasks_of : Night → List Task
tasks_of n = vec_items n.tasks
