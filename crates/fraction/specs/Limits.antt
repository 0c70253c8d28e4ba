-- The largest night. Assumes nothing: these are definitions.
use Rattle.std.specs.Prelude.{ℕ}

abbrev pub max_hours : ℕ
max_hours = 96

abbrev pub max_tasks : ℕ
max_tasks = 200

-- of one task
abbrev pub max_units : ℕ
max_units = 1000000
