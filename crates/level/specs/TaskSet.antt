-- Sets of tasks, by their members. Assumes nothing: these are definitions.
use Rattle.std.specs.Prelude.{ℕ, ◌-◌, Bool, cond, nat_lt}
use Rattle.sets.specs.Hours.{has, blank}
use Rattle.level.specs.declared.task_set.TaskSet.{TaskSet}

-- task j is in the set c: the first 128 in its low half, the others in its high half
unfoldable pub holds : TaskSet → ℕ → Bool
holds c j = cond (nat_lt j 128) (has c.low j) (has c.high (j - 128))

-- the empty set, which stands where a list of sets has ended
abbrev pub nobody : TaskSet
nobody = record { low = blank; high = blank }
