use Rattle.std.proofs.Common.{◌≡◌, ℕ, ◌&&◌, ltb, length}
use Rattle.fraction.specs.Sum.{without}
use Rattle.sets.specs.Hours.{has}
use Rattle.night.specs.Task.{may}
use Rattle.level.specs.Change.{Freed}
use Rattle.level.specs.Cut.{open_to}
use Rattle.level.specs.Parts.{label}
use Rattle.level.specs.Stack.{is}
use Rattle.level.specs.TaskSet.{holds}
use Rattle.level.proofs.Crews.{Rest}
use Rattle.level.proofs.split.free.Given as goal

abbrev pub invariant-tasks : goal.invariant-tasks
invariant-tasks l =
    (from : ℕ) × Rest (length l.tasks) (is (label l.initial.of) l.top) from l.j-iterator.rest
    × Freed l.tasks l.top (has l.u) from l.initial.of l.of
    × ((j : ℕ) → holds l.dense j
    ≡ (ltb j from && without (holds l.initial.j-iterator.rest) (open_to 96 (may l.tasks) (has l.u)) j))
