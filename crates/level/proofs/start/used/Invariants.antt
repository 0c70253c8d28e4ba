use Rattle.std.proofs.Common.{◌≡◌, ℕ}
use Rattle.fraction.specs.Sum.{any}
use Rattle.sets.specs.Hours.{has}
use Rattle.night.specs.Task.{may}
use Rattle.level.proofs.start.used.Given as goal

abbrev pub invariant-tasks : goal.invariant-tasks
invariant-tasks l = (s : ℕ) → has l.all s ≡ any l.task-index (λ i. may l.tasks i s)
