use Rattle.std.proofs.Common.{◌≡◌, ℕ, ◌*◌, ◌≤◌, length}
use Rattle.fraction.specs.Sum.{part}
use Rattle.night.specs.Task.{units}
use Rattle.level.specs.Parts.{top_tasks}
use Rattle.level.proofs.Crews.{Rest}
use Rattle.level.proofs.search.Search.weigh.Given as goal

abbrev pub invariant-tasks : goal.invariant-tasks
invariant-tasks l =
    (from : ℕ) × Rest (length l.self.tasks.now) (top_tasks l.self.parts) from l.j-iterator.rest
    × (l.all ≡ part from (top_tasks l.self.parts) (units l.self.tasks.now)) × (l.all ≤ from * 1000000)
