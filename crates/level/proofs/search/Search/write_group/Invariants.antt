use Rattle.std.proofs.Common.{◌≡◌, ℕ, ◌≤◌, length}
use Rattle.fraction.specs.Sum.{size}
use Rattle.level.specs.Parts.{top_tasks}
use Rattle.level.specs.Row.{Written}
use Rattle.level.proofs.Crews.{Rest}
use Rattle.flow.specs.Lent.{flow}
use Rattle.level.proofs.search.Search.write_group.Given as goal

abbrev pub invariant-tasks : goal.invariant-tasks
invariant-tasks l =
    (from : ℕ) × Rest (length l.self.tasks.now) (top_tasks l.self.parts) from l.i-iterator.iter.rest × (l.i-iterator.count ≤ from)
    × (l.i-iterator.count ≡ size from (top_tasks l.self.parts))
    × Written from (top_tasks l.self.parts) (flow l.net l.work) l.initial.plan l.plan
