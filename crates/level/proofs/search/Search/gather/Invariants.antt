use Rattle.std.proofs.Common.{◌≡◌, ℕ, ◌≤◌, length}
use Rattle.fraction.specs.Sum.{size}
use Rattle.level.specs.Crew.{Manned}
use Rattle.level.specs.Parts.{top_tasks}
use Rattle.level.proofs.Crews.{Rest}
use Rattle.level.proofs.search.Search.gather.Given as goal

abbrev pub invariant-tasks : goal.invariant-tasks
invariant-tasks l =
    (from : ℕ) × Rest (length l.self.tasks.now) (top_tasks l.self.parts) from l.j-iterator.rest × (l.k ≤ from)
    × (l.k ≡ size from (top_tasks l.self.parts))
    × Manned l.self.tasks.now (top_tasks l.self.parts) l.q from l.crew.may l.crew.supply
