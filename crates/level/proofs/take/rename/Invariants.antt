use Rattle.std.proofs.Common.{ℕ}
use Rattle.level.specs.Change.{Moved}
use Rattle.level.specs.Parts.{label}
use Rattle.level.specs.Stack.{is}
use Rattle.level.proofs.Crews.{Rest}
use Rattle.level.proofs.take.rename.Given as goal

abbrev pub invariant-tasks : goal.invariant-tasks
invariant-tasks l =
    (from : ℕ) × Rest l.n (is (label l.initial.of) l.top) from l.j-iterator.rest
    × Moved l.top l.to from l.initial.of l.of
