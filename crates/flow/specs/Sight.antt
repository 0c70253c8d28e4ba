-- What a look at the layers tells, case by case. Assumes nothing: these are definitions.
use Rattle.std.specs.Prelude.{◌≡◌, ℕ, ◌<◌, ◌≤◌, true, List, slice_index_or, MatchOption}
use Rattle.std.specs.declared.ops.ControlFlow.{ControlFlow}
use Rattle.std.specs.declared.ops.ControlFlow.TheVariants.{Continue, Break}
use Rattle.sets.specs.declared.hours.Hours.{Hours}
use Rattle.sets.specs.Hours.{blank}
use Rattle.flow.specs.declared.net.Net.{Net}
use Rattle.flow.specs.declared.layer.Sight.{Sight}
use Rattle.flow.specs.Lent.{left, touches, Spread, Stuck, Layered}

-- task j has something left, and may use an hour of the set
pub record Waiting (m : ℕ) (may : List Hours) (net : Net) (from : Hours) (j : ℕ) : Type 0 where
  pub task_in : j < m
  pub waits : 0 < left net j
  pub near : touches may j from ≡ true

-- one round of a look
abbrev pub Rounds : ℕ → List Hours → Net → Hours → ControlFlow ℕ Hours → Type 0
Rounds m may net from (Break j) = Waiting m may net from j
Rounds m may net from (Continue next) = Spread m may net from next

-- a whole look: layers up to a depth, where a task waits, or none does and nothing more can be reached
abbrev pub Seen : ℕ → List Hours → Net → List Hours → Sight → Type 0
Seen m may net layers s =
    (s.depth ≤ 96)
    × Layered m may net layers s.depth
    × MatchOption s.task (Stuck m may net (slice_index_or layers s.depth blank)) (Waiting m may net (slice_index_or layers s.depth blank))
