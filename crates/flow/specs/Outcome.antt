-- How a call ends. Assumes nothing: these are definitions.
use Rattle.std.specs.Prelude.{◌≡◌, ℕ, ◌+◌, ◌<◌, Bool, true, List}
use Rattle.sets.specs.declared.hours.Hours.{Hours}
use Rattle.sets.specs.Hours.{has}
use Rattle.flow.specs.declared.net.Net.{Net}
use Rattle.flow.specs.declared.net.Filled.{Filled}
use Rattle.flow.specs.declared.net.Filled.TheVariants.{Whole, Cut}
use Rattle.flow.specs.Flow.{row, column, meets, Flow, Reaches, Most, Largest, Whole as AllWhole}
use Rattle.flow.specs.Lent.{permits, flow, left, room}

-- nothing can be shipped any more: u is the set of hours that can still reach room, no task that may use one of them has
-- anything left, and some task has
pub record Ended (m : ℕ) (may : List Hours) (net : Net) (work : List ℕ) (u : Hours) : Type 0 where
  pub reaches : Reaches m 96 (permits may) (λ s. room net s + column m (flow net work) s) (flow net work) (has u)
  pub shipped : (j : ℕ) → j < m → meets 96 (permits may j) (has u) ≡ true → left net j ≡ 0
  pub some : (j : ℕ) × (j < m) × (0 < left net j)

-- the state in which a call ends
abbrev pub Settled : ℕ → List Hours → Net → List ℕ → Filled → Type 0
Settled m may net work Whole = (j : ℕ) → j < m → left net j ≡ 0
Settled m may net work (Cut u) = Ended m may net work u

-- what a call says of its flow, which is a largest one: all is shipped, or something is not, and here is its cut
abbrev pub Outcome : ℕ → (ℕ → ℕ → Bool) → (ℕ → ℕ) → (ℕ → ℕ) → (ℕ → ℕ → ℕ) → Filled → Type 0
Outcome m may a c f Whole = Flow m 96 may a c f × AllWhole m 96 a f × Most m 96 may a c f
Outcome m may a c f (Cut u) = Largest m 96 may a c f (has u) × ((j : ℕ) × (j < m) × (row 96 f j < a j))
