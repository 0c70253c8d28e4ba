-- Paths along which flow moves to make room. Assumes nothing: these are definitions.
use Rattle.std.specs.Prelude.{◌≡◌, ℕ, ◌<◌, ◌≤◌, Bool, true, false, List}
use Rattle.sets.specs.declared.hours.Hours.{Hours}
use Rattle.sets.specs.Hours.{has}
use Rattle.flow.specs.declared.net.Net.{Net}
use Rattle.flow.specs.Lent.{permits, marked, flow, room, touches}

-- task j has flow in hour t, and may use hour u of the set
pub record Step (m : ℕ) (may : List Hours) (net : Net) (near : Hours) (t j u : ℕ) : Type 0 where
  pub task_in : j < m
  pub flows : marked net j t ≡ true
  pub allowed : permits may j u ≡ true
  pub nearer : has near u ≡ true

-- no task of the first m with flow in hour t may use an hour of the set
pub record NoStep (m : ℕ) (may : List Hours) (net : Net) (near : Hours) (t : ℕ) : Type 0 where
  pub none : (j : ℕ) → j < m → marked net j t ≡ true → touches may j near ≡ false

-- room for `got` is made in hour t by moves between hours of the set
pub record Freed (near : ℕ → Bool) (net : Net) (work : List ℕ) (net' : Net) (work' : List ℕ) (t want got : ℕ) : Type 0 where
  pub most : got ≤ want
  pub ready : got ≤ room net' t
  pub kept : (j s : ℕ) → s < 96 → near s ≡ false → flow net' work' j s ≡ flow net work j s
  pub lefts : net'.left ≡ net.left
