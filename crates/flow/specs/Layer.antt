-- Layers of hours by their way to room. Assumes nothing: these are definitions.
use Rattle.std.specs.Prelude.{◌≡◌, ℕ, ◌+◌, ◌<◌, Bool, true, false}

-- on j s: task j has flow in hour s; spare s: the room in hour s

-- a task with flow in hour s may use an hour of the set p
pub record Passes (m n : ℕ) (may on : ℕ → ℕ → Bool) (p : ℕ → Bool) (s : ℕ) : Type 0 where
  pub task : ℕ
  pub hour : ℕ
  pub task_in : task < m
  pub hour_in : hour < n
  pub allowed : may task hour ≡ true
  pub nearer : p hour ≡ true
  pub flows : on task s ≡ true

-- layer 0 has the hours with room, and each layer up to k adds only hours that pass to the layer before it
pub record Layers (m n : ℕ) (may on : ℕ → ℕ → Bool) (spare : ℕ → ℕ) (layer : ℕ → ℕ → Bool) (k : ℕ) : Type 0 where
  pub first : (s : ℕ) → s < n → layer 0 s ≡ true → 0 < spare s
  pub room : (s : ℕ) → s < n → 0 < spare s → layer 0 s ≡ true
  pub up : (d : ℕ) → d < k → (s : ℕ) → s < n → layer d s ≡ true → layer (d + 1) s ≡ true
  pub from :
      (d : ℕ) → d < k → (s : ℕ) → s < n → layer (d + 1) s ≡ true → layer d s ≡ false → Passes m n may on (layer d) s
