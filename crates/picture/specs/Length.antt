-- Lengths of bars. Assumes nothing: these are definitions.
use Rattle.std.specs.Prelude.{◌≡◌, ℕ, ◌+◌, ◌-◌, ◌*◌, ◌/◌, ◌<◌, ◌≤◌, min, cond, ◌==◌}

-- the bar of the load a / b, where the bar of m / d has the length w: w * (a / b) / (m / d), rounded up, and at most w
abbrev pub bar_length : ℕ → ℕ → ℕ → ℕ → ℕ → ℕ
bar_length w a b m d = cond (m * b == 0) 0 (min w ((a * d * w + (m * b - 1)) / (m * b)))

-- r is the length of that bar: at most w, 0 only for no load, and w for the largest
pub record Bar (w a b m d r : ℕ) : Type 0 where
  pub value : r ≡ bar_length w a b m d
  pub within : r ≤ w
  pub nothing : a ≡ 0 → r ≡ 0
  pub something : 0 < a → 0 < m → 0 < w → 0 < r
  pub whole : 0 < m → a * d ≡ m * b → r ≡ w
