-- The tasks of a part, gathered in rising order: task j of the part p stands at position size j p, the number of them before it.
-- Assumes nothing: these are definitions.
use Rattle.std.specs.Prelude.{◌≡◌, ℕ, ◌<◌, Bool, true, cond}
use Rattle.fraction.specs.Sum.{size}

-- what is shipped by position, told by task
abbrev pub scattered : (ℕ → Bool) → (ℕ → ℕ → ℕ) → ℕ → ℕ → ℕ
scattered p f j s = cond (p j) (f (size j p) s) 0

-- permissions and supplies by position are those of the tasks; capacities are the same
pub record Gathered (m n : ℕ) (p : ℕ → Bool) (may may' : ℕ → ℕ → Bool) (a a' c c' : ℕ → ℕ) : Type 0 where
  pub allowed : (j s : ℕ) → j < m → s < n → p j ≡ true → may' (size j p) s ≡ may j s
  pub supplied : (j : ℕ) → j < m → p j ≡ true → a' (size j p) ≡ a j
  pub borne : (s : ℕ) → s < n → c' s ≡ c s
