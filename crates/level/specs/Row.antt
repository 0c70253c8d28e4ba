-- What is written into a lent plan. Assumes nothing: these are definitions.
use Rattle.std.specs.Prelude.{◌≡◌, ℕ, ◌*◌, ◌<◌, ◌≤◌, Bool, cond, List, slice_index}
use Rattle.level.specs.Gathered.{scattered}
use Rattle.level.specs.Parts.{amount}

-- of the first n rows those of the tasks t hold what these ship; all else is as it was
pub record Written (n : ℕ) (t : ℕ → Bool) (f : ℕ → ℕ → ℕ) (plan plan' : List ℕ) : Type 0 where
  pub rows : (j s : ℕ) → j < n → s < 96 → amount plan' j s ≡ cond (t j) (scattered t f j s) (amount plan j s)
  pub rest : (k : ℕ) → n * 96 ≤ k → slice_index plan' k ≡ slice_index plan k
