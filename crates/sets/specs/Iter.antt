-- What a walk over a set of numbers gives. Assumes nothing: these are definitions.
use Rattle.std.specs.Prelude.{◌≡◌, ℕ, ◌<◌, Option, None, Some, Bool, true, false, not, ◌&&◌, ◌==◌}

-- i, below n, is the lowest number that passes the test p
pub record First (n : ℕ) (p : ℕ → Bool) (i : ℕ) : Type 0 where
  pub member : p i ≡ true
  pub below : i < n
  pub first : (k : ℕ) → k < i → p k ≡ false

-- from a set of numbers below n comes its lowest, and all others are left; from one with no number comes nothing
abbrev pub Takes : ℕ → (ℕ → Bool) → Option ℕ → (ℕ → Bool) → Type 0
Takes n p None q = ((k : ℕ) → p k ≡ false) × ((k : ℕ) → q k ≡ false)
Takes n p (Some i) q = First n p i × ((k : ℕ) → q k ≡ (p k && not (k == i)))
