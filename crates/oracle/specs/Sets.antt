-- Sets of hours and of tasks as bits. Assumes nothing: this is a definition.
use Rattle.std.specs.Prelude.{◌≡◌, ℕ}
use Rattle.std.specs.Int.{bit_at}

-- what is in the first is in the second
abbrev pub Among : ℕ → ℕ → Type 0
Among a b = (i : ℕ) → bit_at a i ≡ 1 → bit_at b i ≡ 1
