-- Numbers as bytes, low byte first. Assumes nothing: these are definitions.
use Rattle.std.specs.Prelude.{ℕ, zero, suc, ◌+◌, ◌*◌, ◌/◌, ◌%◌, List, [], ◌∷◌}

-- the number that bytes write
unfoldable pub little : List ℕ → ℕ
little [] = 0
little (x ∷ xs) = x + little xs * 256

-- the w lowest bytes of a number
unfoldable pub digits : ℕ → ℕ → List ℕ
digits zero n = []
digits (suc w) n = n % 256 ∷ digits w (n / 256)
