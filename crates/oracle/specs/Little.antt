-- Numbers in bytes. Assumes nothing: this is a definition.
use Rattle.std.specs.Prelude.{ℕ, zero, suc, ◌+◌, ◌*◌, List, slice_index}

-- the number that w bytes write, low byte first, from a place on
unfoldable pub little : List ℕ → ℕ → ℕ → ℕ
little bytes at zero = 0
little bytes at (suc w) = slice_index bytes at + little bytes (at + 1) w * 256
