-- A number as words of 64 bits, low word first, and a sum of amounts in parts. Assumes nothing: these are definitions.
use Rattle.std.specs.Prelude.{ℕ, zero, suc, ◌+◌, ◌*◌, ◌^◌, List, slice_index}

-- what a one in word n stands for
unfoldable pub base : ℕ → ℕ
base zero = 1
base (suc n) = base n * 2 ^ 64

-- the number that the first n words write
unfoldable pub upto : ℕ → List ℕ → ℕ
upto zero l = 0
upto (suc n) l = upto n l + slice_index l n * base n

-- the number that eight words write
abbrev pub value : List ℕ → ℕ
value l = upto 8 l
