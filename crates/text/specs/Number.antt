-- Numbers as people write them. Assumes nothing: these are definitions.
use Rattle.std.specs.Prelude.{ℕ, ◌+◌, ◌-◌, ◌*◌, min, cond, List, [], ◌∷◌, Some, None, Option}
use Rattle.std.specs.Char.{is_ascii_digit}

-- the number that goes on from n with the digits of a word; from the largest of 32 bits on it stays there
abbrev pub digits_on : ℕ → List ℕ → Option ℕ
digits_on n [] = Some n
digits_on n (c ∷ cs) = cond (is_ascii_digit c) (digits_on (min (n * 10 + (c - 48)) 4294967295) cs) None

-- the number that a word of one digit or more writes
abbrev pub numeral : List ℕ → Option ℕ
numeral [] = None
numeral (c ∷ cs) = digits_on 0 (c ∷ cs)
