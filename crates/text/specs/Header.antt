-- The first line of a night, `hours N`. Assumes nothing: these are definitions.
use Rattle.std.specs.Prelude.{ℕ, cond, ◌&&◌, List, [], ◌∷◌, Some, None, codes, Option, nat_le}
use Rattle.std.specs.Str.{bytes_eq}
use Rattle.text.specs.declared.mistake.Fault.TheVariants.{Header}
use Rattle.text.specs.Number.{numeral}
use Rattle.text.specs.Told.{Told}

-- a number of hours that a night can have
abbrev pub some_hours : Option ℕ → Option ℕ
some_hours None = None
some_hours (Some n) = cond (nat_le 1 n && nat_le n 96) (Some n) None

-- the number of hours that the words of a header say
abbrev pub header_says : List (List ℕ) → Option ℕ
header_says [] = None
header_says (w ∷ []) = None
header_says (w ∷ v ∷ []) = cond (bytes_eq w (codes "hours")) (some_hours (numeral v)) None
header_says (w ∷ v ∷ u ∷ ws) = None

-- the number of hours that is gone on with: the largest, where the header is wrong
abbrev pub hours_said : Option ℕ → ℕ
hours_said None = 96
hours_said (Some n) = n

-- what is wrong with a header in line i
abbrev pub wrong_header : ℕ → Option ℕ → List Told
wrong_header i None = (i, Header, []) ∷ []
wrong_header i (Some n) = []
