-- Hours as people write them. Assumes nothing: these are definitions.
use Rattle.std.specs.Prelude.{ℕ, Bool, false, cond, ◌&&◌, ◌||◌, List, [], ◌∷◌, ◌++◌, Some, None, Ok, Err, Option, Result, nat_eq, nat_le, nat_lt}
use Rattle.text.specs.declared.mistake.Fault.{Fault}
use Rattle.text.specs.declared.mistake.Fault.TheVariants.{NotHour, Backward, Late, NoHour}
use Rattle.text.specs.declared.span.Span.{Span}
use Rattle.text.specs.Number.{numeral}
use Rattle.text.specs.Piece.{pieces}
use Rattle.text.specs.Told.{Told}

-- from a to b, of n hours; what is wrong, if one is no number, the end comes before the start, or the end is too late
abbrev pub from_to : ℕ → Option ℕ → Option ℕ → Result Span Fault
from_to n None b = Err NotHour
from_to n (Some a) None = Err NotHour
from_to n (Some a) (Some b) = cond (nat_lt b a) (Err Backward) (cond (nat_lt b n) (Ok (record { from = a; to = b })) (Err (Late n)))

-- the hours of the pieces between dashes
abbrev pub between_dashes : ℕ → List (List ℕ) → Result Span Fault
between_dashes n [] = Err NotHour
between_dashes n (a ∷ []) = from_to n (numeral a) (numeral a)
between_dashes n (a ∷ b ∷ []) = from_to n (numeral a) (numeral b)
between_dashes n (a ∷ b ∷ c ∷ ls) = Err NotHour

-- the hours of a word: an hour, or a range
abbrev pub spanned : ℕ → List ℕ → Result Span Fault
spanned n w = between_dashes n (pieces (λ b. nat_eq b 45) w)

-- hour k lies in the span
abbrev pub lies : Span → ℕ → Bool
lies s k = nat_le s.from k && nat_le k s.to

-- hour k is one of a word that names hours
abbrev pub names : Result Span Fault → ℕ → Bool
names (Ok s) k = lies s k
names (Err e) k = false

-- hour k is named by one of the words
abbrev pub covers : ℕ → List (List ℕ) → ℕ → Bool
covers n [] k = false
covers n (w ∷ ws) k = names (spanned n w) k || covers n ws k

-- what is wrong with a word of line i
abbrev pub wrong_span : ℕ → List ℕ → Result Span Fault → List Told
wrong_span i w (Ok s) = []
wrong_span i w (Err e) = (i, e, w) ∷ []

-- what is wrong with the words of line i, of n hours
abbrev pub wrong_spans : ℕ → ℕ → List (List ℕ) → List Told
wrong_spans n i [] = []
wrong_spans n i (w ∷ ws) = wrong_span i w (spanned n w) ++ wrong_spans n i ws

-- what is wrong with the hours of line i; there has to be one
abbrev pub wrong_hours : ℕ → ℕ → List (List ℕ) → List Told
wrong_hours n i [] = (i, NoHour, []) ∷ []
wrong_hours n i (w ∷ ws) = wrong_spans n i (w ∷ ws)
