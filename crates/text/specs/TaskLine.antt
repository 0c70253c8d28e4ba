-- A line that says a task: its name, its units, a colon, its hours. Assumes nothing: these are definitions.
use Rattle.std.specs.Prelude.{◌≡◌, ℕ, ◌^◌, ◌<◌, Bool, cond, List, [], ◌∷◌, ◌++◌, Some, None, string_bytes, IsUtf8, Option, String, ◌==◌, nat_le}
use Rattle.std.specs.declared.alloc.Global.{Global}
use Rattle.night.specs.declared.task.Task.{Task}
use Rattle.sets.specs.Hours.{has}
use Rattle.text.specs.declared.mistake.Fault.TheVariants.{Colon, NotUnits, ManyUnits}
use Rattle.text.specs.Number.{numeral}
use Rattle.text.specs.Piece.{pieces, words, first, holds, after}
use Rattle.text.specs.Span.{covers, wrong_hours}
use Rattle.text.specs.Told.{Told}

-- the last of some words; w, where there is none
abbrev pub last_of : List ℕ → List (List ℕ) → List ℕ
last_of w [] = w
last_of w (v ∷ ws) = last_of v ws

-- a word after what is there, with a space between
abbrev pub spaced : List ℕ → List ℕ → List ℕ
spaced [] w = w
spaced (b ∷ bs) w = (b ∷ bs) ++ 32 ∷ w

-- the words but the last, after what is there, with a space between two
abbrev pub title : List ℕ → List (List ℕ) → List ℕ
title t [] = t
title t (w ∷ []) = t
title t (w ∷ v ∷ ws) = title (spaced t w) (v ∷ ws)

abbrev pub colon : ℕ → Bool
colon b = b == 58

-- the words before the colon, the last of which says the units
abbrev pub head_words : List ℕ → List (List ℕ)
head_words c = words (first (pieces colon c))

-- the words after the colon, which say the hours
abbrev pub hour_words : List ℕ → List (List ℕ)
hour_words c = words (after colon c)

-- units, 0 where they are no number or too many
abbrev pub units_said : Option ℕ → ℕ
units_said None = 0
units_said (Some u) = cond (nat_le u 1000000) u 0

abbrev pub wrong_units : ℕ → List ℕ → Option ℕ → List Told
wrong_units i w None = (i, NotUnits, w) ∷ []
wrong_units i w (Some u) = cond (nat_le u 1000000) [] ((i, ManyUnits, w) ∷ [])

-- the units of a line, 0 where it has no colon
abbrev pub task_units : List ℕ → ℕ
task_units c = cond (holds colon c) (units_said (numeral (last_of [] (head_words c)))) 0

-- what is wrong with line i, of a night of n hours
abbrev pub wrong_task : ℕ → ℕ → List ℕ → List Told
wrong_task n i c =
    cond (holds colon c)
    (wrong_units i (last_of [] (head_words c)) (numeral (last_of [] (head_words c))) ++ wrong_hours n i (hour_words c))
    ((i, Colon, []) ∷ [])

-- the task t with its name is what the line c says
pub record Entered (n : ℕ) (c : List ℕ) (t : Task) (name : String Global) : Type 0 where
  pub units : t.units ≡ task_units c
  pub word : t.hours.bits < 2 ^ 128
  pub hours : (k : ℕ) → has t.hours k ≡ covers n (hour_words c) k
  pub known : IsUtf8 (title [] (head_words c)) → string_bytes name ≡ cond (holds colon c) (title [] (head_words c)) []
