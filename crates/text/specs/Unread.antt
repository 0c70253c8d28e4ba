-- Texts that are not read. Assumes nothing: these are definitions.
use Rattle.std.specs.Prelude.{◌≡◌, ℕ, ◌^◌, ◌<◌, ◌≤◌, ◌⊎◌, List, [], ◌∷◌, length, take, IsUtf8, ◌≢◌}
use Rattle.std.specs.Str.{IsValidUpTo}
use Rattle.text.specs.declared.mistake.Fault.{Fault}
use Rattle.text.specs.declared.mistake.Fault.TheVariants.{Long, Letters}
use Rattle.text.specs.declared.unread.ReadError.{ReadError}
use Rattle.text.specs.declared.unread.ReadError.TheVariants.{Memory, Mistakes}
use Rattle.text.specs.Lines.{lines}
use Rattle.text.specs.Told.{Told, told}

-- one mistake, unless there was no memory
abbrev pub Alone : ℕ → Fault → ReadError → Type 0
Alone i f Memory = Unit {0}
Alone i f (Mistakes v) = told v ≡ (i, f, []) ∷ []

-- bytes whose lines are read
pub record Fit (bs : List ℕ) : Type 0 where
  pub short : length bs ≤ 2 ^ 20
  pub letters : IsUtf8 bs

-- bytes that are too many; or that are not UTF-8, which shows in the line of the first byte that does not fit
abbrev pub Unfit : List ℕ → List Told → Type 0
Unfit bs ts =
    ((2 ^ 20 < length bs) × (ts ≡ (1, Long, []) ∷ []))
    ⊎ ((length bs ≤ 2 ^ 20) × ((n : ℕ) × (IsValidUpTo bs n) × (ts ≡ (length (lines (take n bs)), Letters, []) ∷ [])))

abbrev pub Rejects : List ℕ → ReadError → Type 0
Rejects bs Memory = Unit {0}
Rejects bs (Mistakes v) = Unfit bs (told v)

-- why bytes are not read: they are not fit for it, or something is wrong with their lines
abbrev pub Blames : List ℕ → List Told → ReadError → Type 0
Blames bs wrong Memory = Unit {0}
Blames bs wrong (Mistakes v) = Unfit bs (told v) ⊎ (Fit bs × (told v ≡ wrong) × (wrong ≢ []))
