-- Text in pieces. Assumes nothing: these are definitions.
use Rattle.std.specs.Prelude.{◌≡◌, ℕ, ◌<◌, Bool, true, false, cond, ◌||◌, List, [], ◌∷◌, length}
use Rattle.std.specs.Char.{is_ascii_whitespace}

-- the byte b before the first of the pieces
abbrev pub onto : ℕ → List (List ℕ) → List (List ℕ)
onto b [] = (b ∷ []) ∷ []
onto b (l ∷ ls) = (b ∷ l) ∷ ls

-- the pieces of a text that lie between the bytes that pass the test p
abbrev pub pieces : (ℕ → Bool) → List ℕ → List (List ℕ)
pieces p [] = [] ∷ []
pieces p (b ∷ bs) = cond (p b) ([] ∷ pieces p bs) (onto b (pieces p bs))

-- the pieces that are not empty
abbrev pub filled : List (List ℕ) → List (List ℕ)
filled [] = []
filled ([] ∷ ls) = filled ls
filled ((b ∷ l) ∷ ls) = (b ∷ l) ∷ filled ls

-- the words of a line: its pieces between blanks
abbrev pub words : List ℕ → List (List ℕ)
words bs = filled (pieces is_ascii_whitespace bs)

-- the first of the pieces
abbrev pub first : List (List ℕ) → List ℕ
first [] = []
first (l ∷ ls) = l

-- some byte passes the test p
abbrev pub holds : (ℕ → Bool) → List ℕ → Bool
holds p [] = false
holds p (b ∷ bs) = p b || holds p bs

-- what follows the first byte that passes the test p
abbrev pub after : (ℕ → Bool) → List ℕ → List ℕ
after p [] = []
after p (b ∷ bs) = cond (p b) bs (after p bs)

-- a text with no mark
pub record Whole (p : ℕ → Bool) (bs : List ℕ) : Type 0 where
  pub one : pieces p bs ≡ bs ∷ []
  pub none : holds p bs ≡ false
  pub past : after p bs ≡ []

-- a text whose first mark stands between x and y
pub record Parted (p : ℕ → Bool) (bs x y : List ℕ) : Type 0 where
  pub more : pieces p bs ≡ x ∷ pieces p y
  pub some : holds p bs ≡ true
  pub past : after p bs ≡ y
  pub shorter : length y < length bs
