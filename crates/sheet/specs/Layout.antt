-- Where the checker finds what it reads. Assumes nothing: these are definitions.
use Rattle.std.specs.Prelude.{◌≡◌, ℕ, ◌+◌, ◌*◌, ◌/◌, ◌<◌, ◌≤◌, Bool, true, false, cond, List, [], length, get_or, nat_lt, slice_index}
use Rattle.std.specs.Int.{w64, from_le_bytes}
use Rattle.fraction.specs.Sum.{size}
use Rattle.even.specs.Day.{Day}
use Rattle.even.specs.Whole.{whole}
use Rattle.night.specs.Task.{may}
use Rattle.night.specs.declared.task.Task.{Task}
use Rattle.sheet.specs.Sheet.{den, num, start, over, word}
use Rattle.sheet.specs.Verdict.{Sized}

-- the starts of the tasks' bytes, and their end
pub record Starts (y : Day) (b starts : List ℕ) : Type 0 where
  pub sized : Sized y b
  pub long : length starts ≡ 201
  pub each : (j : ℕ) → j ≤ y.tasks → slice_index starts j ≡ start y b j

-- the denominators of the tasks' amounts
pub record Overs (y : Day) (b overs : List ℕ) : Type 0 where
  pub long : length overs ≡ 200
  pub each : (j : ℕ) → j < y.tasks → slice_index overs j ≡ over y b j

-- the number that amount k writes
abbrev pub written : List (List ℕ) → ℕ → ℕ
written ws k = from_le_bytes w64 (get_or ws k [])

-- the amounts of task j, one for each hour in which it may be done
pub record Amounts (y : Day) (b : List ℕ) (j : ℕ) (ws : List (List ℕ)) : Type 0 where
  pub long : length ws ≡ size y.hours (y.may j)
  pub each : (k : ℕ) → k < length ws → written ws k ≡ word b (start y b j + 1 + k * 8)

-- what task j adds in hour s, in parts of the whole, if its amount stands one byte behind at j and is over the denominator at j
abbrev pub lies : List Task → List ℕ → List ℕ → List ℕ → ℕ → ℕ → ℕ
lies ts b overs at s j = cond (may ts j s) (word b (slice_index at j + 1)) 0 * (whole / slice_index overs j)

-- the amount for hour s of a list of amounts, from place p on, for the hours of a set; 0 for other hours
abbrev pub listed : List ℕ → ℕ → (ℕ → Bool) → ℕ → ℕ
listed b p set s = cond (set s) (word b (p + size s set * 8)) 0

-- less lies in hour t than in hour s, by the loads of the sheet
abbrev pub lower : List ℕ → ℕ → ℕ → Bool
lower b t s = nat_lt (num b t * den b s) (num b s * den b t)

-- in none of the hours below m is something done, by the amounts listed for a set of hours, though less lies in another hour of the set
unfoldable pub Flat : List ℕ → ℕ → (ℕ → Bool) → ℕ → ℕ → Type 0
Flat b p set n m =
    (s t : ℕ) → s < m → t < n → 0 < listed b p set s → set t ≡ true → lower b t s ≡ false

-- hour s is the first in which something is done though less lies in another hour of the set, and hour t is the first such other
pub record Steep (b : List ℕ) (p : ℕ) (set : ℕ → Bool) (n s t : ℕ) : Type 0 where
  pub hour : s < n
  pub other : t < n
  pub flat : Flat b p set n s
  pub done : 0 < listed b p set s
  pub member : set t ≡ true
  pub less : lower b t s ≡ true
  pub before : (v : ℕ) → v < t → set v ≡ true → lower b v s ≡ false
