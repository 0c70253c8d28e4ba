-- What is wrong with bytes that are no night. Assumes nothing: these are definitions.
use Rattle.std.specs.Prelude.{◌≡◌, ℕ, ◌+◌, ◌<◌, ◌≤◌, true, ◌⊎◌, List, length, MatchBool, ◌==◌}
use Rattle.night.specs.declared.refusal.Refusal.{Refusal}
use Rattle.night.specs.declared.refusal.Refusal.TheVariants.{Length, HoursOutOfRange, TooManyTasks, TooManyUnits, BadRow, NoMemory}
use Rattle.sets.specs.Bit.{bit}
use Rattle.fraction.specs.Limits.{max_hours, max_tasks, max_units}
use Rattle.night.specs.Format.{WellFormed, width, place, hours_in, count_in, row_in, units_in, end_in}

-- the number and the place of a refusal
abbrev pub code : Refusal → ℕ × ℕ
code (Length p) = (1, p)
code HoursOutOfRange = (2, 0)
code TooManyTasks = (2, 1)
code (TooManyUnits p) = (3, p)
code (BadRow p) = (4, p)
code NoMemory = (11, 0)

-- bytes are missing; those that say how many there must be are 0 where they are missing themselves
abbrev pub Missing : List ℕ → Type 0
Missing b = length b < end_in b

-- fault n stands at place p of bytes of which none are missing:
-- hours 0 or too many, too many tasks, too many units, a row with no hour or with a bit from the hours on, bytes that go on
pub data Fault (b : List ℕ) (n p : ℕ) : Type 0 where
  hours : n ≡ 2 → p ≡ 0 → (hours_in b ≡ 0) ⊎ (max_hours < hours_in b) → Fault b n p
  tasks : n ≡ 2 → p ≡ 1 → max_tasks < count_in b → Fault b n p
  units : (j : ℕ) → n ≡ 3 → p ≡ place (width (hours_in b)) j → j < count_in b → max_units < units_in b j → Fault b n p
  row :
      (j : ℕ) → n ≡ 4 → p ≡ place (width (hours_in b)) j + 4 → j < count_in b →
      (row_in b j ≡ 0) ⊎ ((k : ℕ) × (hours_in b ≤ k) × (bit (row_in b j) k ≡ true)) → Fault b n p
  goes_on : n ≡ 1 → p ≡ end_in b → end_in b < length b → Fault b n p

-- the refusal that bytes get: where bytes are missing, 1 at their length; else the first fault
pub data First (b : List ℕ) (n p : ℕ) : Type 0 where
  missing : Missing b → n ≡ 1 → p ≡ length b → First b n p
  fault : (Missing b → ⊥) → Fault b n p → ((m q : ℕ) → Fault b m q → p ≤ q) → First b n p

-- the refusal e of the bytes b: their first, or want of memory, which only the bytes of a night meet
abbrev pub Refuses : List ℕ → Refusal → Type 0
Refuses b e = MatchBool ((code e).0 == 11) (WellFormed b) (First b (code e).0 (code e).1)
