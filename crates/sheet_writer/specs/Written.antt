-- What a writer leaves in bytes. Assumes nothing: these are definitions.
use Rattle.std.specs.Prelude.{◌≡◌, ℕ, ◌+◌, ◌*◌, ◌/◌, ◌%◌, ◌<◌, ◌≤◌, true, ◌⊎◌, List, length, get_or, take, ◌==◌, slice_index, slice_index_or}
use Rattle.fraction.specs.declared.exact.Fraction.{Fraction}
use Rattle.fraction.specs.Sum.{sum}
use Rattle.even.specs.Day.{Day}
use Rattle.even.specs.DayOf.{day}
use Rattle.even.specs.Grouped.{Grouped}
use Rattle.sets.specs.Bit.{bit}
use Rattle.night.specs.Format.{width}
use Rattle.sets.specs.Hours.{blank, has}
use Rattle.night.specs.Task.{may}
use Rattle.sets.specs.declared.hours.Hours.{Hours}
use Rattle.night.specs.declared.task.Task.{Task}
use Rattle.sheet.specs.Layout.{listed}
use Rattle.sheet.specs.Sheet.{amount, den, group, groups, num, row, within}
use Rattle.sheet_writer.specs.declared.refusal.Unwritten.{Unwritten}
use Rattle.sheet_writer.specs.declared.refusal.Unwritten.TheVariants.{TooLarge, ShortPlan, ShortSheet}

-- bytes before p and from q on stay
pub record Kept (p q : ℕ) (b b' : List ℕ) : Type 0 where
  pub before : (i : ℕ) → i < p → slice_index b' i ≡ slice_index b i
  pub behind : (i : ℕ) → q ≤ i → slice_index b' i ≡ slice_index b i

-- the loads of the first n hours
pub record LoadsPut (n : ℕ) (loads : List Fraction) (b : List ℕ) : Type 0 where
  pub nums : (s : ℕ) (d : Fraction) → s < n → num b s ≡ (get_or loads s d).num
  pub dens : (s : ℕ) (d : Fraction) → s < n → den b s ≡ (get_or loads s d).den

-- the rows of bits of the first k groups, from place p on, of n bits each
abbrev pub GroupsPut : (k n p : ℕ) → List Hours → List ℕ → Type 0
GroupsPut k n p groups b =
    (g s : ℕ) → g < k → s < n → bit (slice_index b (p + g * width n + s / 8)) (s % 8) ≡ has (slice_index_or groups g blank) s

-- the groups and amounts of the first m tasks, from place p on; a task's row of the plan takes 96 places
pub record TasksPut (m n p : ℕ) (ts : List Task) (of plan b : List ℕ) : Type 0 where
  pub groups : (j : ℕ) → j < m → slice_index b (p + sum j (row (day n ts))) ≡ slice_index of j
  pub amounts :
      (j s : ℕ) → j < m → s < n → may ts j s ≡ true →
      listed b (p + sum j (row (day n ts)) + 1) (may ts j) s ≡ slice_index plan (j * 96 + s)

-- how long a sheet with k groups is
abbrev pub span : Day → ℕ → ℕ
span y k = y.hours * 9 + 1 + k * width y.hours + sum y.tasks (row y)

-- numbers that a sheet of n hours and m tasks has a place for: denominators and groups in a byte, and at most 96 groups
pub record Fitting (n m : ℕ) (loads : List Fraction) (k : ℕ) (of : List ℕ) : Type 0 where
  pub dens : (s : ℕ) (d : Fraction) → s < n → (get_or loads s d).den < 256
  pub few : k ≤ 96
  pub groups : (j : ℕ) → j < m → slice_index of j < 256

-- the bytes b of a sheet of n hours and the tasks ts say these loads, k groups, each task's group, and a plan
pub record Says (n : ℕ) (ts : List Task) (loads : List Fraction) (rows : List Hours) (k : ℕ) (of a b : List ℕ) : Type 0 where
  pub nums : (s : ℕ) (d : Fraction) → s < n → num b s ≡ (get_or loads s d).num
  pub dens : (s : ℕ) (d : Fraction) → s < n → den b s ≡ (get_or loads s d).den
  pub count : groups (day n ts) b ≡ k
  pub hours : (g s : ℕ) → g < k → s < n → within (day n ts) b g s ≡ has (slice_index_or rows g blank) s
  pub of_task : (j : ℕ) → j < length ts → group (day n ts) b j ≡ slice_index of j
  pub amounts :
      (j s : ℕ) → j < length ts → s < n → may ts j s ≡ true → amount (day n ts) b j s ≡ slice_index a (j * 96 + s)

-- n bytes of a sheet with k groups are written where b' stands for b: they say all, and the bytes behind them stay
pub record Wrote (n : ℕ) (ts : List Task) (loads : List Fraction) (rows : List Hours) (k : ℕ) (of a b b' : List ℕ) (w : ℕ) : Type 0 where
  pub long : w ≡ span (day n ts) k
  pub room : w ≤ length b'
  pub says : Says n ts loads rows k of a (take w b')
  pub behind : (i : ℕ) → w ≤ i → slice_index b' i ≡ slice_index b i

-- why nothing is written: numbers that a sheet has no place for, then a plan and then a sheet that is too short
pub record IsTooLarge (n : ℕ) (ts : List Task) (loads : List Fraction) (k : ℕ) (of : List ℕ) : Type 0 where
  pub wrong : Fitting n (length ts) loads k of → ⊥

pub record PlanIsShort (n : ℕ) (ts : List Task) (loads : List Fraction) (k : ℕ) (of a : List ℕ) : Type 0 where
  pub fits : Fitting n (length ts) loads k of
  pub short : length a < length ts * 96

pub record SheetIsShort (n : ℕ) (ts : List Task) (loads : List Fraction) (k : ℕ) (of a b : List ℕ) : Type 0 where
  pub fits : Fitting n (length ts) loads k of
  pub rows : length ts * 96 ≤ length a
  pub short : length b < span (day n ts) k

-- the number and the place of what keeps a sheet from being written
abbrev pub why : Unwritten → ℕ × ℕ
why TooLarge = (12, 0)
why ShortPlan = (5, 0)
why ShortSheet = (5, 2)

abbrev pub NotWritten : (n : ℕ) → List Task → List Fraction → (k : ℕ) → List ℕ → List ℕ → List ℕ → ℕ × ℕ → Type 0
NotWritten n ts loads k of a b c =
    ((c ≡ (12, 0)) × IsTooLarge n ts loads k of) ⊎ ((c ≡ (5, 0)) × PlanIsShort n ts loads k of a) ⊎ ((c ≡ (5, 2)) × SheetIsShort n ts loads k of a b)

-- loads, groups and amounts of a plan made of groups: task j is of group j, and hour s of group at s, whose level is num / den, or of none
pub record LevelPlan
    (n : ℕ) (ts : List Task) (loads : List Fraction) (rows : List Hours) (k : ℕ) (of a : List ℕ) (num den at : ℕ → ℕ) : Type 0 where
  pub grouped : Grouped (day n ts) k num den (λ j. slice_index of j) at (λ j s. slice_index a (j * 96 + s))
  pub level : (s : ℕ) (d : Fraction) → s < n → at s < k → ((get_or loads s d).num ≡ num (at s)) × ((get_or loads s d).den ≡ den (at s))
  pub idle : (s : ℕ) (d : Fraction) → s < n → k ≤ at s → (get_or loads s d).num ≡ 0
  pub own : (g s : ℕ) → g < k → s < n → has (slice_index_or rows g blank) s ≡ (at s == g)
  pub some : (g : ℕ) → g < k → (s : ℕ) × (s < n) × (at s ≡ g)
