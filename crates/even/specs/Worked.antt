-- Days worked out by hand. Assumes nothing: these are definitions.
use Rattle.std.specs.Prelude.{◌≡◌, ℕ, ◌*◌, ◌<◌, Bool, false, ◌||◌, List, [], ◌∷◌, length, get_or, ◌==◌, slice_index, slice_index_or}
use Rattle.even.specs.Day.{Day, Plan, Even, load}

-- a row of a table: a day, as its number of hours and each task's units and hours; an even plan of it, as each task's amounts by hours,
-- in parts of 1 / over; and its loads by hours, in such parts
pub record Row : Type 0 where
  pub hours : ℕ
  pub tasks : List (ℕ × List ℕ)
  pub over : ℕ
  pub amounts : List (List ℕ)
  pub loads : List ℕ

-- hour s is in the list
abbrev pub holds : List ℕ → ℕ → Bool
holds [] s = false
holds (t ∷ ts) s = t == s || holds ts s

-- the day of a row
abbrev pub day : Row → Day
day r =
    record {
      tasks = length r.tasks;
      hours = r.hours;
      work = λ j. (get_or r.tasks j (0, [])).0;
      may = λ j. holds (get_or r.tasks j (0, [])).1;
    }

-- how much of task j the row has in hour s
abbrev pub amount : Row → ℕ → ℕ → ℕ
amount r j s = slice_index (slice_index_or r.amounts j []) s

-- the amounts are an even plan, and its loads are those of every even plan of the day
pub record Worked (r : Row) : Type 0 where
  pub plan : Plan (day r) r.over (amount r)
  pub even : Even (day r) (amount r)
  pub every :
      (d : ℕ) (x : ℕ → ℕ → ℕ) → Plan (day r) d x → Even (day r) x → (s : ℕ) → s < r.hours →
      load (day r) x s * r.over ≡ slice_index r.loads s * d

-- so for each row of a table
pub record AllWorked (rs : List Row) : Type 0 where
  pub at : (i : ℕ) (r : Row) → i < length rs → Worked (slice_index_or rs i r)
