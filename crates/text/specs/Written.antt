-- A night as people write it. Assumes nothing: these are definitions.
use Rattle.std.specs.Prelude.{◌≡◌, ℕ, zero, suc, ◌<◌, Bool, true, false, cond, not, ◌||◌, List, [], ◌∷◌, ◌++◌, length, string_bytes, codes, decimal, String, ◌==◌, slice_index_or}
use Rattle.std.specs.List.{list_all}
use Rattle.std.specs.declared.alloc.Global.{Global}
use Rattle.night.specs.declared.task.Task.{Task}
use Rattle.sets.specs.Hours.{has}
use Rattle.night.specs.Task.{blank_task}
use Rattle.text.specs.declared.writer.WriteError.{WriteError}
use Rattle.text.specs.declared.writer.WriteError.TheVariants.{Memory, Name}

-- the hour before k is in the set p
abbrev pub follows : (ℕ → Bool) → ℕ → Bool
follows p zero = false
follows p (suc k) = p k

-- what is written of hour k: ` 5` where a run of hours begins, `-8` where it ends later, and nothing between
abbrev pub hour_text : (ℕ → Bool) → ℕ → List ℕ
hour_text p k = cond (p k) (cond (follows p k) (cond (p (suc k)) [] (45 ∷ decimal k)) (32 ∷ decimal k)) []

-- what is written of the hours below n
unfoldable pub hours_text : (ℕ → Bool) → ℕ → List ℕ
hours_text p zero = []
hours_text p (suc n) = hours_text p n ++ hour_text p n

-- a name before the units
abbrev pub label : List ℕ → List ℕ
label [] = []
label (b ∷ bs) = (b ∷ bs) ++ 32 ∷ []

-- the line of a task, in a night of n hours
unfoldable pub task_text : ℕ → List ℕ → Task → List ℕ
task_text n name t = label name ++ (decimal t.units ++ (codes " :" ++ (hours_text (has t.hours) n ++ 10 ∷ [])))

-- the name of task j, empty where there is none
abbrev pub name_at : List (String Global) → ℕ → List ℕ
name_at [] j = []
name_at (s ∷ ss) zero = string_bytes s
name_at (s ∷ ss) (suc j) = name_at ss j

-- the lines of the first k tasks
unfoldable pub lines_text : ℕ → List Task → List (String Global) → ℕ → List ℕ
lines_text n ts ss zero = []
lines_text n ts ss (suc k) = lines_text n ts ss k ++ task_text n (name_at ss k) (slice_index_or ts k blank_task)

abbrev pub tasks_text : ℕ → List Task → List (String Global) → List ℕ
tasks_text n ts ss = lines_text n ts ss (length ts)

-- a night of n hours
abbrev pub night_text : ℕ → List Task → List (String Global) → List ℕ
night_text n ts ss = (codes "hours " ++ (decimal n ++ 10 ∷ [])) ++ tasks_text n ts ss

-- a byte that ends a name: a line break, a `#` or a colon
abbrev pub odd : ℕ → Bool
odd b = (b == 10 || b == 35) || b == 58

-- a name with no such byte
abbrev pub plain : List ℕ → Bool
plain bs = list_all (λ b. not (odd b)) bs

-- all names are plain, and what was written is the text
pub record Wrote (ts : List Task) (ss : List (String Global)) (written text : List ℕ) : Type 0 where
  pub bytes : written ≡ text
  pub names : (j : ℕ) → j < length ts → plain (name_at ss j) ≡ true

-- the first name that is not plain
pub record FirstOdd (ts : List Task) (ss : List (String Global)) (j : ℕ) : Type 0 where
  pub task : j < length ts
  pub odd : plain (name_at ss j) ≡ false
  pub first : (k : ℕ) → k < j → plain (name_at ss k) ≡ true

abbrev pub Refuses : List Task → List (String Global) → WriteError → Type 0
Refuses ts ss Memory = Unit {0}
Refuses ts ss (Name j) = FirstOdd ts ss j
