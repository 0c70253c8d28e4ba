-- What changes do to the tasks of a night, one after another. Assumes nothing: these are definitions.
use Rattle.std.specs.Prelude.{◌≡◌, ℕ, ◌+◌, ◌<◌, ◌≤◌, List, [], ◌∷◌, ◌++◌, length, get_or, take, fold, slice_index_or, slice_set}
use Rattle.std.specs.List.{remove}
use Rattle.night.specs.declared.task.Task.{Task}
use Rattle.fraction.specs.Limits.{max_tasks, max_units}
use Rattle.night.specs.Task.{Fits, units, blank_task}
use Rattle.change.specs.declared.kinds.Change.{Change}
use Rattle.change.specs.declared.kinds.Change.TheVariants.{Comes, Goes, More}

-- the change can be made to the tasks ts of a night of n hours: there is a place for a task that comes, and it fits;
-- a task that goes or needs more is there, and its units with those that are added are not too many
abbrev pub Possible : ℕ → List Task → Change → Type 0
Possible n ts (Comes t) = (length ts < max_tasks) × Fits n t
Possible n ts (Goes j) = j < length ts
Possible n ts (More j u) = (j < length ts) × (units ts j + u ≤ max_units)

-- the tasks after the change: a task that comes is the last; where one goes, those behind it move down by one
abbrev pub after : List Task → Change → List Task
after ts (Comes t) = ts ++ t ∷ []
after ts (Goes j) = remove ts j
after ts (More j u) = slice_set ts j (record { units = units ts j + u; hours = (get_or ts j blank_task).hours })

-- the tasks after a row of changes
abbrev pub after_row : List Task → List Change → List Task
after_row ts cs = fold after ts cs

-- change i of the row; what stands where the row has ended
abbrev pub nth : List Change → ℕ → Change
nth cs i = slice_index_or cs i (Goes 0)

-- change i of the row can be made when its turn comes
abbrev pub Can : ℕ → List Task → List Change → ℕ → Type 0
Can n ts cs i = Possible n (after_row ts (take i cs)) (nth cs i)

-- every change of the row can be made
abbrev pub AllCan : ℕ → List Task → List Change → Type 0
AllCan n ts cs = (i : ℕ) → i < length cs → Can n ts cs i

-- the first i changes of the row have been made to the tasks ts, which are now us
pub record Made (n : ℕ) (ts : List Task) (cs : List Change) (i : ℕ) (us : List Task) : Type 0 where
  pub can : (k : ℕ) → k < i → Can n ts cs k
  pub tasks : us ≡ after_row ts (take i cs)

-- change i is the first of the row that can't be made
pub record FirstCannot (n : ℕ) (ts : List Task) (cs : List Change) (i : ℕ) : Type 0 where
  pub there : i < length cs
  pub before : (k : ℕ) → k < i → Can n ts cs k
  pub cannot : Can n ts cs i → ⊥
