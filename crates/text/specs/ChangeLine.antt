-- Lines that say a change. Assumes nothing: these are definitions.
use Rattle.std.specs.Prelude.{◌≡◌, ℕ, cond, List, [], ◌∷◌, Some, None, codes, Option}
use Rattle.std.specs.Str.{bytes_eq}
use Rattle.night.specs.declared.task.Task.{Task}
use Rattle.sets.specs.Hours.{has}
use Rattle.change.specs.declared.kinds.Change.{Change}
use Rattle.change.specs.declared.kinds.Change.TheVariants as change
use Rattle.text.specs.declared.change_line.Said.{Said}
use Rattle.text.specs.declared.change_line.Said.TheVariants.{Comes, Goes, More}
use Rattle.text.specs.declared.mistake.Fault.TheVariants.{NotChange}
use Rattle.text.specs.Number.{numeral}
use Rattle.text.specs.Span.{covers}
use Rattle.text.specs.TaskLine.{hour_words, task_units, wrong_task}
use Rattle.text.specs.Told.{Told}

abbrev pub goes_if : Option ℕ → Option Said
goes_if None = None
goes_if (Some j) = Some (Goes j)

-- the words after `goes`
abbrev pub goes_said : List (List ℕ) → Option Said
goes_said [] = None
goes_said (w ∷ []) = goes_if (numeral w)
goes_said (w ∷ v ∷ ws) = None

abbrev pub more_if : Option ℕ → Option ℕ → Option Said
more_if None o = None
more_if (Some j) None = None
more_if (Some j) (Some u) = Some (More j u)

-- the words after `more`
abbrev pub more_said : List (List ℕ) → Option Said
more_said [] = None
more_said (w ∷ []) = None
more_said (w ∷ v ∷ []) = more_if (numeral w) (numeral v)
more_said (w ∷ v ∷ u ∷ ws) = None

-- the words of a line
abbrev pub change_said : List (List ℕ) → Option Said
change_said [] = None
change_said (w ∷ ws) =
    cond (bytes_eq w (codes "comes")) (Some Comes)
    (cond (bytes_eq w (codes "goes")) (goes_said ws) (cond (bytes_eq w (codes "more")) (more_said ws) None))

-- what is wrong with line i; a task that comes stands as in a night of 96 hours, after the word `comes`
abbrev pub wrong_change : ℕ → List ℕ → Option Said → List Told
wrong_change i c (Some Comes) = wrong_task 96 i c
wrong_change i c (Some (Goes j)) = []
wrong_change i c (Some (More j u)) = []
wrong_change i c None = (i, NotChange, []) ∷ []

-- the task t is the one that the line c says
pub record Comer (c : List ℕ) (t : Task) : Type 0 where
  pub units : t.units ≡ task_units c
  pub hours : (k : ℕ) → has t.hours k ≡ covers 96 (hour_words c) k

-- the change is the one that the line c says
abbrev pub Means : List ℕ → Option Said → Change → Type 0
Means c s (change.Comes t) = (s ≡ Some Comes) × Comer c t
Means c s (change.Goes j) = s ≡ Some (Goes j)
Means c s (change.More j u) = s ≡ Some (More j u)

abbrev pub SaysIt : List ℕ → Option Said → Option Change → Type 0
SaysIt c s None = s ≡ None
SaysIt c s (Some d) = Means c s d
