-- How labels change when the part on top is split or taken. Assumes nothing: these are definitions.
use Rattle.std.specs.Prelude.{◌≡◌, ℕ, ◌+◌, ◌-◌, ◌<◌, ◌≤◌, Bool, true, false, cond, List, length, get_or, ◌≢◌, slice_index_or}
use Rattle.fraction.specs.declared.exact.Fraction.{Fraction}
use Rattle.fraction.specs.Sum.{size, both, without}
use Rattle.night.specs.declared.task.Task.{Task}
use Rattle.sets.specs.Hours.{has, blank}
use Rattle.night.specs.Task.{may}
use Rattle.level.specs.declared.parts.Parts.{Parts}
use Rattle.level.specs.Cut.{open_to}
use Rattle.level.specs.Parts.{nought, label, top_tasks, top_hours}
use Rattle.level.specs.Stack.{is}
use Rattle.level.specs.TaskSet.{holds, nobody}

-- the tasks in the set of the part on top
abbrev pub top_set : Parts → ℕ → Bool
top_set p = holds (slice_index_or p.sets p.top nobody)

-- of the first n tasks, those with the label top that may use no hour of u have the label below
pub record Freed (ts : List Task) (top : ℕ) (u : ℕ → Bool) (n : ℕ) (of of' : List ℕ) : Type 0 where
  pub done :
      (j : ℕ) → j < n → label of' j ≡ cond (without (is (label of) top) (open_to 96 (may ts) u) j) (top - 1) (label of j)
  pub rest : (j : ℕ) → n ≤ j → label of' j ≡ label of j

-- of the first n tasks, those with the label a have the label b
pub record Moved (a b n : ℕ) (of of' : List ℕ) : Type 0 where
  pub done : (j : ℕ) → j < n → label of' j ≡ cond (is (label of) a j) b (label of j)
  pub rest : (j : ℕ) → n ≤ j → label of' j ≡ label of j

-- the part on top is split by the hours u: its dense side is the new top, its other side keeps the label
pub record Split (ts : List Task) (u : ℕ → Bool) (p p' : Parts) : Type 0 where
  pub top : p'.top + 1 ≡ p.top
  pub found : p'.found ≡ p.found
  pub levels : p'.levels ≡ p.levels
  pub tasks :
      (j : ℕ) → j < length ts → label p'.of j ≡ cond (without (top_tasks p) (open_to 96 (may ts) u) j) p'.top (label p.of j)
  pub dense : (s : ℕ) → has (slice_index_or p'.hours p'.top blank) s ≡ without (top_hours p) u s
  pub other : (s : ℕ) → has (slice_index_or p'.hours p.top blank) s ≡ both (top_hours p) u s
  pub rest : (i : ℕ) → (i ≢ p.top) → (i ≢ p'.top) → slice_index_or p'.hours i blank ≡ slice_index_or p.hours i blank
  pub dense_set : (j : ℕ) → holds (slice_index_or p'.sets p'.top nobody) j ≡ without (top_set p) (open_to 96 (may ts) u) j
  pub other_set : (j : ℕ) → holds (slice_index_or p'.sets p.top nobody) j ≡ both (top_set p) (open_to 96 (may ts) u) j
  pub rest_sets : (i : ℕ) → (i ≢ p.top) → (i ≢ p'.top) → slice_index_or p'.sets i nobody ≡ slice_index_or p.sets i nobody
  pub labels : length p'.of ≡ 200
  pub rows : length p'.hours ≡ 96
  pub sets : length p'.sets ≡ 96

-- the part on top of the n tasks is the next group, with its level
pub record Taken (n : ℕ) (level : Fraction) (p p' : Parts) : Type 0 where
  pub top : p'.top ≡ p.top + 1
  pub found : p'.found ≡ p.found + 1
  pub tasks : (j : ℕ) → j < n → label p'.of j ≡ cond (top_tasks p j) p.found (label p.of j)
  pub group : get_or p'.hours p.found blank ≡ slice_index_or p.hours p.top blank
  pub rest : (i : ℕ) → (i ≢ p.found) → slice_index_or p'.hours i blank ≡ slice_index_or p.hours i blank
  pub level_at : get_or p'.levels p.found nought ≡ level
  pub levels : (g : ℕ) → (g ≢ p.found) → slice_index_or p'.levels g nought ≡ slice_index_or p.levels g nought
  pub sets : p'.sets ≡ p.sets
  pub labels : length p'.of ≡ 200
  pub groups : length p'.levels ≡ 96
  pub rows : length p'.hours ≡ 96

-- a step: the part on top is taken (true), or split so that the new one has fewer hours
abbrev pub Stepped : Parts → Parts → Bool → Type 0
Stepped p p' true = (p'.found ≡ p.found + 1) × (p'.top ≡ p.top + 1)
Stepped p p' false =
    (p'.found ≡ p.found) × (p'.top + 1 ≡ p.top) × (size 96 (top_hours p') < size 96 (top_hours p))
