-- What a row of changes makes of a night, or why it is refused. Assumes nothing: these are definitions.
use Rattle.std.specs.Prelude.{◌≡◌, ℕ, List}
use Rattle.night.specs.declared.night.Night.{Night}
use Rattle.night.specs.declared.task.Task.{Task}
use Rattle.night.specs.Night.{hours_of, tasks_of}
use Rattle.even.specs.DayOf.{day_of}
use Rattle.change.specs.declared.kinds.Change.{Change}
use Rattle.change.specs.declared.refusal.Refusal.{Refusal}
use Rattle.change.specs.declared.refusal.Refusal.TheVariants.{Impossible, NoMemory}
use Rattle.change.specs.Row.{AllCan, FirstCannot, after_row}
use Rattle.change.specs.Growth.{OnlyAdds, OnlyTakes, NoHeavier}

-- the number and the place of a refusal
abbrev pub code : Refusal → ℕ × ℕ
code (Impossible i) = (6, i)
code NoMemory = (11, 0)

-- why the row cs is refused to a night of n hours with tasks ts: its first change that can't be made, or want of memory, which says
-- nothing of the row
abbrev pub Refuses : ℕ → List Task → List Change → Refusal → Type 0
Refuses n ts cs (Impossible i) = FirstCannot n ts cs i
Refuses n ts cs NoMemory = Unit {0}

-- night m is night n after the row cs
pub record Changed (n : Night) (cs : List Change) (m : Night) : Type 0 where
  -- each change can be made in its turn, and these are the tasks after all of them
  pub can : AllCan (hours_of n) (tasks_of n) cs
  pub span : hours_of m ≡ hours_of n
  pub tasks : tasks_of m ≡ after_row (tasks_of n) cs
  -- a row that only adds lowers no hour's load, and one that only takes away raises none
  pub adds : OnlyAdds cs → NoHeavier (day_of n) (day_of m)
  pub takes : OnlyTakes cs → NoHeavier (day_of m) (day_of n)
