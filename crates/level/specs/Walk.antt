-- The way from all tasks as one part to all groups. Assumes nothing: these are definitions.
use Rattle.std.specs.Prelude.{◌≡◌, ℕ, ◌+◌, ◌*◌, ◌<◌, ◌≤◌, true, cond, List, length, nat_lt, slice_index}
use Rattle.night.specs.declared.task.Task.{Task}
use Rattle.night.specs.Task.{may}
use Rattle.level.specs.declared.parts.Parts.{Parts}
use Rattle.level.specs.Parts.{Ready, Held}

-- tasks that may use hours below n only
pub record Within (n : ℕ) (ts : List Task) : Type 0 where
  pub ready : Ready ts
  pub few : n ≤ 96
  pub low : (j s : ℕ) → j < length ts → may ts j s ≡ true → s < n

-- two lent slices are the same behind the rows of m tasks
abbrev pub Behind : ℕ → List ℕ → List ℕ → Type 0
Behind m xs ys = (k : ℕ) → m * 96 ≤ k → slice_index ys k ≡ slice_index xs k

-- after `flows` flows, of which at most n were for one group: each took a group or split a part, and at first there was one part, if there
-- was a task
pub record Walking (n : ℕ) (ts : List Task) (p : Parts) (flows longest : ℕ) (plan₀ plan work₀ work : List ℕ) : Type 0 where
  pub held : Held ts p plan
  pub count : flows + p.top + cond (nat_lt 0 (length ts)) 1 0 ≡ 2 * p.found + 96
  pub most : longest ≤ n
  pub plans : Behind (length ts) plan₀ plan
  pub works : Behind (length ts) work₀ work
