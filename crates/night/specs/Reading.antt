-- What the steps of the reader have found. Assumes nothing: these are definitions.
use Rattle.std.specs.Prelude.{◌≡◌, ℕ, ◌<◌, ◌≤◌, List, length}
use Rattle.fraction.specs.Limits.{max_hours, max_tasks}
use Rattle.night.specs.Format.{hours_in, count_in, end_in}

-- the bytes b begin with n hours and m tasks, both in range, and none are missing
pub record Headed (b : List ℕ) (n m : ℕ) : Type 0 where
  pub hours : n ≡ hours_in b
  pub count : m ≡ count_in b
  pub some : 0 < n
  pub short : n ≤ max_hours
  pub few : m ≤ max_tasks
  pub ends : end_in b ≤ length b
