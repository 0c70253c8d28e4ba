-- Every day has an even plan, and in parts of any size a plan that no moves make more even. Assumes nothing: these are definitions.
use Rattle.std.specs.Prelude.{◌≡◌, ℕ, ◌<◌, ◌≤◌, Bool, true}
use Rattle.even.specs.Day.{Day, load}

-- each task may be done in some hour
abbrev pub Doable : Day → Type 0
Doable y = (j : ℕ) → j < y.tasks → (s : ℕ) × (s < y.hours) × (y.may j s ≡ true)

-- H has every hour with more load than k and none with less, and what is done in H may be done only in H
pub record Upper (y : Day) (x : ℕ → ℕ → ℕ) (k : ℕ) (H : ℕ → Bool) : Type 0 where
  pub closed :
      (j s t : ℕ) → j < y.tasks → s < y.hours → t < y.hours → 0 < x j s → H s ≡ true → y.may j t ≡ true → H t ≡ true
  pub over : (s : ℕ) → s < y.hours → k < load y x s → H s ≡ true
  pub least : (s : ℕ) → s < y.hours → H s ≡ true → k ≤ load y x s

-- settled: no part can go, by whatever moves, from an hour to one whose load is less by two parts or more
unfoldable pub Settled : Day → (ℕ → ℕ → ℕ) → Type 0
Settled y x = (k : ℕ) → (H : ℕ → Bool) × Upper y x k H
