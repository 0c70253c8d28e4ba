-- Sets of tasks that weigh most for the hours that they may use. Assumes nothing: these are definitions.
use Rattle.std.specs.Prelude.{◌≡◌, ℕ, ◌*◌, ◌<◌, ◌≤◌, Bool, true}
use Rattle.fraction.specs.Sum.{part, size}
use Rattle.even.specs.Day.{Day, load}
use Rattle.even.specs.Grouped.{reach}

-- the units that the tasks of the set q need
abbrev pub weight : Day → (ℕ → Bool) → ℕ
weight y q = part y.tasks q y.work

-- how many hours there are that some task of the set may use
abbrev pub width : Day → (ℕ → Bool) → ℕ
width y q = size y.hours (reach y q)

-- no set of tasks weighs more than a / b for each hour that it may use
abbrev pub NoneDenser : Day → ℕ → ℕ → Type 0
NoneDenser y a b = (q : ℕ → Bool) → weight y q * b ≤ width y q * a

-- a set that weighs a / b for each hour that it may use: one of the densest, where none is denser
abbrev pub Dense : Day → ℕ → ℕ → (ℕ → Bool) → Type 0
Dense y a b q = weight y q * b ≡ width y q * a

-- a set of tasks that has every task of another, and its hours
pub record Holds (y : Day) (u q : ℕ → Bool) : Type 0 where
  pub tasks_of : (j : ℕ) → j < y.tasks → q j ≡ true → u j ≡ true
  pub hours_of : (s : ℕ) → s < y.hours → reach y q s ≡ true → reach y u s ≡ true

-- the largest load of a plan x, c in parts of 1 / d, is the weight of the densest sets for each of their hours, and its hours are theirs
pub record Peak (y : Day) (d : ℕ) (x : ℕ → ℕ → ℕ) (c : ℕ) : Type 0 where
  pub most : NoneDenser y c d
  pub loaded : (q : ℕ → Bool) → Dense y c d q → (s : ℕ) → s < y.hours → reach y q s ≡ true → load y x s ≡ c
  pub dense : (s : ℕ) → s < y.hours → load y x s ≡ c → (q : ℕ → Bool) × Dense y c d q × (reach y q s ≡ true)
