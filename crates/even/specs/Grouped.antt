-- Groups of tasks and hours, levels that fall from group to group, and the plan that they make. Assumes nothing: these are definitions.
use Rattle.std.specs.Prelude.{◌≡◌, ℕ, ◌*◌, ◌/◌, ◌<◌, ◌≤◌, Bool, true, false, ◌&&◌, ◌==◌, nat_le}
use Rattle.fraction.specs.Sum.{sum, part, size, any, both}
use Rattle.even.specs.Day.{Day, Plan, Even, load}
use Rattle.even.specs.Whole.{whole}

-- k groups, numbered from 0; group g has the level num g / den g; task j is of group j, hour s of group at s (of none, if at s isn't below k);
-- a j s is how much of task j is done in hour s, in parts of 1 / den (group j)
pub record Grouped (y : Day) (k : ℕ) (num den group at : ℕ → ℕ) (a : ℕ → ℕ → ℕ) : Type 0 where
  -- each task is of a group
  pub some : (j : ℕ) → j < y.tasks → group j < k
  -- denominators are from 1 to 255
  pub over : (g : ℕ) → g < k → 0 < den g
  pub small : (g : ℕ) → g < k → den g ≤ 255
  -- levels fall strictly
  pub fall : (g h : ℕ) → g < h → h < k → num h * den g < num g * den h
  -- all of each task is done
  pub all : (j : ℕ) → j < y.tasks → sum y.hours (a j) ≡ y.work j * den (group j)
  -- only in hours in which it may be
  pub only : (j s : ℕ) → j < y.tasks → s < y.hours → y.may j s ≡ false → a j s ≡ 0
  -- and only in hours of its own group
  pub own : (j s : ℕ) → j < y.tasks → s < y.hours → 0 < a j s → at s ≡ group j
  -- an hour of a group has the group's level
  pub full : (s : ℕ) → s < y.hours → at s < k → sum y.tasks (λ j. a j s) ≡ num (at s)
  -- the hours in which a task may be done are of its own group or of groups before it
  pub before : (j s : ℕ) → j < y.tasks → s < y.hours → y.may j s ≡ true → at s ≤ group j

-- the amounts in parts of one whole
unfoldable pub spread : (den group : ℕ → ℕ) → (ℕ → ℕ → ℕ) → ℕ → ℕ → ℕ
spread den group a j s = a j s * (whole / den (group j))

-- what groups make: a plan, even, with the group's level in each hour of it, and no load in an hour of no group
pub record Levelled (y : Day) (k : ℕ) (num den at : ℕ → ℕ) (x : ℕ → ℕ → ℕ) : Type 0 where
  pub plan : Plan y whole x
  pub even : Even y x
  pub level : (s : ℕ) → s < y.hours → at s < k → load y x s * den (at s) ≡ num (at s) * whole
  pub idle : (s : ℕ) → s < y.hours → k ≤ at s → load y x s ≡ 0

-- hour s is one that some task of the set q may use
abbrev pub reach : Day → (ℕ → Bool) → ℕ → Bool
reach y q s = any y.tasks (λ j. q j && y.may j s)

-- what is of group g, and what is left when group g is found: tasks by group, hours by at
abbrev pub within : (ℕ → ℕ) → ℕ → ℕ → Bool
within of g i = of i == g

abbrev pub left : (ℕ → ℕ) → ℕ → ℕ → Bool
left of g i = nat_le g (of i)

-- group g is the densest of what is left when it is found, of equals the one with the most hours
pub record Densest (y : Day) (num den group at : ℕ → ℕ) (g : ℕ) : Type 0 where
  -- the tasks of the group weigh its level for each of its hours
  pub weighs : part y.tasks (within group g) y.work * den g ≡ size y.hours (within at g) * num g
  -- of the hours left they may use only those of the group, and, unless its level is 0, they may use each
  pub uses : (s : ℕ) → s < y.hours → left at g s ≡ true → reach y (within group g) s ≡ true → at s ≡ g
  pub used : (s : ℕ) → s < y.hours → at s ≡ g → 0 < num g → reach y (within group g) s ≡ true
  -- no set of tasks left weighs more for each of the hours left that it may use
  pub most :
      (q : ℕ → Bool) → ((j : ℕ) → j < y.tasks → q j ≡ true → g ≤ group j) →
      part y.tasks q y.work * den g ≤ size y.hours (both (reach y q) (left at g)) * num g
  -- and a set that weighs as much may use only hours of the group
  pub widest :
      (q : ℕ → Bool) → ((j : ℕ) → j < y.tasks → q j ≡ true → g ≤ group j) →
      part y.tasks q y.work * den g ≡ size y.hours (both (reach y q) (left at g)) * num g →
      (s : ℕ) → s < y.hours → reach y q s ≡ true → left at g s ≡ true → at s ≡ g

-- group 0 is the densest of all sets of tasks q, of equals the one with the most hours
pub record FirstDensest (y : Day) (num den at : ℕ → ℕ) (q : ℕ → Bool) : Type 0 where
  pub most : part y.tasks q y.work * den 0 ≤ size y.hours (reach y q) * num 0
  pub widest :
      part y.tasks q y.work * den 0 ≡ size y.hours (reach y q) * num 0 →
      (s : ℕ) → s < y.hours → reach y q s ≡ true → at s ≡ 0
