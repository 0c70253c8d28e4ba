-- Flows of a part at its own level. Assumes nothing: these are definitions.
-- A part is a set t of tasks with the set h of hours that is theirs; u are the hours that can still reach room.
use Rattle.std.specs.Prelude.{◌≡◌, ℕ, ◌*◌, ◌<◌, Bool, cond}
use Rattle.fraction.specs.Sum.{part, size}
use Rattle.flow.specs.Flow.{row, meets, Flow, Whole, Largest}

-- the supplies of a part's tasks, q for each unit, and the capacities of its hours, p each
abbrev pub supply : (ℕ → Bool) → (ℕ → ℕ) → ℕ → ℕ → ℕ
supply t units q j = cond (t j) (units j * q) 0

abbrev pub bears : (ℕ → Bool) → ℕ → ℕ → ℕ
bears h p s = cond (h s) p 0

-- the level of a part, p / q, is its work for each of its hours
abbrev pub Levels : ℕ → ℕ → (ℕ → ℕ) → (t h : ℕ → Bool) → ℕ → ℕ → Type 0
Levels m n units t h p q = part m t units * q ≡ size n h * p

-- tasks that may use an hour of u
abbrev pub open_to : ℕ → (ℕ → ℕ → Bool) → (ℕ → Bool) → ℕ → Bool
open_to n may u j = meets n (may j) u

-- a largest flow of the part (t, h) at its level that leaves something unshipped
pub record Splits
    (m n : ℕ) (may : ℕ → ℕ → Bool) (units : ℕ → ℕ) (t h : ℕ → Bool) (p q : ℕ) (f : ℕ → ℕ → ℕ) (u : ℕ → Bool) : Type 0 where
  pub level : Levels m n units t h p q
  pub largest : Largest m n may (supply t units q) (bears h p) f u
  pub task : ℕ
  pub within : task < m
  pub short : row n f task < supply t units q task

-- a flow of the part at its level that ships all
pub record Fits
    (m n : ℕ) (may : ℕ → ℕ → Bool) (units : ℕ → ℕ) (t h : ℕ → Bool) (p q : ℕ) (f : ℕ → ℕ → ℕ) : Type 0 where
  pub level : Levels m n units t h p q
  pub flow : Flow m n may (supply t units q) (bears h p) f
  pub whole : Whole m n (supply t units q) f
