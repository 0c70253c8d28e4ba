-- Flows of tasks into hours, over bare functions. Assumes nothing: these are definitions.
-- m tasks and n hours, numbered from 0; may j s: task j may use hour s; a j: the supply of task j; c s: the capacity of hour s;
-- f j s: how much of task j is shipped into hour s. A set of hours is a test.
use Rattle.std.specs.Prelude.{◌≡◌, ℕ, ◌+◌, ◌<◌, ◌≤◌, Bool, true, false, not}
use Rattle.fraction.specs.Sum.{sum, part, any, both}

-- what task j ships
abbrev pub row : ℕ → (ℕ → ℕ → ℕ) → ℕ → ℕ
row n f j = sum n (f j)

-- what hour s bears
abbrev pub column : ℕ → (ℕ → ℕ → ℕ) → ℕ → ℕ
column m f s = sum m (λ j. f j s)

-- what is shipped in all
abbrev pub value : ℕ → ℕ → (ℕ → ℕ → ℕ) → ℕ
value m n f = sum m (row n f)

-- two sets of hours have an hour in common
abbrev pub meets : ℕ → (ℕ → Bool) → (ℕ → Bool) → Bool
meets n p q = any n (both p q)

-- a flow: nothing where a task may not be done, no more of a task than its supply, no more in an hour than its capacity
pub record Flow (m n : ℕ) (may : ℕ → ℕ → Bool) (a c : ℕ → ℕ) (f : ℕ → ℕ → ℕ) : Type 0 where
  pub only : (j s : ℕ) → j < m → s < n → may j s ≡ false → f j s ≡ 0
  pub rows : (j : ℕ) → j < m → row n f j ≤ a j
  pub columns : (s : ℕ) → s < n → column m f s ≤ c s

-- every task is shipped whole
abbrev pub Whole : ℕ → ℕ → (ℕ → ℕ) → (ℕ → ℕ → ℕ) → Type 0
Whole m n a f = (j : ℕ) → j < m → row n f j ≡ a j

-- no flow ships more than f
abbrev pub Most : ℕ → ℕ → (ℕ → ℕ → Bool) → (ℕ → ℕ) → (ℕ → ℕ) → (ℕ → ℕ → ℕ) → Type 0
Most m n may a c f = (g : ℕ → ℕ → ℕ) → Flow m n may a c g → value m n g ≤ value m n f

-- the set u has every hour with room
pub record Roomy (m n : ℕ) (c : ℕ → ℕ) (f : ℕ → ℕ → ℕ) (u : ℕ → Bool) : Type 0 where
  pub room : (s : ℕ) → s < n → column m f s < c s → u s ≡ true

-- with an hour t, the set u has every hour s from which a task that may use t can be moved to t
pub record Closed (m n : ℕ) (may : ℕ → ℕ → Bool) (f : ℕ → ℕ → ℕ) (u : ℕ → Bool) : Type 0 where
  pub back : (j s t : ℕ) → j < m → s < n → t < n → may j t ≡ true → u t ≡ true → 0 < f j s → u s ≡ true

-- u is the set of hours that can still reach room: the least one that is roomy and closed
pub record Reaches (m n : ℕ) (may : ℕ → ℕ → Bool) (c : ℕ → ℕ) (f : ℕ → ℕ → ℕ) (u : ℕ → Bool) : Type 0 where
  pub roomy : Roomy m n c f u
  pub closed : Closed m n may f u
  pub least :
      (v : ℕ → Bool) → Roomy m n c f v → Closed m n may f v → (s : ℕ) → s < n → u s ≡ true → v s ≡ true

-- f is a largest flow, and u the set of hours that can still reach room. The hours outside of u, and the tasks that may use
-- no hour of u, are its dense side
pub record Largest (m n : ℕ) (may : ℕ → ℕ → Bool) (a c : ℕ → ℕ) (f : ℕ → ℕ → ℕ) (u : ℕ → Bool) : Type 0 where
  pub flow : Flow m n may a c f
  pub reaches : Reaches m n may c f u
  -- a task that may use an hour of u is shipped whole
  pub shipped : (j : ℕ) → j < m → meets n (may j) u ≡ true → row n f j ≡ a j
  -- an hour outside of u is full
  pub full : (s : ℕ) → s < n → u s ≡ false → column m f s ≡ c s
  -- and used by dense tasks alone
  pub own : (j s : ℕ) → j < m → s < n → u s ≡ false → 0 < f j s → meets n (may j) u ≡ false
  -- what is shipped: the other tasks, and what the dense hours bear
  pub cut : value m n f ≡ part m (λ j. meets n (may j) u) a + part n (λ s. not (u s)) c
  pub most : Most m n may a c f
