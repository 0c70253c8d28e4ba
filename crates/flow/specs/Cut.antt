-- What a cut says of flows: statements for any tasks, hours, permissions, supplies and capacities. Assumes nothing.
use Rattle.std.specs.Prelude.{◌≡◌, ℕ, ◌+◌, ◌<◌, ◌≤◌, Bool, true, not}
use Rattle.fraction.specs.Sum.{part, size, both}
use Rattle.flow.specs.Flow.{row, value, meets, Flow, Largest}

-- no flow ships more than the tasks that may use an hour of a set, and what the hours outside of it bear
abbrev pub AtMost : Type 0
AtMost =
    (m n : ℕ) (may : ℕ → ℕ → Bool) (a c : ℕ → ℕ) (g : ℕ → ℕ → ℕ) (v : ℕ → Bool) → Flow m n may a c g →
    value m n g ≤ part m (λ j. meets n (may j) v) a + part n (λ s. not (v s)) c

-- the dense tasks fill the dense hours
abbrev pub Fills : Type 0
Fills =
    (m n : ℕ) (may : ℕ → ℕ → Bool) (a c : ℕ → ℕ) (f : ℕ → ℕ → ℕ) (u : ℕ → Bool) → Largest m n may a c f u →
    part m (λ j. not (meets n (may j) u)) (row n f) ≡ part n (λ s. not (u s)) c

-- where not all is shipped, the dense tasks have more supply than their hours have capacity
abbrev pub Dense : Type 0
Dense =
    (m n : ℕ) (may : ℕ → ℕ → Bool) (a c : ℕ → ℕ) (f : ℕ → ℕ → ℕ) (u : ℕ → Bool) → Largest m n may a c f u →
    (j : ℕ) → j < m → row n f j < a j →
    part n (λ s. not (u s)) c < part m (λ j. not (meets n (may j) u)) a

-- tasks q that aren't dense, and a set e that has the hours of u that they may use: q has less supply than those hours have
-- capacity, where there is one
abbrev pub Strict : Type 0
Strict =
    (m n : ℕ) (may : ℕ → ℕ → Bool) (a c : ℕ → ℕ) (f : ℕ → ℕ → ℕ) (u : ℕ → Bool) → Largest m n may a c f u →
    (q e : ℕ → Bool) →
    ((j : ℕ) → j < m → q j ≡ true → meets n (may j) u ≡ true) →
    ((j s : ℕ) → j < m → s < n → q j ≡ true → may j s ≡ true → u s ≡ true → e s ≡ true) →
    0 < size n (both u e) →
    part m q a < part n (both u e) c
