-- How two plans of one day are compared: plan x in parts of 1 / d, plan z in parts of 1 / e. Assumes nothing: these are definitions.
use Rattle.std.specs.Prelude.{◌≡◌, ℕ, ◌*◌, ◌<◌, ◌≤◌}
use Rattle.even.specs.Day.{Day, load, above}

-- the same amounts in parts that are c times smaller
abbrev pub times : ℕ → (ℕ → ℕ → ℕ) → ℕ → ℕ → ℕ
times c x j s = x j s * c

-- x is at least as even as z: above every level lies at most as much of it (levels and both plans in parts of 1 / (d * e))
abbrev pub AsEven : Day → ℕ → (ℕ → ℕ → ℕ) → ℕ → (ℕ → ℕ → ℕ) → Type 0
AsEven y d x e z = (k : ℕ) → above y (times e x) k ≤ above y (times d z) k

-- the largest load of x is at most that of z: what bounds every load of z bounds every load of x (c in parts of 1 / (d * e))
abbrev pub AsLow : Day → ℕ → (ℕ → ℕ → ℕ) → ℕ → (ℕ → ℕ → ℕ) → Type 0
AsLow y d x e z =
    (c : ℕ) → ((s : ℕ) → s < y.hours → load y z s * d ≤ c) → (s : ℕ) → s < y.hours → load y x s * e ≤ c

-- every hour has the same load by x as by z
abbrev pub Same : Day → ℕ → (ℕ → ℕ → ℕ) → ℕ → (ℕ → ℕ → ℕ) → Type 0
Same y d x e z = (s : ℕ) → s < y.hours → load y x s * e ≡ load y z s * d
