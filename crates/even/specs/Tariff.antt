-- What a plan costs by a tariff p that is the same for each hour: p k is the price of unit k of an hour, the first being unit 0.
-- Assumes nothing: these are definitions.
use Rattle.std.specs.Prelude.{ℕ, ◌-◌, ◌*◌, ◌≤◌, min}
use Rattle.fraction.specs.Sum.{sum}
use Rattle.even.specs.Day.{Day, load}

-- how much of unit k a load of l uses, in parts of 1 / d: all of it, or what is left of the load
abbrev pub used : ℕ → ℕ → ℕ → ℕ
used d l k = min d (l - k * d)

-- what a load of l costs, in parts of 1 / d: each unit that it uses at its price, a part of a unit at that part of the price.
-- It uses no unit beyond the first l
abbrev pub price : (ℕ → ℕ) → ℕ → ℕ → ℕ
price p d l = sum l (λ k. p k * used d l k)

-- what a plan costs: what its loads cost
abbrev pub cost : (ℕ → ℕ) → Day → ℕ → (ℕ → ℕ → ℕ) → ℕ
cost p y d x = sum y.hours (λ s. price p d (load y x s))

-- x, in parts of 1 / d, costs no more than z, in parts of 1 / e
abbrev pub AsCheap : (ℕ → ℕ) → Day → ℕ → (ℕ → ℕ → ℕ) → ℕ → (ℕ → ℕ → ℕ) → Type 0
AsCheap p y d x e z = cost p y d x * e ≤ cost p y e z * d
