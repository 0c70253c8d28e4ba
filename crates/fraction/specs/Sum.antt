-- Finite sums, and sums and sizes of the part that a test picks out. Assumes nothing: these are definitions.
use Rattle.std.specs.Prelude.{ℕ, zero, suc, ◌+◌, Bool, false, cond, not, ◌&&◌, ◌||◌}

-- f 0 + f 1 + … + f (n - 1)
unfoldable pub sum : ℕ → (ℕ → ℕ) → ℕ
sum zero f = 0
sum (suc n) f = f n + sum n f

-- the sum over the indices below n that pass the test p
abbrev pub part : ℕ → (ℕ → Bool) → (ℕ → ℕ) → ℕ
part n p f = sum n (λ i. cond (p i) (f i) 0)

-- how many indices below n pass the test p
abbrev pub size : ℕ → (ℕ → Bool) → ℕ
size n p = sum n (λ i. cond (p i) 1 0)

-- some index below n passes the test p
unfoldable pub any : ℕ → (ℕ → Bool) → Bool
any zero p = false
any (suc n) p = p n || any n p

-- the intersection, the union and the difference of two sets, each given as a test
abbrev pub both : (ℕ → Bool) → (ℕ → Bool) → ℕ → Bool
both p q i = p i && q i

abbrev pub either : (ℕ → Bool) → (ℕ → Bool) → ℕ → Bool
either p q i = p i || q i

abbrev pub without : (ℕ → Bool) → (ℕ → Bool) → ℕ → Bool
without p q i = p i && not (q i)
