-- The first index that passes a test. Assumes nothing: this is a definition.
use Rattle.std.specs.Prelude.{ℕ, zero, suc, Bool, cond, nat_lt}

-- the first index below n that passes the test p, or n
unfoldable pub first : ℕ → (ℕ → Bool) → ℕ
first zero p = 0
first (suc n) p = cond (nat_lt (first n p) n) (first n p) (cond (p n) n (suc n))
