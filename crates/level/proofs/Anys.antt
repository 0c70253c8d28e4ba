-- A test of some number below another, one number further.
use Rattle.std.proofs.Common.{◌≡◌, ℕ, ◌+◌, Bool, false, ◌||◌, refl, arith}
use Rattle.fraction.specs.Sum.{any}

pub any_zero : (p : ℕ → Bool) → any 0 p ≡ false
unfolding any
any_zero p = refl

pub any_next : (n : ℕ) (p : ℕ → Bool) → any (n + 1) p ≡ (any n p || p n)
unfolding any
any_next n p = rw native.Mathlib.Numerals.add-one (grind arith)
