-- The group and the load of an hour, as the code holds them. Assumes nothing: these are definitions.
use Rattle.std.specs.Prelude.{◌≡◌, ℕ, zero, suc, Bool, cond, List, nat_lt, slice_index_or}
use Rattle.fraction.specs.declared.exact.Fraction.{Fraction}
use Rattle.sets.specs.declared.hours.Hours.{Hours}
use Rattle.sets.specs.Hours.{has, blank}
use Rattle.level.specs.Parts.{nought}

-- the first number below n that passes the test p, or n if none does
unfoldable pub first : ℕ → (ℕ → Bool) → ℕ
first zero p = 0
first (suc n) p = cond (nat_lt (first n p) n) (first n p) (cond (p n) n (suc n))

-- the group of hour s: the first of k that has it, or k
abbrev pub group_at : ℕ → List Hours → ℕ → ℕ
group_at k groups s = first k (λ g. has (slice_index_or groups g blank) s)

-- its level, or 0 where it is of none
abbrev pub level_at : ℕ → List Hours → List Fraction → ℕ → Fraction
level_at k groups levels s = cond (nat_lt (group_at k groups s) k) (slice_index_or levels (group_at k groups s) nought) nought

-- the same fraction
pub record Same (a b : Fraction) : Type 0 where
  pub num : a.num ≡ b.num
  pub den : a.den ≡ b.den
