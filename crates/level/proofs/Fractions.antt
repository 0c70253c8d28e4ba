-- Levels compared by cross products: w units over h hours are p / q, bounds are a / b and c / d.
use Rattle.std.proofs.Common.{◌≡◌, ℕ, ◌*◌, ◌<◌, ◌≤◌, ap, inl, inr, mul-le-mul_right, mul-lt-mul_of_pos_right, arith}
use Rattle.std.proofs.lemmas.Bool.{cases_lt}

-- a part that weighs less than a / b for each hour has a level below it
pub level_below : (w h p q a b : ℕ) → 0 < q → w * q ≡ h * p → w * b < h * a → p * b < a * q
level_below w h p q a b o e l =
    elim (cases_lt (p * b) (a * q)) [
      | inl k ↦ k
      | inr k ↦
          absurd
          (omega
          (arith, mul-lt-mul_of_pos_right l o, mul-le-mul_right h k, ap (λ v. v * b) e))
    ]

-- one that weighs at least a / b for each hour has a level from there on
pub level_from : (w h p q a b : ℕ) → 0 < h → w * q ≡ h * p → h * a ≤ w * b → a * q ≤ p * b
level_from w h p q a b o e l =
    elim (cases_lt (p * b) (a * q)) [
      | inl k ↦
          absurd (omega (arith, mul-lt-mul_of_pos_right k o, mul-le-mul_right q l, ap (λ v. v * b) e))
      | inr k ↦ k
    ]
