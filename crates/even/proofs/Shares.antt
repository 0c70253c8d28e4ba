-- Every denominator from 1 to 255 divides the whole.
use Rattle.std.proofs.Common.{◌≡◌, ℕ, zero, suc, ◌*◌, ◌/◌, ◌%◌, ◌<◌, ◌≤◌, Bool, true, ◌&&◌, eqb, refl, inl, inr, div-add-mod', arith, lit<}
use Rattle.std.proofs.lemmas.Bool.{cases_eq, and_parts, eqb-true}
use Rattle.even.specs.Whole.{whole}

-- each number from 1 to n divides w
divided : ℕ → ℕ → Bool
divided w zero = true
divided w (suc n) = eqb (w % suc n) 0 && divided w n

divided_at : (w n q : ℕ) → divided w n ≡ true → 0 < q → q ≤ n → w % q ≡ 0
unfolding divided
divided_at w zero q h l m = absurd (omega arith)
divided_at w (suc n) q h l m =
    let b = and_parts (eqb (w % suc n) 0) (divided w n) h in
    elim (cases_eq q (suc n)) [ inl e ↦ rw e (eqb-true _ _ b.0) | inr ne ↦ divided_at w n q b.1 l (omega arith) ]

-- the test, computed
whole_divided : divided whole 255 ≡ true
unfolding divided whole
whole_divided = refl

pub whole_share : (q : ℕ) → 0 < q → q ≤ 255 → whole / q * q ≡ whole
whole_share q l m = omega (arith, divided_at whole 255 q whole_divided l m, div-add-mod' whole q)

pub whole_some : 0 < whole
unfolding whole
whole_some = lit< tt
