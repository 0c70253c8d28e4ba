-- The amounts of a task, hour by hour, and what they add up to.
use Rattle.std.proofs.Common.{◌≡◌, ℕ, ◌+◌, ◌*◌, ◌/◌, ◌<◌, ◌≤◌, Bool, true, false, cond, List, sym, refl, ap, ◌∙◌, inl, inr, mul_assoc, mul_comm, arith}
use native.Mathlib.Nat.{eq_of_mul-eq-mul_right}
use Rattle.std.proofs.lemmas.Bool.{cases_lt}
use Rattle.fraction.specs.Sum.{sum, size}
use Rattle.fraction.proofs.Sums.{sum_more, sum_step, sum_mul}
use Rattle.even.specs.Day.{Day}
use Rattle.even.specs.Whole.{whole}
use Rattle.even.proofs.Shares.{whole_share, whole_some}
use Rattle.sheet.specs.Layout.{listed}
use Rattle.sheet.specs.Sheet.{amount, first_of, group, groups, over, plan, start, word}
use Rattle.sheet.specs.Verdict.{Adds, Loaded}
use Rattle.sheet.proofs.Places.{over_missing, over_empty, over_some}

-- an hour outside of a set, and one of it
pub size_skip : (s : ℕ) (set : ℕ → Bool) → set s ≡ false → size (s + 1) set ≡ size s set
size_skip s set m =
    let z : cond {A = ℕ} (set s) 1 0 ≡ 0 = rw m refl in
    omega (arith, z, sum_more s (λ i. cond (set i) 1 0))

pub size_take : (s : ℕ) (set : ℕ → Bool) → set s ≡ true → size (s + 1) set ≡ size s set + 1
size_take s set m =
    let o : cond {A = ℕ} (set s) 1 0 ≡ 1 = rw m refl in
    omega (arith, o, sum_more s (λ i. cond (set i) 1 0))

pub size_room : (s n : ℕ) (set : ℕ → Bool) → s < n → set s ≡ true → size s set + 1 ≤ size n set
size_room s n set l m =
    let o : cond {A = ℕ} (set s) 1 0 ≡ 1 = rw m refl in
    omega (arith, o, sum_step s n (λ i. cond (set i) 1 0) l)

pub listed_skip : (b : List ℕ) (p s : ℕ) (set : ℕ → Bool) → set s ≡ false → listed b p set s ≡ 0
listed_skip b p s set m = rw m refl

pub listed_take :
    (b : List ℕ) (p s at : ℕ) (set : ℕ → Bool) → set s ≡ true → at ≡ p + size s set * 8 → listed b p set s ≡ word b at
listed_take b p s at set m e = rw (m, e) refl

-- a share of the whole isn't nothing
pub share_some : (q : ℕ) → 0 < q → q ≤ 255 → 0 < whole / q
share_some q l m =
    elim (cases_lt 0 (whole / q)) [
      | inl p ↦ p
      | inr z ↦
          (let e : whole / q ≡ 0 = omega arith in
          absurd (omega (arith, whole_some, whole_share q l m, ap (λ v. v * q) e)))
    ]

module _ (y : Day) (b : List ℕ) where
  -- the amounts of a task are listed behind its group
  pub amounts_listed :
      (j p : ℕ) → p ≡ start y b j + 1 → sum y.hours (listed b p (y.may j)) ≡ sum y.hours (amount y b j)
  unfolding amount
  amounts_listed j p e = rw e refl

  pub row_parts : (j : ℕ) → sum y.hours (plan y b j) ≡ sum y.hours (amount y b j) * (whole / over y b j)
  unfolding plan
  row_parts j = sum_mul y.hours (amount y b j) (whole / over y b j)

  module _ (j : ℕ) (some : 0 < over y b j) (small : over y b j ≤ 255) where
    -- a task with a denominator has a group with an hour
    pub over_there : group y b j < groups y b
    over_there =
        elim (cases_lt (group y b j) (groups y b)) [
          | inl l ↦ l
          | inr ge ↦ absurd (omega (arith, over_missing y b j ge))
        ]

    pub over_hour : first_of y b (group y b j) < y.hours
    over_hour =
        elim (cases_lt (first_of y b (group y b j)) y.hours) [
          | inl l ↦ l
          | inr ge ↦ absurd (omega (arith, over_empty y b j over_there ge))
        ]

    pub adds_by : (u : ℕ) → sum y.hours (amount y b j) ≡ u * over y b j → sum y.hours (plan y b j) ≡ u * whole
    adds_by u e =
        row_parts j
        ∙ (ap (λ v. v * (whole / over y b j)) e
        ∙ (mul_assoc u (over y b j) (whole / over y b j)
        ∙ ap (λ v. u * v) (mul_comm (over y b j) (whole / over y b j) ∙ whole_share (over y b j) some small)))

    pub adds_back : (u : ℕ) → sum y.hours (plan y b j) ≡ u * whole → sum y.hours (amount y b j) ≡ u * over y b j
    adds_back u e =
        eq_of_mul-eq-mul_right (whole / over y b j) (share_some (over y b j) some small) _ _
        (sym (row_parts j)
        ∙ (e
        ∙ sym
        (mul_assoc u (over y b j) (whole / over y b j)
        ∙ ap (λ v. u * v) (mul_comm (over y b j) (whole / over y b j) ∙ whole_share (over y b j) some small))))

  -- a task with no denominator has no group with an hour, where loads have denominators
  pub over_wrong :
      (j : ℕ) → ((s : ℕ) → s < y.hours → Loaded y b s) → over y b j ≡ 0 → Adds y b j → ⊥
  over_wrong j h z w =
      omega (arith, z, over_some y b j w.there w.some, (h (first_of y b (group y b j)) w.some).over)
