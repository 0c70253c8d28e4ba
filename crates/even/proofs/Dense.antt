-- The union of all densest sets is densest.
use Rattle.std.proofs.Common.{◌≡◌, ℕ, zero, suc, ◌+◌, ◌*◌, ◌/◌, ◌%◌, ◌<◌, ◌≤◌, Bool, true, false, cond, ◌&&◌, ◌||◌, eqb, ◌⊎◌, sym, refl, ap, ◌∙◌, inl, inr, mul-le-mul_right, add-mul, zero-mul, arith}
use Rattle.std.proofs.lemmas.Bool.{cases_eq, eqb-true, eq-eqb, ne_eqb, or_cases, and_parts, and_from}
use Rattle.fraction.specs.Sum.{any, both, either}
use Rattle.fraction.proofs.Sums.{sum_same, sum_le, sum_add, sum_zero, part_union, part_same_test, any_some, any_has, any_hasn't, any_more, any_same}
use Rattle.even.specs.Day.{Day}
use Rattle.even.specs.Grouped.{reach}
use Rattle.even.specs.Densest.{weight, width, NoneDenser, Dense, Holds}

-- a larger set reaches more hours
pub reach_more :
    (y : Day) (p q : ℕ → Bool) (s : ℕ) → ((j : ℕ) → j < y.tasks → p j ≡ true → q j ≡ true) → reach y p s ≡ true →
    reach y q s ≡ true
reach_more y p q s h =
    any_more y.tasks _ _ (λ j l t. let r = and_parts (p j) (y.may j s) t in and_from (q j) (y.may j s) (h j l r.0) r.1)

-- an hour that a union reaches is one that either set reaches
pub reach_either :
    (y : Day) (p q : ℕ → Bool) (s : ℕ) → reach y (either p q) s ≡ true → (reach y p s ≡ true) ⊎ (reach y q s ≡ true)
reach_either y p q s t =
    let r = any_some y.tasks (λ j. (p j || q j) && y.may j s) t in
    let j = r.0 in
    let w = and_parts (p j || q j) (y.may j s) r.2 in
    elim (or_cases (p j) (q j) w.0) [
      | inl h ↦ inl (any_has y.tasks _ j r.1 (and_from (p j) (y.may j s) h w.1))
      | inr h ↦ inr (any_has y.tasks _ j r.1 (and_from (q j) (y.may j s) h w.1))
    ]

-- one hour, in a union and an intersection or in the two sets
one_hour :
    (u i p q : Bool) → (u ≡ true → (p ≡ true) ⊎ (q ≡ true)) → (i ≡ true → p ≡ true) → (i ≡ true → q ≡ true) →
    cond {A = ℕ} u 1 0 + cond {A = ℕ} i 1 0 ≤ cond {A = ℕ} p 1 0 + cond {A = ℕ} q 1 0
one_hour true true p q h k l = let a = k refl in let b = l refl in grind arith
one_hour true false p q h k l = elim (h refl) [ inl a ↦ grind arith | inr b ↦ grind arith ]
one_hour false true p q h k l = let a = k refl in let b = l refl in grind arith
one_hour false false p q h k l = omega arith

-- a union and an intersection reach, together, no more hours than the two sets
pub width_union :
    (y : Day) (p q : ℕ → Bool) → width y (either p q) + width y (both p q) ≤ width y p + width y q
width_union y p q =
    omega (
      arith,
      sum_add y.hours (λ s. cond (reach y (either p q) s) 1 0) (λ s. cond (reach y (both p q) s) 1 0),
      sum_add y.hours (λ s. cond (reach y p s) 1 0) (λ s. cond (reach y q s) 1 0),
      sum_le y.hours _ (λ s. cond (reach y p s) 1 0 + cond (reach y q s) 1 0)
          (λ s _. one_hour (reach y (either p q) s) (reach y (both p q) s) (reach y p s) (reach y q s) (reach_either y p q s)
          (reach_more y (both p q) p s (λ j _ t. (and_parts (p j) (q j) t).0))
          (reach_more y (both p q) q s (λ j _ t. (and_parts (p j) (q j) t).1))),
    )

-- the union of two densest sets is densest
pub dense_either :
    (y : Day) (a b : ℕ) (p q : ℕ → Bool) → NoneDenser y a b → Dense y a b p → Dense y a b q → Dense y a b (either p q)
dense_either y a b p q most dp dq =
    let w = ap (λ v. v * b) (part_union y.tasks p q y.work) in
    let r = mul-le-mul_right a (width_union y p q) in
    omega (
      arith,
      w,
      r,
      dp,
      dq,
      most (either p q),
      most (both p q),
      add-mul (weight y (either p q)) (weight y (both p q)) b,
      add-mul (weight y p) (weight y q) b,
      add-mul (width y (either p q)) (width y (both p q)) a,
      add-mul (width y p) (width y q) a,
    )

-- the set with no task
abbrev nobody : ℕ → Bool
nobody j = false

dense_nobody : (y : Day) (a b : ℕ) → Dense y a b nobody
dense_nobody y a b =
    let w = sum_zero y.tasks (λ j. 0) (λ j _. refl) in
    let r : width y nobody ≡ 0 = sum_zero y.hours _ (λ s _. rw (any_hasn't y.tasks (λ j. false) (λ j _. refl)) refl) in
    ap (λ v. v * b) w ∙ (zero-mul b ∙ sym (ap (λ v. v * a) r ∙ zero-mul a))

-- only the tasks that there are count
dense_same :
    (y : Day) (a b : ℕ) (p q : ℕ → Bool) → ((j : ℕ) → j < y.tasks → p j ≡ q j) → Dense y a b p → Dense y a b q
dense_same y a b p q h d =
    let w = part_same_test y.tasks p q y.work h in
    let r : width y p ≡ width y q =
    sum_same y.hours _ _ (λ s _. ap (λ v. cond v 1 0) (any_same y.tasks _ _ (λ j l. ap (λ v. v && y.may j s) (h j l)))) in
    ap (λ v. v * b) (sym w) ∙ (d ∙ ap (λ v. v * a) r)

-- the union of the first n sets of a row
abbrev pub union : ℕ → (ℕ → ℕ → Bool) → ℕ → Bool
union n q j = any n (λ i. q i j)

pub dense_union :
    (y : Day) (a b n : ℕ) (q : ℕ → ℕ → Bool) → NoneDenser y a b → ((i : ℕ) → i < n → Dense y a b (q i)) →
    Dense y a b (union n q)
unfolding any
dense_union y a b zero q most h = dense_nobody y a b
dense_union y a b (suc n) q most h =
    dense_either y a b (q n) (union n q) most (h n (omega arith)) (dense_union y a b n q most (λ i l. h i (omega arith)))

-- every set of the first m tasks has a number below sets m
pub sets : ℕ → ℕ
sets zero = 1
sets (suc m) = sets m * 2

number : ℕ → (ℕ → Bool) → ℕ
number zero q = 0
number (suc m) q = number m q * 2 + cond (q m) 1 0

pub set_at : ℕ → ℕ → ℕ → Bool
set_at zero i j = false
set_at (suc m) i j = cond (eqb j m) (eqb (i % 2) 1) (set_at m (i / 2) j)

number_below : (m : ℕ) (q : ℕ → Bool) → number m q < sets m
unfolding number sets
number_below zero q = omega arith
number_below (suc m) q = let r = number_below m q in grind arith

half : (a : ℕ) (b : Bool) → ((a * 2 + cond b 1 0) / 2 ≡ a) × (eqb ((a * 2 + cond b 1 0) % 2) 1 ≡ b)
half a true = (omega arith, eq-eqb _ _ (omega arith))
half a false = (omega arith, ne_eqb _ _ (λ e. omega arith))

set_number : (m : ℕ) (q : ℕ → Bool) (j : ℕ) → j < m → set_at m (number m q) j ≡ q j
unfolding set_at number
set_number zero q j l = absurd (omega arith)
set_number (suc m) q j l =
    let h = half (number m q) (q m) in
    elim (cases_eq j m) [
      | inl e ↦ rw e (rw (eq-eqb m m refl) h.1)
      | inr ne ↦ rw (ne_eqb j m ne) (rw h.0 (set_number m q j (omega arith)))
    ]

-- a set if it is one of the densest, else nobody
abbrev if_dense : Day → ℕ → ℕ → (ℕ → Bool) → ℕ → Bool
if_dense y a b q j = eqb (weight y q * b) (width y q * a) && q j

if_dense_is : (y : Day) (a b : ℕ) (q : ℕ → Bool) → Dense y a b (if_dense y a b q)
if_dense_is y a b q = go (eqb (weight y q * b) (width y q * a)) (eqb-true _ _)
  where
    go : (t : Bool) → (t ≡ true → Dense y a b q) → Dense y a b (λ j. t && q j)
    go true h = h refl
    go false h = dense_nobody y a b

-- the union of all densest sets
abbrev pub densest : Day → ℕ → ℕ → ℕ → Bool
densest y a b = union (sets y.tasks) (λ i. if_dense y a b (set_at y.tasks i))

pub densest_dense : (y : Day) (a b : ℕ) → NoneDenser y a b → Dense y a b (densest y a b)
densest_dense y a b most =
    dense_union y a b (sets y.tasks) (λ i. if_dense y a b (set_at y.tasks i)) most
    (λ i _. if_dense_is y a b (set_at y.tasks i))

pub densest_holds : (y : Day) (a b : ℕ) (q : ℕ → Bool) → Dense y a b q → Holds y (densest y a b) q
densest_holds y a b q d =
    record { tasks_of = member; hours_of = λ s _. reach_more y q (densest y a b) s member }
  where
    same : (j : ℕ) → j < y.tasks → set_at y.tasks (number y.tasks q) j ≡ q j
    same = set_number y.tasks q

    member : (j : ℕ) → j < y.tasks → q j ≡ true → densest y a b j ≡ true
    member j l t =
        any_has (sets y.tasks) _ (number y.tasks q) (number_below y.tasks q)
        (and_from _ _
        (eq-eqb _ _ (dense_same y a b q (set_at y.tasks (number y.tasks q)) (λ j l. sym (same j l)) d)) (same j l ∙ t))
