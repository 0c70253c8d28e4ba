-- Any even plan beside any other plan, over bare numbers: m tasks, n hours, may, amounts x and z in parts of the same size.
use Rattle.std.proofs.Common.{◌≡◌, ℕ, ◌+◌, ◌-◌, ◌<◌, ◌≤◌, Bool, true, false, cond, ltb, refl, inl, inr, arith}
use Rattle.std.proofs.lemmas.Bool.{cases_lt, cases_Bool, ltb-true, lt-ltb}
use Rattle.fraction.specs.Sum.{sum, part}
use Rattle.fraction.proofs.Sums.{sum_same, sum_le, sum_some, sum_add, part_swap, part_all, part_le}

-- the load of an hour
abbrev pub column : ℕ → (ℕ → ℕ → ℕ) → ℕ → ℕ
column m x s = sum m (λ j. x j s)

-- what is done in an hour may be done there
pub may_where : (can : Bool) (a : ℕ) → (can ≡ false → a ≡ 0) → 0 < a → can ≡ true
may_where true a only done = refl
may_where false a only done = absurd (omega (arith, only refl))

-- closed: a task that is done in H may be done only in H
abbrev pub Closed : ℕ → ℕ → (ℕ → ℕ → Bool) → (ℕ → ℕ → ℕ) → (ℕ → Bool) → Type 0
Closed m n may x H =
    (j s t : ℕ) → j < m → s < n → t < n → 0 < x j s → H s ≡ true → may j t ≡ true → H t ≡ true

-- a task has no more in a closed set by x than by z
pub row_least :
    (n : ℕ) (may : ℕ → Bool) (x z : ℕ → ℕ) (H : ℕ → Bool) →
    ((s t : ℕ) → s < n → t < n → 0 < x s → H s ≡ true → may t ≡ true → H t ≡ true) → sum n x ≡ sum n z →
    ((s : ℕ) → s < n → may s ≡ false → z s ≡ 0) → part n H x ≤ part n H z
row_least n may x z H closed rows only =
    elim (cases_lt 0 (part n H x)) [
      | inl more ↦
          (let r = sum_some n (λ s. cond (H s) (x s) 0) more in
          let within : H r.0 ≡ true = let w = r.2 in grind arith in
          let done : 0 < x r.0 = let w = r.2 in grind arith in
          let all = part_all n H z (λ t l out.
          elim (cases_Bool (may t)) [
            | inl can ↦ (let w = closed r.0 t r.1 l done within can in absurd (grind arith))
            | inr off ↦ only t l off
          ]) in
          omega (arith, all, rows, part_le n H x))
      | inr none ↦ omega arith
    ]

-- a closed set bears no more by x than by z
pub least_in :
    (m n : ℕ) (may : ℕ → ℕ → Bool) (x z : ℕ → ℕ → ℕ) (H : ℕ → Bool) → Closed m n may x H →
    ((j : ℕ) → j < m → sum n (x j) ≡ sum n (z j)) →
    ((j s : ℕ) → j < m → s < n → may j s ≡ false → z j s ≡ 0) → part n H (column m x) ≤ part n H (column m z)
least_in m n may x z H closed rows only =
    omega (
      arith,
      part_swap n m H (λ s j. x j s),
      part_swap n m H (λ s j. z j s),
      sum_le m (λ j. part n H (x j)) (λ j. part n H (z j))
          (λ j l. row_least n (may j) (x j) (z j) H (λ s t. closed j s t l) (rows j l) (λ s. only j s l)),
    )

-- an hour of a set that holds the hours above a level, and none below it: what lies above the level, and the level
over_level :
    (h : Bool) (a k : ℕ) → (k < a → h ≡ true) → (h ≡ true → k ≤ a) → (a - k) + cond h k 0 ≡ cond h a 0
over_level true a k over least = omega (arith, least refl)
over_level false a k over least =
    elim (cases_lt k a) [ inl l ↦ (let w = over l in absurd (grind arith)) | inr le ↦ omega arith ]

any_level : (h : Bool) (a k : ℕ) → cond h a 0 ≤ (a - k) + cond h k 0
any_level true a k = omega arith
any_level false a k = omega arith

-- above a level lies no more by X than by Z, if such a set bears no more
pub least_above :
    (n : ℕ) (X Z : ℕ → ℕ) (k : ℕ) (H : ℕ → Bool) → ((s : ℕ) → s < n → k < X s → H s ≡ true) →
    ((s : ℕ) → s < n → H s ≡ true → k ≤ X s) → part n H X ≤ part n H Z → sum n (λ s. X s - k) ≤ sum n (λ s. Z s - k)
least_above n X Z k H over least bears =
    let level : ℕ → ℕ = λ s. cond (H s) k 0 in
    omega (
      arith,
      sum_same n (λ s. (X s - k) + level s) (λ s. cond (H s) (X s) 0) (λ s l. over_level (H s) (X s) k (over s l) (least s l)),
      sum_le n (λ s. cond (H s) (Z s) 0) (λ s. (Z s - k) + level s) (λ s l. any_level (H s) (Z s) k),
      sum_add n (λ s. X s - k) level,
      sum_add n (λ s. Z s - k) level,
    )

-- above a level lies least by x, if a closed set holds the hours above it and none below it
pub least_by :
    (m n : ℕ) (may : ℕ → ℕ → Bool) (x z : ℕ → ℕ → ℕ) (k : ℕ) (H : ℕ → Bool) → Closed m n may x H →
    ((s : ℕ) → s < n → k < column m x s → H s ≡ true) → ((s : ℕ) → s < n → H s ≡ true → k ≤ column m x s) →
    ((j : ℕ) → j < m → sum n (x j) ≡ sum n (z j)) →
    ((j s : ℕ) → j < m → s < n → may j s ≡ false → z j s ≡ 0) →
    sum n (λ s. column m x s - k) ≤ sum n (λ s. column m z s - k)
least_by m n may x z k H closed over least rows only =
    least_above n (column m x) (column m z) k H over least (least_in m n may x z H closed rows only)

-- even, over bare numbers
abbrev pub Level : ℕ → ℕ → (ℕ → ℕ → Bool) → (ℕ → ℕ → ℕ) → Type 0
Level m n may x =
    (j s t : ℕ) → j < m → s < n → t < n → 0 < x j s → may j t ≡ true → column m x s ≤ column m x t

-- the hours of an even plan above a level are closed
pub level_closed :
    (m n : ℕ) (may : ℕ → ℕ → Bool) (x : ℕ → ℕ → ℕ) (k : ℕ) → Level m n may x → Closed m n may x (λ s. ltb k (column m x s))
level_closed m n may x k even j s t lj ls lt done high can =
    lt-ltb k (column m x t) (omega (arith, ltb-true k (column m x s) high, even j s t lj ls lt done can))

-- so above any level lies least by an even plan
pub least :
    (m n : ℕ) (may : ℕ → ℕ → Bool) (x z : ℕ → ℕ → ℕ) (k : ℕ) → Level m n may x →
    ((j : ℕ) → j < m → sum n (x j) ≡ sum n (z j)) →
    ((j s : ℕ) → j < m → s < n → may j s ≡ false → z j s ≡ 0) →
    sum n (λ s. column m x s - k) ≤ sum n (λ s. column m z s - k)
least m n may x z k even rows only =
    least_by m n may x z k (λ s. ltb k (column m x s)) (level_closed m n may x k even)
    (λ s l. lt-ltb k (column m x s)) (λ s l h. omega (arith, ltb-true k (column m x s) h)) rows only
