-- Cost by a tariff whose prices never fall, by what lies above each level.
use Rattle.std.proofs.Common.{◌≡◌, ℕ, zero, suc, ◌+◌, ◌-◌, ◌*◌, ◌<◌, ◌≤◌, min, sym, ap, ◌∙◌, inl, inr, le_of_lt, mul-le-mul_right, mul_assoc, mul_comm, add-mul, mul-le-mul_left, mul-zero, mul-add, le-mul_of_pos_right, arith}
use Rattle.std.proofs.lemmas.Bool.{cases_lt}
use Rattle.fraction.specs.Sum.{sum}
use Rattle.fraction.proofs.Sums.{sum_same, sum_zero, sum_at, sum_add, sum_mul, sum_swap, sum_tail}
use Rattle.even.specs.Day.{Day, load}
use Rattle.even.specs.Evenest.{times}
use Rattle.even.specs.Tariff.{used, price, cost}
use Rattle.even.proofs.Scale.{sub_times, load_times}

-- unit k is what lies above its foot and not above its top
used_above : (d l k : ℕ) → used d l k + (l - suc k * d) ≡ l - k * d
used_above d l k = omega arith

-- a load uses no unit beyond the first l
used_none : (d l k : ℕ) → 0 < d → l ≤ k → used d l k ≡ 0
used_none d l k pos le = omega (arith, le-mul_of_pos_right k pos)

-- so the sum may go on
price_upto : (p : ℕ → ℕ) (d l n : ℕ) → 0 < d → l ≤ n → sum n (λ k. p k * used d l k) ≡ price p d l
price_upto p d l n pos le =
    sum_tail l n (λ k. p k * used d l k) le (λ k m _. ap (λ v. p k * v) (used_none d l k pos m) ∙ mul-zero (p k))

min_times : (a b c : ℕ) → min (a * c) (b * c) ≡ min a b * c
min_times a b c =
    elim (cases_lt a b) [
      | inl l ↦ (let h = mul-le-mul_right c (le_of_lt l) in let e : min a b ≡ a = omega arith in rw e (omega (arith, h)))
      | inr g ↦ (let h = mul-le-mul_right c g in let e : min a b ≡ b = omega arith in rw e (omega (arith, h)))
    ]

used_times : (d e l k : ℕ) → used (d * e) (l * e) k ≡ used d l k * e
used_times d e l k =
    ap (λ v. min (d * e) v) (ap (λ v. l * e - v) (sym (mul_assoc k d e)) ∙ sym (sub_times l (k * d) e))
    ∙ min_times d (l - k * d) e

-- a load in smaller parts costs as many times the number
pub price_times : (p : ℕ → ℕ) (d e l : ℕ) → 0 < d → 0 < e → price p (d * e) (l * e) ≡ price p d l * e
price_times p d e l pos-d pos-e =
    sum_same (l * e) _ (λ k. (p k * used d l k) * e)
    (λ k _. ap (λ v. p k * v) (used_times d e l k) ∙ sym (mul_assoc (p k) (used d l k) e))
    ∙ (sum_mul (l * e) (λ k. p k * used d l k) e
    ∙ ap (λ v. v * e) (price_upto p d l (l * e) pos-d (le-mul_of_pos_right l pos-e)))

pub cost_times :
    (p : ℕ → ℕ) (y : Day) (d c : ℕ) (x : ℕ → ℕ → ℕ) → 0 < d → 0 < c → cost p y (d * c) (times c x) ≡ cost p y d x * c
cost_times p y d c x pos-d pos-c =
    sum_same y.hours _ (λ s. price p d (load y x s) * c)
    (λ s _. ap (λ l. price p (d * c) l) (load_times y c x s) ∙ price_times p d c (load y x s) pos-d pos-c)
    ∙ sum_mul y.hours (λ s. price p d (load y x s)) c

-- a unit that the load covers, and one that it doesn't reach
used_full : (d l k : ℕ) → suc k * d ≤ l → used d l k ≡ d
used_full d l k h = omega arith

used_past : (d l k : ℕ) → l ≤ k * d → used d l k ≡ 0
used_past d l k h = omega arith

-- n whole units and r parts of the next: all of the price of each, and that part of the next one's
pub price_units : (p : ℕ → ℕ) (d n r : ℕ) → r < d → price p d (n * d + r) ≡ sum n p * d + p n * r
unfolding sum
price_units p d n r l =
    let all = n * d + r in
    let last : used d all n ≡ r = omega arith in
    omega (
      arith,
      price_upto p d all (suc n + all) (omega arith) (omega arith),
      sum_tail (suc n) (suc n + all) (λ k. p k * used d all k) (omega arith)
          (λ k m _. ap (λ v. p k * v) (used_past d all k (omega (arith, mul-le-mul_right d m))) ∙ mul-zero (p k)),
      sum_same n (λ k. p k * used d all k) (λ k. p k * d)
          (λ k m. ap (λ v. p k * v) (used_full d all k (omega (arith, mul-le-mul_right d m)))),
      ap (λ v. p n * v) last,
      sum_mul n p d,
    )

-- what lies above unit k's foot, over n hours
abbrev over : ℕ → (ℕ → ℕ) → ℕ → ℕ → ℕ
over n X d k = sum n (λ s. X s - k * d)

-- what n hours use of unit k
abbrev taken : ℕ → (ℕ → ℕ) → ℕ → ℕ → ℕ
taken n X d k = sum n (λ s. used d (X s) k)

taken_over : (n : ℕ) (X : ℕ → ℕ) (d k : ℕ) → taken n X d k + over n X d (suc k) ≡ over n X d k
taken_over n X d k =
    sym (sum_add n (λ s. used d (X s) k) (λ s. X s - suc k * d))
    ∙ sum_same n _ (λ s. X s - k * d) (λ s _. used_above d (X s) k)

-- one unit more, at a price that is not lower
unit_more :
    (p q S T u v a b : ℕ) → p ≤ q → a ≤ b → S + p * (u + a) ≤ T + p * (v + b) → (p * u + S) + q * a ≤ (p * v + T) + q * b
unit_more p q S T u v a b rise le h =
    let r = mul-le-mul_left (q - p) le in
    let e : q ≡ p + (q - p) = omega arith in
    omega
    (arith, ap (λ w. w * a) e, ap (λ w. w * b) e, add-mul p (q - p) a, add-mul p (q - p) b, mul-add p u a, mul-add p v b)

-- the first K units cost no more by X than by Z, with all that lies above them at the price of the next
first_units :
    (n : ℕ) (X Z : ℕ → ℕ) (d : ℕ) (p : ℕ → ℕ) → ((k : ℕ) → p k ≤ p (suc k)) →
    ((k : ℕ) → over n X d k ≤ over n Z d k) → (K : ℕ) →
    sum K (λ k. p k * taken n X d k) + p K * over n X d K ≤ sum K (λ k. p k * taken n Z d k) + p K * over n Z d K
unfolding sum
first_units n X Z d p rise least zero = omega (arith, mul-le-mul_left (p 0) (least 0))
first_units n X Z d p rise least (suc K) =
    unit_more (p K) (p (suc K)) (sum K (λ k. p k * taken n X d k)) (sum K (λ k. p k * taken n Z d k)) (taken n X d K)
    (taken n Z d K) (over n X d (suc K)) (over n Z d (suc K)) (rise K) (least (suc K))
    (rw (taken_over n X d K, taken_over n Z d K) (first_units n X Z d p rise least K))

-- all hours' cost, by units
by_units :
    (n : ℕ) (X : ℕ → ℕ) (d : ℕ) (p : ℕ → ℕ) (K : ℕ) → 0 < d → ((s : ℕ) → s < n → X s ≤ K) →
    sum K (λ k. p k * taken n X d k) ≡ sum n (λ s. price p d (X s))
by_units n X d p K pos high =
    sum_same K _ (λ k. sum n (λ s. p k * used d (X s) k))
    (λ k _. mul_comm (p k) (taken n X d k)
    ∙ (sym (sum_mul n (λ s. used d (X s) k) (p k)) ∙ sum_same n _ _ (λ s _. mul_comm (used d (X s) k) (p k))))
    ∙ (sum_swap K n (λ k s. p k * used d (X s) k) ∙ sum_same n _ _ (λ s l. price_upto p d (X s) K pos (high s l)))

-- beyond the first K units nothing is left
over_none :
    (n : ℕ) (X : ℕ → ℕ) (d K : ℕ) → 0 < d → ((s : ℕ) → s < n → X s ≤ K) → over n X d K ≡ 0
over_none n X d K pos high =
    sum_zero n (λ s. X s - K * d) (λ s l. omega (arith, high s l, le-mul_of_pos_right K pos))

-- loads of which no more lies above any level cost no more
pub cost_least :
    (n : ℕ) (X Z : ℕ → ℕ) (d : ℕ) (p : ℕ → ℕ) → 0 < d → ((k : ℕ) → p k ≤ p (suc k)) →
    ((k : ℕ) → sum n (λ s. X s - k) ≤ sum n (λ s. Z s - k)) →
    sum n (λ s. price p d (X s)) ≤ sum n (λ s. price p d (Z s))
cost_least n X Z d p pos rise least =
    let K = sum n X + sum n Z in
    let high_x : (s : ℕ) → s < n → X s ≤ K = λ s l. omega (arith, sum_at n X s l) in
    let high_z : (s : ℕ) → s < n → Z s ≤ K = λ s l. omega (arith, sum_at n Z s l) in
    omega (
      arith,
      first_units n X Z d p rise (λ k. least (k * d)) K,
      by_units n X d p K pos high_x,
      by_units n Z d p K pos high_z,
      ap (λ v. p K * v) (over_none n X d K pos high_x),
      ap (λ v. p K * v) (over_none n Z d K pos high_z),
    )
