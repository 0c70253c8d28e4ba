-- Each group and each part that waits has an hour, so there are few.
use Rattle.std.proofs.Common.{◌≡◌, ℕ, ◌+◌, ◌<◌, ◌≤◌, Bool, cond, ◌||◌, ltb, leb, ◌∙◌, inl, inr, arith}
use Rattle.std.proofs.lemmas.Bool.Decides.{nat_tests}
use Rattle.std.proofs.lemmas.Bool.{cases_lt, eq-eqb}
use Rattle.fraction.specs.Sum.{sum, size}
use Rattle.fraction.proofs.Sums.{sum_same, sum_le, sum_lt, sum_zero, sum_one, sum_swap, sum_bound, sum_add, sum_const, sum_tail, size_has}
use Rattle.level.specs.Stack.{is, Stack}

-- each hour has one label, so the sets of hours with labels below z have at most n hours together
labelled : (n z : ℕ) (at : ℕ → ℕ) → sum z (λ i. size n (is at i)) ≤ n
labelled n z at =
    let a = sum_swap z n (λ i s. cond (is at i s) 1 0) in
    let b =
    sum_bound n (λ s. sum z (λ i. cond (is at i s) 1 0)) 1
    (λ s l. elim (cases_lt (at s) z) [
      | inl k ↦
          (let w = sum_one z (λ i. cond (is at i s) 1 0) (at s) k (λ i v ne. grind (arith, nat_tests)) in
          grind (arith, nat_tests))
      | inr k ↦
          (let w = sum_zero z (λ i. cond (is at i s) 1 0) (λ i v. grind (arith, nat_tests)) in omega arith)
    ]) in
    omega (arith, a, b)

-- there are e numbers below e
size_below : (e z : ℕ) → e ≤ z → size z (λ i. ltb i e) ≡ e
size_below e z l =
    sum_tail e z (λ i. cond (ltb i e) 1 0) l (λ i a b. grind (arith, nat_tests))
    ∙ (sum_same e _ (λ i. 1) (λ i k. grind (arith, nat_tests)) ∙ (sum_const e 1 ∙ omega arith))

-- labels in use: below e, and from t on
abbrev live : ℕ → ℕ → ℕ → Bool
live e t i = ltb i e || leb t i

live_many : (e t z : ℕ) → e ≤ t → t ≤ z → e + z ≤ size z (live e t) + t
live_many e t z a b =
    let w =
    sum_le z (λ i. 1 + cond (ltb i e) 1 0) (λ i. cond (live e t i) 1 0 + cond (ltb i t) 1 0) (λ i l. grind (arith, nat_tests)) in
    omega (
      arith,
      w,
      sum_add z (λ i. 1) (λ i. cond (ltb i e) 1 0),
      sum_add z (λ i. cond (live e t i) 1 0) (λ i. cond (ltb i t) 1 0),
      sum_const z 1,
      size_below e z (omega arith),
      size_below t z b,
    )

module _
    {m n : ℕ} {may : ℕ → ℕ → Bool} {units of at num den : ℕ → ℕ} {e t z : ℕ}
    (w : Stack m n may units of at num den e t z) where
  pub some_size : (i : ℕ) → i < z → (e ≤ i → t ≤ i) → 0 < size n (is at i)
  some_size i l k =
      let r = w.some i l k in size_has n (is at i) r.0 r.1 (eq-eqb (at r.0) i r.2)

  live_size : (i : ℕ) → i < z → cond {A = ℕ} (live e t i) 1 0 ≤ size n (is at i)
  live_size i l = let a = some_size i l in grind (arith, nat_tests)

  -- each group and each part that waits has an hour, so there are at most as many as hours
  pub few : e + z ≤ t + n
  few =
      let a = sum_le z (λ i. cond (live e t i) 1 0) (λ i. size n (is at i)) live_size in
      omega (arith, a, labelled n z at, live_many e t z w.found w.ends)

  -- and fewer, while the part on top has more than one
  pub fewer : t < z → 1 < size n (is at t) → e + z < t + n
  fewer l k =
      let a =
      sum_lt z (λ i. cond (live e t i) 1 0) (λ i. size n (is at i)) live_size t l (grind (arith, nat_tests)) in
      omega (arith, a, labelled n z at, live_many e t z w.found w.ends)
