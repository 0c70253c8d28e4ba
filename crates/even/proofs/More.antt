-- More work never lowers a load, over bare numbers: task j of m is task f j of w, amounts x and z in parts of the same size.
use Rattle.std.proofs.Common.{◌≡◌, ℕ, ◌<◌, ◌≤◌, Bool, true, false, cond, not, ◌&&◌, ltb, leb, inl, inr, arith}
use Rattle.std.proofs.lemmas.Bool.Decides.{nat_tests}
use Rattle.std.proofs.lemmas.Bool.{cases_lt}
use Rattle.fraction.specs.Sum.{sum, part}
use Rattle.fraction.proofs.Sums.{sum_lt, sum_less, part_parts, part_swap, sum_inject}
use Rattle.even.proofs.Least.{column, Level, may_where}

-- a task that has more in H by x than by z, and not more in all, has some outside of H by z
pub moves_out :
    (n : ℕ) (x z : ℕ → ℕ) (H : ℕ → Bool) → part n H z < part n H x → sum n x ≤ sum n z →
    ((s : ℕ) × (s < n) × (0 < x s) × (H s ≡ true)) × ((u : ℕ) × (u < n) × (0 < z u) × (H u ≡ false))
moves_out n x z H less rows =
    let s = sum_less n (λ s. cond (H s) (z s) 0) (λ s. cond (H s) (x s) 0) less in
    let u =
    sum_less n (λ s. cond (not (H s)) (x s) 0) (λ s. cond (not (H s)) (z s) 0)
    (omega (arith, part_parts n H x, part_parts n H z)) in (
      (s.0, s.1, (let w = s.2 in grind arith), (let w = s.2 in grind arith)),
      (u.0, u.1, (let w = u.2 in grind arith), (let w = u.2 in grind arith)),
    )

-- an hour above level k by X and not by Z, and one that isn't, with no less by X and no more by Z: there are no such two
clash :
    (k Xs Zs Xu Zu : ℕ) → (ltb k Xs && leb Zs k) ≡ true → (ltb k Xu && leb Zu k) ≡ false → Xs ≤ Xu → Zu ≤ Zs → ⊥
clash k Xs Zs Xu Zu a b up down = grind (arith, nat_tests)

module _ (m w n : ℕ) (f : ℕ → ℕ) (may : ℕ → ℕ → Bool) (x z : ℕ → ℕ → ℕ) (there : (j : ℕ) → j < m → f j < w)
    (apart : (i j : ℕ) → i < j → j < m → f i ≡ f j → ⊥) (rows : (j : ℕ) → j < m → sum n (x j) ≤ sum n (z (f j)))
    (only_x : (j s : ℕ) → j < m → s < n → may j s ≡ false → x j s ≡ 0)
    (only_z : (j s : ℕ) → j < m → s < n → may j s ≡ false → z (f j) s ≡ 0) (even_x : Level m n may x)
    (even_z : (j s t : ℕ) → j < m → s < n → t < n → 0 < z (f j) s → may j t ≡ true → column w z s ≤ column w z t) where
  -- the hours above level k by x and not by z
  abbrev over : ℕ → ℕ → Bool
  over k s = ltb k (column m x s) && leb (column w z s) k

  -- if there is one, some task has more in them by x than by z
  more_in : (k s : ℕ) → s < n → over k s ≡ true → (j : ℕ) × (j < m) × (part n (over k) (z (f j)) < part n (over k) (x j))
  more_in k s l high =
      let H = over k in
      let bears : part n H (column w z) < part n H (column m x) =
      sum_lt n _ _ (λ t lt. grind (arith, nat_tests)) s l (grind (arith, nat_tests)) in
      sum_less m (λ j. part n H (z (f j))) (λ j. part n H (x j))
      (omega (
        arith,
        part_swap n m H (λ s j. x j s),
        part_swap n w H (λ s j. z j s),
        sum_inject m w f (λ i. part n H (z i)) there apart,
      ))

  -- so there is none
  none_over : (k s : ℕ) → s < n → over k s ≡ true → ⊥
  none_over k s l high =
      let task = more_in k s l high in
      let j = task.0 in
      let lj = task.1 in
      let out = moves_out n (x j) (z (f j)) (over k) task.2 (rows j lj) in
      let t = out.0 in
      let u = out.1 in
      let may_t = may_where (may j t.0) (x j t.0) (only_x j t.0 lj t.1) t.2 in
      let may_u = may_where (may j u.0) (z (f j) u.0) (only_z j u.0 lj u.1) u.2 in
      clash k (column m x t.0) (column w z t.0) (column m x u.0) (column w z u.0) t.3 u.3
      (even_x j t.0 u.0 lj t.1 u.1 t.2 may_u) (even_z j u.0 t.0 lj u.1 t.1 u.2 may_t)

  pub more_loads : (s : ℕ) → s < n → column m x s ≤ column w z s
  more_loads s l =
      elim (cases_lt (column w z s) (column m x s)) [
        | inl lower ↦ absurd (none_over (column w z s) s l (grind (arith, nat_tests)))
        | inr le ↦ le
      ]
