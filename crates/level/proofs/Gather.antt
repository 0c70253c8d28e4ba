-- Members of a set, gathered in rising order: member j stands at position size j p, the number of members before it.
-- A flow of the members by position is a flow of all tasks.
use Rattle.std.proofs.Common.{◌≡◌, ℕ, zero, suc, ◌+◌, ◌<◌, Bool, true, false, cond, List, length, get_or, set, sym, refl, ap, ◌∙◌, inl, inr, arith}
use Rattle.std.proofs.lemmas.List.{get_or-set_same, get_or-set_other}
use Rattle.std.proofs.lemmas.Bool.{cases_Bool, cases_eq, cases_lt}
use Rattle.fraction.specs.Sum.{sum, size, both}
use Rattle.fraction.proofs.Sums.{sum_zero, sum_step, any_has, any_some}
use Rattle.flow.specs.Flow.{row, column, meets, Flow, Roomy, Closed, Reaches, Largest, Whole}
use Rattle.flow.proofs.Cuts.{largest}
use Rattle.level.specs.Gathered.{scattered, Gathered}

-- a sum over members is the sum over their positions
pub gather_sum :
    (m : ℕ) (p : ℕ → Bool) (g : ℕ → ℕ) → sum m (λ j. cond (p j) (g (size j p)) 0) ≡ sum (size m p) g
unfolding sum
gather_sum zero p g = refl
gather_sum (suc m) p g =
    elim (cases_Bool (p m)) [
      | inl y ↦
          (let e : 1 + size m p ≡ suc (size m p) = omega arith in
          rw y (rw e (omega (arith, gather_sum m p g))))
      | inr z ↦
          (let e : 0 + size m p ≡ size m p = omega arith in
          rw z (rw e (omega (arith, gather_sum m p g))))
    ]

-- a member's position is below the number of members
pub gather_below : (m : ℕ) (p : ℕ → Bool) (j : ℕ) → j < m → p j ≡ true → size j p < size m p
gather_below m p j l y = let w = sum_step j m (λ i. cond (p i) 1 0) l in grind arith

-- each position is a member's
pub gather_pick :
    (m : ℕ) (p : ℕ → Bool) (i : ℕ) → i < size m p → (j : ℕ) × (j < m) × (p j ≡ true) × (size j p ≡ i)
unfolding sum
gather_pick zero p i l = absurd (omega arith)
gather_pick (suc m) p i l =
    elim (cases_lt i (size m p)) [
      | inl k ↦ (let r = gather_pick m p i k in (r.0, omega (arith, r.1), r.2, r.3))
      | inr k ↦
          elim (cases_Bool (p m)) [
            | inl y ↦ (let w : cond {A = ℕ} (p m) 1 0 ≡ 1 = rw y refl in (m, omega arith, y, omega arith))
            | inr z ↦ (let w : cond {A = ℕ} (p m) 1 0 ≡ 0 = rw z refl in absurd (omega arith))
          ]
    ]

-- two members at one position are one
pub gather_same : (p : ℕ → Bool) (i j : ℕ) → p i ≡ true → p j ≡ true → size i p ≡ size j p → i ≡ j
gather_same p i j y z e =
    elim (cases_lt i j) [
      | inl l ↦ absurd (omega (arith, gather_below j p i l y))
      | inr g ↦ elim (cases_lt j i) [ inl l ↦ absurd (omega (arith, gather_below i p j l z)) | inr k ↦ omega arith ]
    ]

scattered_column : (m : ℕ) (p : ℕ → Bool) (f : ℕ → ℕ → ℕ) (s : ℕ) → column m (scattered p f) s ≡ column (size m p) f s
scattered_column m p f s = gather_sum m p (λ i. f i s)

pub scattered_row :
    (n : ℕ) (p : ℕ → Bool) (f : ℕ → ℕ → ℕ) (j : ℕ) → row n (scattered p f) j ≡ cond (p j) (row n f (size j p)) 0
scattered_row n p f j =
    elim (p j) as (λ b. sum n (λ s. cond b (f (size j p) s) 0) ≡ cond b (sum n (f (size j p))) 0) [
      | true ↦ refl
      | false ↦ sum_zero n (λ s. 0) (λ s l. refl)
    ]

module _
    {m n : ℕ} {p : ℕ → Bool} {may may' : ℕ → ℕ → Bool} {a a' c c' : ℕ → ℕ} (w : Gathered m n p may may' a a' c c')
    (f : ℕ → ℕ → ℕ) where
  -- a flow by position is a flow by task
  pub gathered_flow : Flow (size m p) n may' a' c' f → Flow m n may (λ j. cond (p j) (a j) 0) c (scattered p f)
  gathered_flow g =
      record {
        only = λ j s i l y. elim (cases_Bool (p j)) [
          | inl k ↦ (let v = g.only (size j p) s (gather_below m p j i k) l in let x = w.allowed j s i l k in grind arith)
          | inr z ↦ grind arith
        ];
        rows = λ j i. elim (cases_Bool (p j)) [
          | inl k ↦
              (let v = g.rows (size j p) (gather_below m p j i k) in
              let x = w.supplied j i k in
              let y = scattered_row n p f j in
              grind arith)
          | inr z ↦ (let y = scattered_row n p f j in grind arith)
        ];
        columns = λ s l. rw (scattered_column m p f s) (rw (w.borne s l) at (g.columns s l));
      }

  -- with all of each task, if so by position
  pub gathered_whole : Whole (size m p) n a' f → Whole m n (λ j. cond (p j) (a j) 0) (scattered p f)
  gathered_whole g j i =
      elim (cases_Bool (p j)) [
        | inl k ↦
            (let v = g (size j p) (gather_below m p j i k) in
            let x = w.supplied j i k in
            let y = scattered_row n p f j in
            grind arith)
        | inr z ↦ (let y = scattered_row n p f j in grind arith)
      ]

  -- a set that is roomy and closed by task is so by position
  gathered_roomy : (v : ℕ → Bool) → Roomy m n c (scattered p f) v → Roomy (size m p) n c' f v
  gathered_roomy v r = record { room = λ s l o. r.room s l (rw (scattered_column m p f s) (rw (w.borne s l) at o)) }

  gathered_closed : (v : ℕ → Bool) → Closed m n may (scattered p f) v → Closed (size m p) n may' f v
  gathered_closed v r =
      record {
        back = λ i s t k l l' y vt o.
            let g = gather_pick m p i k in
            let x = w.allowed g.0 t g.1 l' g.2 in
            let e : may g.0 t ≡ true = sym x ∙ (ap (λ b. may' b t) g.3 ∙ y) in
            let y' = g.2 in
            let o' : 0 < f (size g.0 p) s = rw g.3 o in
            r.back g.0 s t g.1 l l' e vt (grind arith);
      }

  -- and the other way round
  gathered_reaches :
      (u : ℕ → Bool) → Reaches (size m p) n may' c' f u → Reaches m n may c (scattered p f) u
  gathered_reaches u r =
      record {
        roomy = record { room = λ s l o. r.roomy.room s l (rw (w.borne s l) (rw (scattered_column m p f s) at o)) };
        closed = record {
          back = λ j s t i l l' y ut o.
              elim (cases_Bool (p j)) [
                | inl k ↦
                    (let x = w.allowed j t i l' k in
                    let o' : 0 < f (size j p) s = grind arith in
                    r.closed.back (size j p) s t (gather_below m p j i k) l l' (x ∙ y) ut o')
                | inr z ↦ absurd (grind arith)
              ];
        };
        least = λ v rv cv. r.least v (gathered_roomy v rv) (gathered_closed v cv);
      }

  -- so a largest flow by position is one by task, with the same reach
  pub gathered_largest :
      (u : ℕ → Bool) → Largest (size m p) n may' a' c' f u → Largest m n may (λ j. cond (p j) (a j) 0) c (scattered p f) u
  gathered_largest u g =
      largest (gathered_flow g.flow) (gathered_reaches u g.reaches)
      (λ j i y. elim (cases_Bool (p j)) [
        | inl k ↦
            (let r = any_some n (both (may j) u) y in
            let x = w.allowed j r.0 i r.1 k in
            let r2 = r.2 in
            let e : meets n (may' (size j p)) u ≡ true =
            any_has n (both (may' (size j p)) u) r.0 r.1 (grind arith) in
            let v = g.shipped (size j p) (gather_below m p j i k) e in
            let x' = w.supplied j i k in
            let y' = scattered_row n p f j in
            grind arith)
        | inr z ↦ (let y' = scattered_row n p f j in grind arith)
      ])

  -- a task short by position is short as a task
  pub gathered_short :
      (i : ℕ) → i < size m p → row n f i < a' i →
      (j : ℕ) × (j < m) × (row n (scattered p f) j < cond (p j) (a j) 0)
  gathered_short i k o =
      let g = gather_pick m p i k in
      let x = w.supplied g.0 g.1 g.2 in
      let y = scattered_row n p f g.0 in
      let b = g.2 in
      let e : row n f (size g.0 p) < a' (size g.0 p) = rw g.3 o in
      (g.0, g.1, grind arith)

-- one member more is put behind those before it
pub gather_put :
    {A : Type 0} (p : ℕ → Bool) (j k : ℕ) (xs : List A) (d : A) (g : ℕ → A) → k ≡ size j p → k < length xs → p j ≡ true →
    ((i : ℕ) → i < j → p i ≡ true → get_or xs (size i p) d ≡ g i) →
    (i : ℕ) → i < j + 1 → p i ≡ true → get_or (set xs k (g j)) (size i p) d ≡ g i
gather_put p j k xs d g e l y h i m z =
    elim (cases_eq i j) [
      | inl f ↦ rw f (rw (← e) (get_or-set_same xs k (g j) d l))
      | inr f ↦
          (let m' : i < j = omega arith in
          let b = gather_below j p i m' z in
          get_or-set_other xs k (size i p) (g j) d (λ v. omega arith) ∙ h i m' z)
    ]
