-- Cuts bound flows, and a flow that meets its bound is a largest one.
use Rattle.std.proofs.Common.{◌≡◌, ℕ, ◌+◌, ◌<◌, ◌≤◌, Bool, true, false, cond, not, ◌&&◌, sym, refl, ◌∙◌, inl, inr, arith}
use Rattle.std.proofs.lemmas.Bool.{cases_lt, cases_Bool}
use Rattle.fraction.specs.Sum.{sum, part, both}
use Rattle.fraction.proofs.Sums.{sum_same, sum_le, sum_lt, sum_zero, sum_swap, sum_tight, part_parts, part_same_on, part_le_on, size_some, any_some, any_none}
use Rattle.flow.specs.Flow.{row, column, value, meets, Flow, Whole, Most, Roomy, Closed, Reaches, Largest}
use Rattle.flow.specs.Cut.{AtMost, Fills, Dense, Strict}

-- the part of a table that lies in the rows p, by columns
swap_part :
    (m n : ℕ) (p : ℕ → Bool) (f : ℕ → ℕ → ℕ) →
    part m p (row n f) ≡ sum n (λ s. part m p (λ j. f j s))
swap_part m n p f =
    sum_same m (λ j. cond (p j) (row n f j) 0) (λ j. row n (λ i s. cond (p i) (f i s) 0) j)
    (λ j l. elim (p j) as (λ b. cond b (row n f j) 0 ≡ sum n (λ s. cond b (f j s) 0)) [
      | true ↦ refl
      | false ↦ sym (sum_zero n (λ s. 0) (λ s k. refl))
    ])
    ∙ sum_swap m n (λ j s. cond (p j) (f j s) 0)

-- what tasks that may use no hour of v ship into hours of v: nothing
none_in :
    (m n : ℕ) (may : ℕ → ℕ → Bool) (a c : ℕ → ℕ) (g : ℕ → ℕ → ℕ) (v : ℕ → Bool) → Flow m n may a c g →
    (s : ℕ) → s < n → v s ≡ true → part m (λ j. not (meets n (may j) v)) (λ j. g j s) ≡ 0
none_in m n may a c g v w s l h =
    sum_zero m (λ j. cond (not (meets n (may j) v)) (g j s) 0)
    (λ j k. elim (cases_Bool (meets n (may j) v)) [
      | inl t ↦ rw t refl
      | inr e ↦
          (let un = any_none n (both (may j) v) e s l in
          let z = w.only j s k l (grind arith) in rw e z)
    ])

-- what tasks that may use no hour of v ship in all lies within the hours outside of v
outside :
    (m n : ℕ) (may : ℕ → ℕ → Bool) (a c : ℕ → ℕ) (g : ℕ → ℕ → ℕ) (v : ℕ → Bool) → Flow m n may a c g →
    part m (λ j. not (meets n (may j) v)) (row n g) ≡ part n (λ s. not (v s)) (λ s. part m (λ j. not (meets n (may j) v)) (λ j. g j s))
outside m n may a c g v w =
    swap_part m n (λ j. not (meets n (may j) v)) g
    ∙ sum_same n _ _ (λ s l. elim (cases_Bool (v s)) [
      | inl t ↦ rw t (none_in m n may a c g v w s l t)
      | inr e ↦ rw e refl
    ])

-- a part of a column is at most the column
part_column : (m : ℕ) (p : ℕ → Bool) (x : ℕ → ℕ) → part m p x ≤ sum m x
part_column m p x = sum_le m _ x (λ j l. grind arith)

pub at_most : AtMost
at_most m n may a c g v w =
    let p : ℕ → Bool = λ j. meets n (may j) v in
    let split = part_parts m p (row n g) in
    let rows = part_le_on m p (row n g) a (λ j l h. w.rows j l) in
    let out = outside m n may a c g v w in
    let cols =
    part_le_on n (λ s. not (v s)) (λ s. part m (λ j. not (p j)) (λ j. g j s)) c
    (λ s l h. omega (arith, part_column m (λ j. not (p j)) (λ j. g j s), w.columns s l)) in
    omega (arith, split, rows, out, cols)

-- a flow that ships every task whole is a largest one
pub whole_most :
    (m n : ℕ) (may : ℕ → ℕ → Bool) (a c : ℕ → ℕ) (f : ℕ → ℕ → ℕ) → Whole m n a f → Most m n may a c f
whole_most m n may a c f w g h = sum_le m (row n g) (row n f) (λ j l. omega (arith, w j l, h.rows j l))

-- where a task that may use an hour of u is shipped whole, u is the reach of a largest flow
module _
    {m n : ℕ} {may : ℕ → ℕ → Bool} {a c : ℕ → ℕ} {f : ℕ → ℕ → ℕ} {u : ℕ → Bool} (w : Flow m n may a c f)
    (r : Reaches m n may c f u) (shipped : (j : ℕ) → j < m → meets n (may j) u ≡ true → row n f j ≡ a j) where
  reach_full : (s : ℕ) → s < n → u s ≡ false → column m f s ≡ c s
  reach_full s l h =
      elim (cases_lt (column m f s) (c s)) [
        | inl d ↦ (let t = r.roomy.room s l d in absurd (grind arith))
        | inr ge ↦ omega (arith, w.columns s l)
      ]

  reach_own : (j s : ℕ) → j < m → s < n → u s ≡ false → 0 < f j s → meets n (may j) u ≡ false
  reach_own j s lj ls h d =
      elim (cases_Bool (meets n (may j) u)) [
        | inl t ↦
            (let i = any_some n (both (may j) u) t in
            let e = i.2 in
            let b = r.closed.back j s i.0 lj ls i.1 (grind arith) (grind arith) d in absurd (grind arith))
        | inr e ↦ e
      ]

  reach_cut : value m n f ≡ part m (λ j. meets n (may j) u) a + part n (λ s. not (u s)) c
  reach_cut =
      let p : ℕ → Bool = λ j. meets n (may j) u in
      let split = part_parts m p (row n f) in
      let rows = part_same_on m p (row n f) a (λ j l h. shipped j l h) in
      let out = outside m n may a c f u w in
      let cols =
      part_same_on n (λ s. not (u s)) (λ s. part m (λ j. not (p j)) (λ j. f j s)) c
      (λ s l h.
      let e : u s ≡ false = grind arith in
      sum_same m (λ j. cond (not (p j)) (f j s) 0) (λ j. f j s)
      (λ j k. elim (cases_lt 0 (f j s)) [
        | inl d ↦ (let o = reach_own j s k l e d in rw o refl)
        | inr z ↦ (let z0 : f j s ≡ 0 = omega arith in grind arith)
      ])
      ∙ reach_full s l e) in
      omega (arith, split, rows, out, cols)

  pub largest : Largest m n may a c f u
  largest =
      record {
        flow = w;
        reaches = r;
        shipped = shipped;
        full = reach_full;
        own = reach_own;
        cut = reach_cut;
        most = λ g h. omega (arith, at_most m n may a c g u h, reach_cut);
      }

pub fills : Fills
fills m n may a c f u w =
    let p : ℕ → Bool = λ j. meets n (may j) u in
    let split = part_parts m p (row n f) in
    let rows = part_same_on m p (row n f) a (λ j l h. w.shipped j l h) in
    omega (arith, split, rows, w.cut)

pub dense : Dense
dense m n may a c f u w j l d =
    let p : ℕ → Bool = λ j. meets n (may j) u in
    let lt =
    sum_lt m (λ i. cond (not (p i)) (row n f i) 0) (λ i. cond (not (p i)) (a i) 0)
    (λ i k. let b = w.flow.rows i k in grind arith)
    j l
    (elim (cases_Bool (p j)) [
      | inl t ↦ (let e = w.shipped j l t in absurd (omega arith))
      | inr e ↦ rw e d
    ]) in
    omega (arith, lt, fills m n may a c f u w)

-- tasks that fill a set of hours of u to its capacity, and may use no other hour of u, would cut it off from all room
module _
    {m n : ℕ} {may : ℕ → ℕ → Bool} {a c : ℕ → ℕ} {f : ℕ → ℕ → ℕ} {u : ℕ → Bool} (w : Largest m n may a c f u)
    (q e : ℕ → Bool) (meet : (j : ℕ) → j < m → q j ≡ true → meets n (may j) u ≡ true)
    (shut : (j s : ℕ) → j < m → s < n → q j ≡ true → may j s ≡ true → u s ≡ true → e s ≡ true) where
  -- what q ships lies in hours of u and e
  q_in : part m q (row n f) ≡ part n (both u e) (λ s. part m q (λ j. f j s))
  q_in =
      swap_part m n q f
      ∙ sum_same n (λ s. part m q (λ j. f j s)) (λ s. cond (u s && e s) (part m q (λ j. f j s)) 0)
      (λ s l. elim (cases_Bool (u s && e s)) [
        | inl t ↦ rw t refl
        | inr x ↦
            rw x (sum_zero m (λ j. cond (q j) (f j s) 0)
            (λ j k. elim (cases_Bool (q j)) [
              | inr un ↦ rw un refl
              | inl is ↦ rw is (elim (cases_lt 0 (f j s)) [
                | inr z ↦ omega arith
                | inl d ↦ absurd (q_none j s k l is d x)
              ])
            ]))
      ])
    where
      q_none : (j s : ℕ) → j < m → s < n → q j ≡ true → 0 < f j s → (u s && e s) ≡ false → ⊥
      q_none j s k l is d x =
          elim (cases_Bool (u s)) [
            | inr out ↦ (let o = w.own j s k l out d in let t = meet j k is in grind arith)
            | inl inn ↦ elim (cases_Bool (may j s)) [
              | inl can ↦ (let y = shut j s k l is can inn in grind arith)
              | inr never ↦ (let z = w.flow.only j s k l never in omega arith)
            ]
          ]

  q_le : (s : ℕ) → s < n → part m q (λ j. f j s) ≤ column m f s
  q_le s l = part_column m q (λ j. f j s)

  -- were the capacity no more than what q ships, u without e would be roomy and closed
  q_less : (s : ℕ) → s < n → u s ≡ true → e s ≡ true → part m q (row n f) < part n (both u e) c
  q_less s l us es =
      elim (cases_lt (part m q (row n f)) (part n (both u e) c)) [
        | inl lt ↦ lt
        | inr ge ↦
            (let tight =
            sum_tight n (λ i. cond (u i && e i) (part m q (λ j. f j i)) 0) (λ i. cond (u i && e i) (c i) 0)
            (λ i k. let b = q_le i k in let v = w.flow.columns i k in grind arith)
            (omega (arith, q_in)) in
            let same : (i : ℕ) → i < n → u i ≡ true → e i ≡ true → part m q (λ j. f j i) ≡ c i =
            λ i k ui ei. let h = tight i k in grind arith in
            let v : ℕ → Bool = λ i. u i && not (e i) in
            let roomy : Roomy m n c f v =
            record {
              room = λ i k d. let ui = w.reaches.roomy.room i k d in
                  elim (cases_Bool (e i)) [
                    | inl ei ↦ absurd (omega (arith, same i k ui ei, q_le i k))
                    | inr un ↦ grind arith
                  ];
            } in
            let closed : Closed m n may f v =
            record {
              back = λ j i t lj li lt mt vt d.
                  let ut : u t ≡ true = grind arith in
                  let et : e t ≡ false = grind arith in
                  let ui = w.reaches.closed.back j i t lj li lt mt ut d in
                  elim (cases_Bool (e i)) [
                    | inr un ↦ grind arith
                    | inl ei ↦ elim (cases_Bool (q j)) [
                      | inl qj ↦ (let x = shut j t lj lt qj mt ut in absurd (grind arith))
                      | inr nq ↦
                          (let y =
                          sum_tight m (λ k. cond (q k) (f k i) 0) (λ k. f k i)
                          (λ k lk. grind arith)
                          (omega (arith, same i li ui ei, w.flow.columns i li)) j lj in
                          absurd (grind arith))
                    ]
                  ];
            } in
            let x = w.reaches.least v roomy closed s l us in absurd (grind arith))
      ]

pub strict : Strict
strict m n may a c f u w q e meet shut some =
    let i = size_some n (both u e) some in
    let both_are = i.2 in
    let rows = part_same_on m q (row n f) a (λ j l h. w.shipped j l (meet j l h)) in
    omega (arith, rows, q_less w q e meet shut i.0 i.1 (grind arith) (grind arith))
