-- Steps: the part on top is split, or taken as the next group.
use Rattle.std.proofs.Common.{◌≡◌, ℕ, suc, ◌*◌, ◌<◌, ◌≤◌, Bool, true, false, cond, eqb, sym, refl, ◌∙◌, inl, inr, arith}
use Rattle.std.proofs.lemmas.Bool.Decides.{nat_tests}
use Rattle.std.proofs.lemmas.Bool.{cases_Bool, cases_eq, eqb-true, eq-eqb, and_from}
use Rattle.fraction.specs.Sum.{part, size, both, without}
use Rattle.fraction.proofs.Sums.{part_split, part_same_test, sum_zero, size_has}
use Rattle.level.specs.Bounds.{Upper, Lower}
use Rattle.level.specs.Cut.{Levels, Splits, open_to}
use Rattle.level.specs.Stack.{is, Stack}
use Rattle.level.proofs.Bounds.{upper_same, lower_same}
use Rattle.level.proofs.Cuts.{cut_lower, cut_upper, upper_within, lower_outside, cut_mine, cut_mine_dense, cut_used, cut_used_dense, cut_proper, cut_some}
use Rattle.fraction.proofs.Fractions.{cross_trans, cross_lt_le}
use Rattle.level.proofs.Fractions.{level_below, level_from}
use Rattle.level.proofs.Stack.{some_size, fewer}

-- a cut of the part t on top has two sides with an hour each
module _
    {m n : ℕ} {may : ℕ → ℕ → Bool} {units of at num den : ℕ → ℕ} {e t z p q : ℕ} {f : ℕ → ℕ → ℕ} {u : ℕ → Bool}
    (w : Stack m n may units of at num den e t z) (l : t < z) (c : Splits m n may units (is of t) (is at t) p q f u) where
  split_dense : (s : ℕ) × (s < n) × (without (is at t) u s ≡ true)
  split_dense =
      cut_some c
      (λ j i y.
      let r = w.mine j i in
      (r.0, r.1, r.2, eq-eqb (at r.0) t (r.3 ∙ eqb-true (of j) t y)))

  -- so the dense one has fewer hours
  pub split_less : size n (without (is at t) u) < size n (is at t)
  split_less =
      let a = part_split n (is at t) u (λ s. 1) in
      let r = cut_proper c in
      omega (arith, a, size_has n (both (is at t) u) r.0 r.1 r.2)

  -- and there is a label for it
  pub split_room : n ≤ z → e < t
  split_room wide =
      let a = part_split n (is at t) u (λ s. 1) in
      let r = cut_proper c in
      let r' = split_dense in
      let b = size_has n (both (is at t) u) r.0 r.1 r.2 in
      let b' = size_has n (without (is at t) u) r'.0 r'.1 r'.2 in
      omega (arith, fewer w l (omega arith))

-- the part v + 1 on top is split: its dense side becomes part v, the new top, and its other side keeps the label
module _
    {m n : ℕ} {may : ℕ → ℕ → Bool} {units of at num den : ℕ → ℕ} {e v z p q : ℕ} {f : ℕ → ℕ → ℕ} {u : ℕ → Bool}
    (w : Stack m n may units of at num den e (suc v) z) (l : suc v < z) (wide : n ≤ z)
    (c : Splits m n may units (is of (suc v)) (is at (suc v)) p q f u) where
  split_label : e ≤ v
  split_label = let a = split_room w l c wide in omega arith

  module _
      (of' at' : ℕ → ℕ)
      (ej : (j : ℕ) → j < m → of' j ≡ cond (without (is of (suc v)) (open_to n may u) j) v (of j))
      (es : (s : ℕ) → s < n → at' s ≡ cond (without (is at (suc v)) u s) v (at s)) where
    dense_task : (j : ℕ) → j < m → is of' v j ≡ without (is of (suc v)) (open_to n may u) j
    dense_task j i = let a = ej j i in let b = w.tasks j i in let k = split_label in grind (arith, nat_tests)

    dense_hour : (s : ℕ) → s < n → is at' v s ≡ without (is at (suc v)) u s
    dense_hour s k = let a = es s k in let b = w.hours s k in let g = split_label in grind (arith, nat_tests)

    other_task : (j : ℕ) → j < m → is of' (suc v) j ≡ both (is of (suc v)) (open_to n may u) j
    other_task j i = let a = ej j i in grind (arith, nat_tests)

    other_hour : (s : ℕ) → s < n → is at' (suc v) s ≡ both (is at (suc v)) u s
    other_hour s k = let a = es s k in grind (arith, nat_tests)

    same_task : (i j : ℕ) → suc v < i → j < m → is of' i j ≡ is of i j
    same_task i j g k = let a = ej j k in grind (arith, nat_tests)

    same_hour : (i s : ℕ) → suc v < i → s < n → is at' i s ≡ is at i s
    same_hour i s g k = let a = es s k in grind (arith, nat_tests)

    split_up : ℕ → ℕ
    split_up i = cond (eqb i v) (w.up (suc v)) (cond (eqb i (suc v)) p (w.up i))

    split_over : ℕ → ℕ
    split_over i = cond (eqb i v) (w.over (suc v)) (cond (eqb i (suc v)) q (w.over i))

    split_upper : (i : ℕ) → v ≤ i → i < z → Upper m n may units (is of' i) (is at' i) (split_up i) (split_over i)
    unfolding split_up split_over
    split_upper i a b =
        elim (cases_eq i v) [
          | inl g ↦
              (let e1 : split_up i ≡ w.up (suc v) = grind (arith, nat_tests) in
              let e2 : split_over i ≡ w.over (suc v) = grind (arith, nat_tests) in
              rw (e1, e2)
              (rw g
              (upper_same m n may units _ _ _ _ (w.up (suc v)) (w.over (suc v)) dense_task dense_hour
              (upper_within c (w.up (suc v)) (w.over (suc v)) (w.upper (suc v) (omega arith) l)))))
          | inr g ↦
              elim (cases_eq i (suc v)) [
                | inl g' ↦
                    (let e1 : split_up i ≡ p = grind (arith, nat_tests) in
                    let e2 : split_over i ≡ q = grind (arith, nat_tests) in
                    rw (e1, e2) (rw g' (upper_same m n may units _ _ _ _ p q other_task other_hour (cut_upper c))))
                | inr g' ↦
                    (let e1 : split_up i ≡ w.up i = grind (arith, nat_tests) in
                    let e2 : split_over i ≡ w.over i = grind (arith, nat_tests) in
                    rw (e1, e2)
                    (upper_same m n may units _ _ _ _ (w.up i) (w.over i) (λ j k. same_task i j (omega arith) k)
                    (λ s k. same_hour i s (omega arith) k) (w.upper i (omega arith) b)))
              ]
        ]

    split_lower :
        (i : ℕ) → v ≤ i → i < z → Lower m n may units (is of' i) (is at' i) (split_up (suc i)) (split_over (suc i))
    unfolding split_up split_over
    split_lower i a b =
        elim (cases_eq i v) [
          | inl g ↦
              (let e1 : split_up (suc i) ≡ p = grind (arith, nat_tests) in
              let e2 : split_over (suc i) ≡ q = grind (arith, nat_tests) in
              rw (e1, e2) (rw g (lower_same m n may units _ _ _ _ p q dense_task dense_hour (cut_lower c))))
          | inr g ↦
              (let e1 : split_up (suc i) ≡ w.up (suc i) = grind (arith, nat_tests) in
              let e2 : split_over (suc i) ≡ w.over (suc i) = grind (arith, nat_tests) in
              rw (e1, e2)
              (elim (cases_eq i (suc v)) [
                | inl g' ↦
                    rw g'
                    (lower_same m n may units _ _ _ _ (w.up (suc (suc v))) (w.over (suc (suc v))) other_task other_hour
                    (lower_outside c (w.up (suc (suc v))) (w.over (suc (suc v))) (w.lower (suc v) (omega arith) l)))
                | inr g' ↦
                    lower_same m n may units _ _ _ _ (w.up (suc i)) (w.over (suc i)) (λ j k. same_task i j (omega arith) k)
                    (λ s k. same_hour i s (omega arith) k) (w.lower i (omega arith) b)
              ]))
        ]

    split_some : (i : ℕ) → i < z → (e ≤ i → v ≤ i) → (s : ℕ) × (s < n) × (at' s ≡ i)
    split_some i b k =
        elim (cases_eq i v) [
          | inl g ↦
              (let r = split_dense w l c in
              (r.0, r.1, eqb-true (at' r.0) v (dense_hour r.0 r.1 ∙ r.2) ∙ sym g))
          | inr g ↦
              elim (cases_eq i (suc v)) [
                | inl g' ↦
                    (let r = cut_proper c in
                    (r.0, r.1, eqb-true (at' r.0) (suc v) (other_hour r.0 r.1 ∙ r.2) ∙ sym g'))
                | inr g' ↦
                    (let r = w.some i b (λ d. let k' = k d in omega arith) in
                    let x = es r.0 r.1 in
                    let y = r.2 in
                    (r.0, r.1, grind (arith, nat_tests)))
              ]
        ]

    split_before : (j s : ℕ) → j < m → s < n → may j s ≡ true → at' s ≤ of' j
    split_before j s i k y =
        let a = ej j i in
        let b = es s k in
        let g = w.before j s i k y in
        let x = cut_mine_dense c j s k in
        elim (cases_Bool (without (is of (suc v)) (open_to n may u) j)) [
          | inl d ↦
              elim (cases_eq (at s) (suc v)) [
                | inl h ↦ (let x' = x d y (eq-eqb (at s) (suc v) h) in grind (arith, nat_tests))
                | inr h ↦ grind (arith, nat_tests)
              ]
          | inr d ↦ grind (arith, nat_tests)
        ]

    split_own : (j : ℕ) → j < m → (s : ℕ) × (s < n) × (may j s ≡ true) × (at' s ≡ of' j)
    split_own j i =
        let a = ej j i in
        let r = w.mine j i in
        let r3 = r.3 in
        elim (cases_eq (of j) (suc v)) [
          | inl g ↦
              elim (cases_Bool (open_to n may u j)) [
                | inl d ↦
                    (let k = cut_mine c j (and_from (is of (suc v) j) (open_to n may u j) (eq-eqb (of j) (suc v) g) d) in
                    let b = es k.0 k.1 in
                    let k3 = k.3 in
                    (k.0, k.1, k.2, grind (arith, nat_tests)))
                | inr d ↦
                    (let b = es r.0 r.1 in
                    let x =
                    cut_mine_dense c j r.0 r.1 (grind (arith, nat_tests)) r.2
                    (eq-eqb (at r.0) (suc v) (r3 ∙ g)) in
                    (r.0, r.1, r.2, grind (arith, nat_tests)))
              ]
          | inr g ↦ (let b = es r.0 r.1 in (r.0, r.1, r.2, grind (arith, nat_tests)))
        ]

    split_used : (s : ℕ) → s < n → at' s < z → (j : ℕ) × (j < m) × (may j s ≡ true) × (of' j ≡ at' s)
    split_used s k b =
        let a = es s k in
        elim (cases_eq (at s) (suc v)) [
          | inl g ↦
              elim (cases_Bool (u s)) [
                | inl d ↦
                    (let r = w.used s k (omega arith) in
                    let r3 = r.3 in
                    let x =
                    cut_used c r.0 s k (eq-eqb (of r.0) (suc v) (r3 ∙ g)) r.2
                    (and_from (is at (suc v) s) (u s) (eq-eqb (at s) (suc v) g) d) in
                    let y = ej r.0 r.1 in
                    (r.0, r.1, r.2, grind (arith, nat_tests)))
                | inr d ↦
                    (let r = cut_used_dense c s k (grind (arith, nat_tests)) in
                    let r3 = r.3 in
                    let y = ej r.0 r.1 in
                    (r.0, r.1, r.2, grind (arith, nat_tests)))
              ]
          | inr g ↦
              (let o : at s < z = grind (arith, nat_tests) in
              let r = w.used s k o in
              let r3 = r.3 in
              let y = ej r.0 r.1 in
              (r.0, r.1, r.2, grind (arith, nat_tests)))
        ]

    pub split : Stack m n may units of' at' num den e v z
    unfolding split_up split_over
    split =
        record {
          up = split_up;
          over = split_over;
          found = split_label;
          ends = omega arith;
          tasks = λ j i g. let a = ej j i in let b = w.tasks j i in grind (arith, nat_tests);
          last = λ j i. let a = ej j i in let b = w.last j i in grind (arith, nat_tests);
          hours = λ s k g. let a = es s k in let b = w.hours s k in grind (arith, nat_tests);
          before = split_before;
          some = split_some;
          mine = split_own;
          used = split_used;
          upper = split_upper;
          lower = split_lower;
          past = λ g k.
              let e1 : split_up v ≡ w.up (suc v) = grind (arith, nat_tests) in
              let e2 : split_over v ≡ w.over (suc v) = grind (arith, nat_tests) in
              rw (e1, e2) (w.past g k);
          some_den = w.some_den;
          fall = w.fall;
        }

-- the part t on top, which has the level p / q, becomes the next group, e
module _
    {m n : ℕ} {may : ℕ → ℕ → Bool} {units of at num den : ℕ → ℕ} {e t z : ℕ}
    (w : Stack m n may units of at num den e t z) (l : t < z)
    (p q : ℕ) (q0 : 0 < q) (lev : Levels m n units (is of t) (is at t) p q) where
  -- its level is below the bound of the part
  take_below : p * w.over t < w.up t * q
  take_below =
      let a : part m (both (is of t) (λ j. true)) units ≡ part m (is of t) units =
      part_same_test m _ _ units (λ j i. grind arith) in
      let b : size n (both (is at t) (λ s. true)) ≡ size n (is at t) =
      part_same_test n _ _ (λ s. 1) (λ s k. grind arith) in
      let k : 0 < size n (both (is at t) (λ s. true)) =
      rw b (some_size w t l (λ g. omega arith)) in
      let r = w.upper t (omega arith) l (λ j. true) (λ s. true) (λ j s i k' x y v g. refl) k in
      level_below (part m (is of t) units) (size n (is at t)) p q (w.up t) (w.over t) q0 lev (rw (a, b) at r)

  -- and not below that of the next
  take_from : w.up (suc t) * q ≤ p * w.over (suc t)
  take_from =
      let a : part m (both (is of t) (λ j. false)) units ≡ 0 = sum_zero m _ (λ j i. grind arith) in
      let b : size n (both (is at t) (λ s. false)) ≡ 0 = sum_zero n _ (λ s k. grind arith) in
      let r = w.lower t (omega arith) l (λ j. false) (λ s. false) (λ j s i k x y v g. y) in
      level_from (part m (is of t) units) (size n (is at t)) p q (w.up (suc t)) (w.over (suc t))
      (some_size w t l (λ g. omega arith)) lev (omega (arith, rw (a, b) at r))

  take_falls : (g : ℕ) → g < e → p * den g < num g * q
  take_falls g k = cross_lt_le p q (w.up t) (w.over t) (num g) (den g) (w.some_den g k) take_below (w.past g k)

  module _
      (of' at' num' den' : ℕ → ℕ)
      (ej : (j : ℕ) → j < m → of' j ≡ cond (is of t j) e (of j))
      (es : (s : ℕ) → s < n → at' s ≡ cond (is at t s) e (at s))
      (en : (g : ℕ) → g < e → num' g ≡ num g) (ed : (g : ℕ) → g < e → den' g ≡ den g) (ep : num' e ≡ p) (eq : den' e ≡ q) where
    take_task : (i j : ℕ) → suc t ≤ i → j < m → is of' i j ≡ is of i j
    take_task i j g k = let a = ej j k in let b = w.found in grind (arith, nat_tests)

    take_hour : (i s : ℕ) → suc t ≤ i → s < n → is at' i s ≡ is at i s
    take_hour i s g k = let a = es s k in let b = w.found in grind (arith, nat_tests)

    take_before : (j s : ℕ) → j < m → s < n → may j s ≡ true → at' s ≤ of' j
    take_before j s i k y =
        let a = ej j i in
        let b = es s k in
        let g = w.before j s i k y in
        let x = w.hours s k in
        let v = w.found in
        grind (arith, nat_tests)

    take_some : (i : ℕ) → i < z → (suc e ≤ i → suc t ≤ i) → (s : ℕ) × (s < n) × (at' s ≡ i)
    take_some i b k =
        let v = w.found in
        elim (cases_eq i e) [
          | inl g ↦
              (let r = w.some t l (λ d. omega arith) in
              let x = es r.0 r.1 in
              let y = r.2 in
              (r.0, r.1, grind (arith, nat_tests)))
          | inr g ↦
              (let r = w.some i b (λ d. let k' = k (omega arith) in omega arith) in
              let x = es r.0 r.1 in
              let y = r.2 in
              (r.0, r.1, grind (arith, nat_tests)))
        ]

    take_mine : (j : ℕ) → j < m → (s : ℕ) × (s < n) × (may j s ≡ true) × (at' s ≡ of' j)
    take_mine j i =
        let r = w.mine j i in
        let y = r.3 in
        let a = ej j i in
        let b = es r.0 r.1 in
        (r.0, r.1, r.2, grind (arith, nat_tests))

    take_used : (s : ℕ) → s < n → at' s < z → (j : ℕ) × (j < m) × (may j s ≡ true) × (of' j ≡ at' s)
    take_used s k b =
        let a = es s k in
        let o : at s < z = grind (arith, nat_tests) in
        let r = w.used s k o in
        let y = r.3 in
        let c = ej r.0 r.1 in
        (r.0, r.1, r.2, grind (arith, nat_tests))

    take_past : (g : ℕ) → g < suc e → w.up (suc t) * den' g ≤ num' g * w.over (suc t)
    take_past g k =
        elim (cases_eq g e) [
          | inl x ↦ rw (x, ep, eq) take_from
          | inr x ↦
              (let k' : g < e = omega arith in
              let y = take_falls g k' in
              rw (en g k', ed g k')
              (cross_trans (w.up (suc t)) (w.over (suc t)) p q (num g) (den g) q0 take_from (omega arith)))
        ]

    take_fall : (g h : ℕ) → g < h → h < suc e → num' h * den' g < num' g * den' h
    take_fall g h b k =
        let k' : g < e = omega arith in
        rw (en g k', ed g k')
        (elim (cases_eq h e) [
          | inl x ↦ rw (x, ep, eq) (take_falls g k')
          | inr x ↦ (let k'' : h < e = omega arith in rw (en h k'', ed h k'') (w.fall g h b k''))
        ])

    pub take : Stack m n may units of' at' num' den' (suc e) (suc t) z
    take =
        record {
          up = w.up;
          over = w.over;
          found = let v = w.found in omega arith;
          ends = omega arith;
          tasks = λ j i g. let a = ej j i in let b = w.tasks j i in let v = w.found in grind (arith, nat_tests);
          last = λ j i. let a = ej j i in let b = w.last j i in let v = w.found in grind (arith, nat_tests);
          hours = λ s k g. let a = es s k in let b = w.hours s k in let v = w.found in grind (arith, nat_tests);
          before = take_before;
          some = take_some;
          mine = take_mine;
          used = take_used;
          upper = λ i a b.
              upper_same m n may units _ _ _ _ (w.up i) (w.over i) (λ j k. take_task i j a k) (λ s k. take_hour i s a k)
              (w.upper i (omega arith) b);
          lower = λ i a b.
              lower_same m n may units _ _ _ _ (w.up (suc i)) (w.over (suc i)) (λ j k. take_task i j a k) (λ s k. take_hour i s a k)
              (w.lower i (omega arith) b);
          past = take_past;
          some_den = λ g k.
              elim (cases_eq g e) [
                | inl x ↦ rw (x, eq) q0
                | inr x ↦ (let k' : g < e = omega arith in rw (ed g k') (w.some_den g k'))
              ];
          fall = take_fall;
        }
