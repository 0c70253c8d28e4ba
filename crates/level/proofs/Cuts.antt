-- The cut of a flow that doesn't fit splits a part into a denser and a less dense one; a flow that fits makes it a group.
use Rattle.std.proofs.Common.{◌≡◌, ℕ, ◌*◌, ◌<◌, ◌≤◌, Bool, true, false, cond, not, sym, ap, ◌∙◌, inl, inr, add-mul, arith}
use Rattle.std.proofs.lemmas.Bool.{cases_Bool, cases_eq}
use Rattle.fraction.specs.Sum.{part, size, both, either, without}
use Rattle.fraction.proofs.Sums.{sum_same, sum_zero, sum_tight, sum_at, sum_le, sum_lt, sum_less, sum_some, part_le, part_split, part_swap, part_same_test, part_same_on, part_le_on, part_const, part_mul, any_some, any_none}
use Rattle.flow.specs.Flow.{row, column, Flow}
use Rattle.flow.proofs.Cuts.{fills, strict}
use Rattle.level.specs.Bounds.{Upper, Lower}
use Rattle.level.specs.Cut.{supply, bears, open_to, Splits, Fits}

-- what tasks of q do lies in hours of e, so their rows add up to at most the columns of e
landed_le :
    (m n : ℕ) (f : ℕ → ℕ → ℕ) (q e : ℕ → Bool) →
    ((j s : ℕ) → j < m → s < n → q j ≡ true → 0 < f j s → e s ≡ true) →
    part m q (row n f) ≤ part n e (column m f)
landed_le m n f q e h =
    let a = part_swap m n q f in
    let b =
    sum_le n (λ s. part m q (λ j. f j s)) (λ s. cond (e s) (column m f s) 0)
    (λ s l. elim (cases_Bool (e s)) [
      | inl y ↦ rw y (part_le m q (λ j. f j s))
      | inr z ↦
          (let k = sum_zero m (λ j. cond (q j) (f j s) 0) (λ j i. let w = h j s i l in grind arith) in
          rw z (omega arith))
    ]) in
    omega (arith, a, b)

-- a flow of a part: tasks and hours outside of it have none
module _
    {m n : ℕ} {may : ℕ → ℕ → Bool} {f : ℕ → ℕ → ℕ} (units : ℕ → ℕ) (t h : ℕ → Bool) (p q : ℕ)
    (c : Flow m n may (supply t units q) (bears h p) f) where
  pub ours : (j s : ℕ) → j < m → s < n → 0 < f j s → (t j ≡ true) × (h s ≡ true) × (may j s ≡ true)
  ours j s i l o =
      let a = c.rows j i in
      let b = c.columns s l in
      let g = c.only j s i l in
      let v = sum_at n (f j) s l in
      let w = sum_at m (λ k. f k s) j i in
      (grind arith, grind arith, grind arith)

  -- what a part's tasks do is what its hours bear
  borne : part m t (row n f) ≤ part n h (column m f)
  borne = landed_le m n f t h (λ j s i l y o. (ours j s i l o).1)

-- a flow that fits fills the hours of the part
pub fits_full :
    {m n : ℕ} {may : ℕ → ℕ → Bool} {units : ℕ → ℕ} {t h : ℕ → Bool} {p q : ℕ} {f : ℕ → ℕ → ℕ} →
    Fits m n may units t h p q f → (s : ℕ) → s < n → h s ≡ true → column m f s ≡ p
fits_full {m} {n} {may} {units} {t} {h} {p} {q} {f} c s l y =
    let a = part_same_on m t (row n f) (λ j. units j * q) (λ j i k. let v = c.whole j i in grind arith) in
    let b =
    sum_tight n (λ r. cond (h r) (column m f r) 0) (λ r. cond (h r) p 0)
    (λ r v. let k = c.flow.columns r v in grind arith)
    (omega (arith, c.level, a, borne units t h p q c.flow, part_const n h p, part_mul m t units q)) s l in
    grind arith

module _
    {m n : ℕ} {may : ℕ → ℕ → Bool} {units : ℕ → ℕ} {t h : ℕ → Bool} {p q : ℕ} {f : ℕ → ℕ → ℕ} {u : ℕ → Bool}
    (c : Splits m n may units t h p q f u) where
  -- a task that isn't open to u may use no hour of u
  shut : (j s : ℕ) → s < n → open_to n may u j ≡ false → may j s ≡ true → u s ≡ false
  shut j s l y g = let w = any_none n (both (may j) u) y s l in grind arith

  -- only hours of the part reach room
  inside : (s : ℕ) → s < n → u s ≡ true → h s ≡ true
  inside s l y =
      let r = c.largest.reaches in
      let w =
      r.least (both u h) (record { room = λ v k o. let x = r.roomy.room v k o in grind arith })
      (record {
        back = λ j v k i l1 l2 g y' o.
            let x = r.closed.back j v k i l1 l2 g (grind arith) o in
            let z = (ours units t h p q c.largest.flow j v i l1 o).1 in
            grind arith;
      })
      s l y in
      grind arith

  -- what dense tasks do lies in dense hours
  there : (j s : ℕ) → j < m → s < n → without t (open_to n may u) j ≡ true → 0 < f j s → without h u s ≡ true
  there j s i l y o =
      let w = ours units t h p q c.largest.flow j s i l o in
      let x = w.1 in
      let z = shut j s l (grind arith) w.2 in
      grind arith

  -- dense tasks fill dense hours
  filled : part m (without t (open_to n may u)) (row n f) ≡ size n (without h u) * p
  filled =
      sum_same m _ (λ j. cond (not (open_to n may u j)) (row n f j) 0)
      (λ j i. let w = c.largest.flow.rows j i in grind arith)
      ∙ (fills m n may (supply t units q) (bears h p) f u c.largest
      ∙ (sum_same n _ (λ s. cond (without h u s) p 0) (λ s l. grind arith) ∙ part_const n (without h u) p))

  -- the dense side is at least p / q dense, whatever it is left without
  pub cut_lower : Lower m n may units (without t (open_to n may u)) (without h u) p q
  cut_lower x e k =
      let S : ℕ → Bool = without t (open_to n may u) in
      let R : ℕ → Bool = without h u in
      let a =
      landed_le m n f (both S x) (both R e)
      (λ j s i l y o.
      let w = there j s i l (grind arith) o in
      let g = (ours units t h p q c.largest.flow j s i l o).2 in
      let z = k j s i l (grind arith) (grind arith) w g in
      grind arith) in
      let b =
      part_le_on n (both R e) (column m f) (λ s. p) (λ s l y. let w = c.largest.flow.columns s l in grind arith) in
      let g =
      part_le_on m (without S x) (row n f) (λ j. units j * q) (λ j i y. let w = c.largest.flow.rows j i in grind arith) in
      omega (
        arith,
        a,
        b,
        g,
        filled,
        part_const n (both R e) p,
        part_mul m (without S x) units q,
        part_split m S x (row n f),
        ap (λ v. v * q) (part_split m S x units),
        add-mul (part m (both S x) units) (part m (without S x) units) q,
      )

  -- and keeps the upper bound of the part
  pub upper_within :
      (a b : ℕ) → Upper m n may units t h a b → Upper m n may units (without t (open_to n may u)) (without h u) a b
  upper_within a b w x e k o =
      let S : ℕ → Bool = without t (open_to n may u) in
      let R : ℕ → Bool = without h u in
      let s1 : part m (both t (both S x)) units ≡ part m (both S x) units =
      part_same_test m _ _ units (λ j i. grind arith) in
      let s2 : size n (both h (both R e)) ≡ size n (both R e) =
      part_same_test n _ _ (λ s. 1) (λ s l. grind arith) in
      let r =
      w (both S x) (both R e)
      (λ j s i l y y' v g.
      let a1 = shut j s l (grind arith) g in
      let a2 = k j s i l (grind arith) (grind arith) (grind arith) g in
      grind arith)
      (rw s2 o) in
      rw (s1, s2) at r

  -- the other side is less than p / q dense
  pub cut_upper : Upper m n may units (both t (open_to n may u)) (both h u) p q
  cut_upper x e k o =
      let Q : ℕ → Bool = both (both t (open_to n may u)) x in
      let E : ℕ → Bool = both (both h u) e in
      let s1 : part m Q (supply t units q) ≡ part m Q units * q =
      part_same_on m Q _ (λ j. units j * q) (λ j i y. grind arith) ∙ part_mul m Q units q in
      let s2 : part n (both u E) (bears h p) ≡ size n E * p =
      sum_same n _ (λ s. cond (E s) p 0) (λ s l. grind arith) ∙ part_const n E p in
      let s3 : size n (both u E) ≡ size n E = part_same_test n _ _ (λ s. 1) (λ s l. grind arith) in
      let r =
      strict m n may (supply t units q) (bears h p) f u c.largest Q E (λ j i y. grind arith)
      (λ j s i l y g z.
      let a = inside s l z in
      let b = k j s i l (grind arith) (grind arith) (grind arith) g in
      grind arith)
      (rw s3 o) in
      rw (s1, s2) at r

  -- and keeps the lower bound
  pub lower_outside :
      (a b : ℕ) → Lower m n may units t h a b → Lower m n may units (both t (open_to n may u)) (both h u) a b
  lower_outside a b w x e k =
      let d : ℕ → Bool = open_to n may u in
      let X : ℕ → Bool = either x (λ j. not (d j)) in
      let E : ℕ → Bool = either e (λ s. not (u s)) in
      let r =
      w X E
      (λ j s i l y y' v g.
      elim (cases_Bool (u s)) [
        | inl us ↦
            (let dj : d j ≡ true =
            elim (cases_Bool (d j)) [ inl z ↦ z | inr z ↦ (let f1 = shut j s l z g in absurd (grind arith)) ] in
            let z = k j s i l (grind arith) (grind arith) (grind arith) g in
            grind arith)
        | inr z ↦ grind arith
      ]) in
      let t2 : part m (both (both t X) d) units ≡ part m (both (both t d) x) units =
      part_same_test m _ _ units (λ j i. grind arith) in
      let t3 : part m (without (both t X) d) units ≡ part m (without t d) units =
      part_same_test m _ _ units (λ j i. grind arith) in
      let h2 : size n (both (both h E) u) ≡ size n (both (both h u) e) =
      part_same_test n _ _ (λ s. 1) (λ s l. grind arith) in
      let h3 : size n (without (both h E) u) ≡ size n (without h u) =
      part_same_test n _ _ (λ s. 1) (λ s l. grind arith) in
      omega (
        arith,
        r,
        ap (λ v. v * b) (sym (part_split m (both t X) d units)),
        ap (λ v. v * b) t2,
        ap (λ v. v * b) t3,
        ap (λ v. v * a) (sym (part_split n (both h E) u (λ s. 1))),
        ap (λ v. v * a) h2,
        ap (λ v. v * a) h3,
        ap (λ v. v * b) (part_split m t d units),
        ap (λ v. v * a) (part_split n h u (λ s. 1)),
        add-mul (part m (both (both t X) d) units) (part m (without (both t X) d) units) b,
        add-mul (size n (both (both h E) u)) (size n (without (both h E) u)) a,
        add-mul (part m (both t d) units) (part m (without t d) units) b,
        add-mul (size n (both h u)) (size n (without h u)) a,
      )

  -- something is left unshipped, so the hours of the part aren't all full
  lacking : part m t (row n f) < size n h * p
  lacking =
      let a =
      sum_lt m (λ j. cond (t j) (row n f j) 0) (λ j. cond (t j) (units j * q) 0)
      (λ j i. let w = c.largest.flow.rows j i in grind arith) c.task c.within
      (let w = c.short in grind arith) in
      omega (arith, a, c.level, part_mul m t units q)

  -- each task may use an hour of its own side
  pub cut_mine :
      (j : ℕ) → both t (open_to n may u) j ≡ true → (s : ℕ) × (s < n) × (may j s ≡ true) × (both h u s ≡ true)
  cut_mine j y =
      let r = any_some n (both (may j) u) (grind arith) in
      let v = r.2 in
      let w = inside r.0 r.1 (grind arith) in
      (r.0, r.1, grind arith, grind arith)

  pub cut_mine_dense :
      (j s : ℕ) → s < n → without t (open_to n may u) j ≡ true → may j s ≡ true → h s ≡ true → without h u s ≡ true
  cut_mine_dense j s l y g z = let w = shut j s l (grind arith) g in grind arith

  -- each hour may be used by a task of its own side
  pub cut_used :
      (j s : ℕ) → s < n → t j ≡ true → may j s ≡ true → both h u s ≡ true → both t (open_to n may u) j ≡ true
  cut_used j s l y g z =
      elim (cases_Bool (open_to n may u j)) [
        | inl w ↦ grind arith
        | inr w ↦ (let v = shut j s l w g in absurd (grind arith))
      ]

  pub cut_used_dense :
      (s : ℕ) → s < n → without h u s ≡ true →
      (j : ℕ) × (j < m) × (may j s ≡ true) × (without t (open_to n may u) j ≡ true)
  cut_used_dense s l y =
      let a = c.largest.full s l (grind arith) in
      let p0 : 0 < p =
      elim (cases_eq p 0) [ inl z ↦ absurd (omega (arith, lacking, ap (λ v. size n h * v) z)) | inr z ↦ omega arith ] in
      let r = sum_some m (λ j. f j s) (grind arith) in
      let o = r.2 in
      let w = ours units t h p q c.largest.flow r.0 s r.1 l o in
      let w0 = w.0 in
      let g = c.largest.own r.0 s r.1 l (grind arith) o in
      (r.0, r.1, w.2, grind arith)

  -- the dense side is a proper part: some hour of the part has room
  pub cut_proper : (s : ℕ) × (s < n) × (both h u s ≡ true)
  cut_proper =
      let a = landed_le n m (λ s j. f j s) h t (λ s j l i y o. (ours units t h p q c.largest.flow j s i l o).0) in
      let r =
      sum_less n (λ s. cond (h s) (column m f s) 0) (λ s. cond (h s) p 0) (omega (arith, a, lacking, part_const n h p)) in
      let o = r.2 in
      let hs : h r.0 ≡ true = grind arith in
      let w = c.largest.reaches.roomy.room r.0 r.1 in
      (r.0, r.1, grind arith)

  -- and has an hour, if each task may use one of the part
  pub cut_some :
      ((j : ℕ) → j < m → t j ≡ true → (s : ℕ) × (s < n) × (may j s ≡ true) × (h s ≡ true)) →
      (s : ℕ) × (s < n) × (without h u s ≡ true)
  cut_some mine =
      let j = c.task in
      let o = c.short in
      let k = c.largest.shipped j c.within in
      let tj : t j ≡ true = grind arith in
      let dj : open_to n may u j ≡ false = grind arith in
      let v = mine j c.within tj in
      (v.0, v.1, cut_mine_dense j v.0 v.1 (grind arith) v.2 v.3)
