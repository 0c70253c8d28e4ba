-- The amounts of the groups found so far, and the search from its start to its end.
use Rattle.std.proofs.Common.{◌≡◌, ℕ, suc, ◌*◌, ◌<◌, ◌≤◌, Bool, true, false, cond, eqb, sym, ◌∙◌, inl, inr, arith}
use Rattle.std.proofs.lemmas.Bool.Decides.{nat_tests}
use Rattle.std.proofs.lemmas.Bool.{cases_eq, cases_lt, eq-eqb, ne_eqb}
use Rattle.fraction.specs.Sum.{sum, part, any, both}
use Rattle.fraction.proofs.Sums.{sum_same, sum_tail, part_mono, any_some, any_has}
use Rattle.flow.specs.Flow.{row}
use Rattle.even.specs.Day.{Day}
use Rattle.even.specs.Grouped.{Grouped}
use Rattle.level.specs.Cut.{Fits}
use Rattle.level.specs.Stack.{is, Stack, Amounts}
use Rattle.level.proofs.Cuts.{fits_full, ours}

-- labels from e on may change among themselves
pub amounts_kept :
    {m n : ℕ} {may : ℕ → ℕ → Bool} {units of at num den : ℕ → ℕ} {e : ℕ} {a : ℕ → ℕ → ℕ} (of' at' : ℕ → ℕ) →
    Amounts m n may units of at num den e a →
    ((j : ℕ) → j < m → of j < e → of' j ≡ of j) → ((j : ℕ) → j < m → e ≤ of j → e ≤ of' j) →
    ((s : ℕ) → s < n → at s < e → at' s ≡ at s) → ((s : ℕ) → s < n → e ≤ at s → e ≤ at' s) →
    Amounts m n may units of' at' num den e a
amounts_kept {m} {n} {may} {units} {of} {at} {num} {den} {e} {a} of' at' w ej ej' es es' =
    record {
      all = λ j i k. let g = low j i k in rw (ej j i g) (w.all j i g);
      only = λ j s i l k y. w.only j s i l (low j i k) y;
      own = λ j s i l k o.
          let g = low j i k in
          let x = w.own j s i l g o in
          es s l (omega arith) ∙ (x ∙ sym (ej j i g));
      full = λ s l k.
          let g : at s < e = elim (cases_lt (at s) e) [ inl x ↦ x | inr x ↦ (let y = es' s l x in absurd (omega arith)) ] in
          let b = es s l g in
          rw b
          (sum_same m _ (λ j. cond (is of (at s) j) (a j s) 0)
          (λ j i. let c = ej j i in let d = ej' j i in grind (arith, nat_tests))
          ∙ w.full s l g);
    }
  where
    low : (j : ℕ) → j < m → of' j < e → of j < e
    low j i k = elim (cases_lt (of j) e) [ inl x ↦ x | inr x ↦ (let y = ej' j i x in absurd (omega arith)) ]

-- the part t is taken as group e, with the amounts f of a flow that fits
module _
    {m n : ℕ} {may : ℕ → ℕ → Bool} {units of at num den : ℕ → ℕ} {e t z p q : ℕ} {a f : ℕ → ℕ → ℕ}
    (w : Stack m n may units of at num den e t z) (v : Amounts m n may units of at num den e a)
    (c : Fits m n may units (is of t) (is at t) p q f) (of' at' num' den' : ℕ → ℕ) (a' : ℕ → ℕ → ℕ)
    (ej : (j : ℕ) → j < m → of' j ≡ cond (is of t j) e (of j))
    (es : (s : ℕ) → s < n → at' s ≡ cond (is at t s) e (at s))
    (en : (g : ℕ) → g < e → num' g ≡ num g) (ed : (g : ℕ) → g < e → den' g ≡ den g) (ep : num' e ≡ p) (eq : den' e ≡ q)
    (ea : (j s : ℕ) → j < m → s < n → of' j ≤ e → a' j s ≡ cond (is of t j) (f j s) (a j s)) where
  new : (j : ℕ) → j < m → of j ≡ t → of' j ≡ e
  new j i g = let x = ej j i in grind (arith, nat_tests)

  old : (j : ℕ) → j < m → (of j ≡ t → ⊥) → of' j < suc e → (of' j ≡ of j) × (of j < e)
  old j i g k =
      let x = ej j i in
      let y = w.tasks j i in
      let z' = w.found in
      let d : of' j ≡ of j = grind (arith, nat_tests) in
      (d, grind arith)

  new_amount : (j s : ℕ) → j < m → s < n → of j ≡ t → a' j s ≡ f j s
  new_amount j s i l g = let b = new j i g in let x = ea j s i l (omega arith) in grind (arith, nat_tests)

  old_amount : (j s : ℕ) → j < m → s < n → (of j ≡ t → ⊥) → of' j < suc e → a' j s ≡ a j s
  old_amount j s i l g k = let x = ea j s i l (omega arith) in grind (arith, nat_tests)

  more_all : (j : ℕ) → j < m → of' j < suc e → sum n (a' j) ≡ units j * den' (of' j)
  more_all j i k =
      elim (cases_eq (of j) t) [
        | inl g ↦
            (let d = c.whole j i in
            let b = eq-eqb (of j) t g in
            let d' : row n f j ≡ units j * q = grind arith in
            rw (new j i g, eq) (sum_same n (a' j) (f j) (λ s l. new_amount j s i l g) ∙ d'))
        | inr g ↦
            (let b = old j i g k in
            rw (b.0, ed (of j) b.1) (sum_same n (a' j) (a j) (λ s l. old_amount j s i l g k) ∙ v.all j i b.1))
      ]

  more_only : (j s : ℕ) → j < m → s < n → of' j < suc e → may j s ≡ false → a' j s ≡ 0
  more_only j s i l k y =
      elim (cases_eq (of j) t) [
        | inl g ↦ new_amount j s i l g ∙ c.flow.only j s i l y
        | inr g ↦ old_amount j s i l g k ∙ v.only j s i l (old j i g k).1 y
      ]

  more_own : (j s : ℕ) → j < m → s < n → of' j < suc e → 0 < a' j s → at' s ≡ of' j
  more_own j s i l k o =
      let x = es s l in
      elim (cases_eq (of j) t) [
        | inl g ↦
            (let d = new_amount j s i l g in
            let b = (ours units (is of t) (is at t) p q c.flow j s i l (omega arith)).1 in
            let n1 = new j i g in
            grind (arith, nat_tests))
        | inr g ↦
            (let d = old_amount j s i l g k in
            let b = old j i g k in
            let b0 = b.0 in
            let y = v.own j s i l b.1 (omega arith) in
            grind (arith, nat_tests))
      ]

  more_full : (s : ℕ) → s < n → at' s < suc e → part m (is of' (at' s)) (λ j. a' j s) ≡ num' (at' s)
  more_full s l k =
      let x = es s l in
      let z' = w.found in
      elim (cases_eq (at s) t) [
        | inl g ↦
            (let d : at' s ≡ e = grind (arith, nat_tests) in
            rw (d, ep)
            (sum_same m _ (λ j. f j s)
            (λ j i.
            elim (cases_eq (of j) t) [
              | inl h ↦ (let n1 = new j i h in let n2 = new_amount j s i l h in grind (arith, nat_tests))
              | inr h ↦
                  (let n1 = ej j i in
                  let n2 = w.tasks j i in
                  let n3 = ours units (is of t) (is at t) p q c.flow j s i l in
                  elim (cases_eq (f j s) 0) [
                    | inl o ↦ grind (arith, nat_tests)
                    | inr o ↦ (let n4 = (n3 (omega arith)).0 in absurd (grind (arith, nat_tests)))
                  ])
            ])
            ∙ fits_full c s l (eq-eqb (at s) t g)))
        | inr g ↦
            (let d : at' s ≡ at s = grind (arith, nat_tests) in
            let y = w.hours s l in
            let h : at s < e = grind arith in
            rw (d, en (at s) h)
            (sum_same m _ (λ j. cond (is of (at s) j) (a j s) 0)
            (λ j i.
            elim (cases_eq (of j) t) [
              | inl o ↦ (let n1 = new j i o in grind (arith, nat_tests))
              | inr o ↦
                  (let n1 = ej j i in
                  let n2 = old_amount j s i l o in
                  grind (arith, nat_tests))
            ])
            ∙ v.full s l h))
      ]

  pub amounts_more : Amounts m n may units of' at' num' den' (suc e) a'
  amounts_more = record { all = more_all; only = more_only; own = more_own; full = more_full }

-- all of the tasks wait as one part at first, with the hours that they may use; where there is no task, nothing waits
pub start :
    {m n : ℕ} {may : ℕ → ℕ → Bool} {units of at : ℕ → ℕ} {v : ℕ} (num den : ℕ → ℕ) →
    ((j : ℕ) → j < m → (s : ℕ) × (s < n) × (may j s ≡ true)) → 0 < m → ((j : ℕ) → j < m → of j ≡ v) →
    ((s : ℕ) → s < n → at s ≡ cond (any m (λ j. may j s)) v (suc v)) →
    Stack m n may units of at num den 0 v (suc v)
start {m} {n} {may} {units} {of} {at} {v} num den mine some ej es =
    record {
      up = λ i. cond (eqb i v) 1 0;
      over = λ i. cond (eqb i v) 0 1;
      found = omega arith;
      ends = omega arith;
      tasks = λ j i k. let a = ej j i in omega arith;
      last = λ j i. let a = ej j i in omega arith;
      hours = λ s l k. let a = es s l in grind arith;
      before = λ j s i l y.
          let a = ej j i in
          let b = es s l in
          let c = any_has m (λ k. may k s) j i y in
          grind arith;
      some = λ i l k.
          let r = mine 0 some in
          let b = es r.0 r.1 in
          let c = any_has m (λ j. may j r.0) 0 some r.2 in
          let d = k (omega arith) in
          (r.0, r.1, grind arith);
      mine = λ j i.
          let r = mine j i in
          let a = ej j i in
          let b = es r.0 r.1 in
          let c = any_has m (λ k. may k r.0) j i r.2 in
          (r.0, r.1, r.2, grind arith);
      used = λ s l k.
          let b = es s l in
          let y : any m (λ j. may j s) ≡ true = grind arith in
          let r = any_some m (λ j. may j s) y in
          let a = ej r.0 r.1 in
          (r.0, r.1, r.2, grind arith);
      upper = λ i k l q e g o.
          let a : i ≡ v = omega arith in
          let b = eq-eqb i v a in
          rw b (omega arith);
      lower = λ i k l q e g.
          let a : (suc i ≡ v → ⊥) = λ x. omega arith in
          let b = ne_eqb (suc i) v a in
          let c = part_mono m (both (is of i) q) (is of i) units (λ j x y. grind arith) in
          rw b (omega arith);
      past = λ g k. absurd (omega arith);
      some_den = λ g k. absurd (omega arith);
      fall = λ g h k l. absurd (omega arith);
    }

pub start_none :
    {n : ℕ} {may : ℕ → ℕ → Bool} {units of at : ℕ → ℕ} {z : ℕ} (num den : ℕ → ℕ) →
    ((s : ℕ) → s < n → z ≤ at s) → Stack 0 n may units of at num den 0 z z
start_none {n} {may} {units} {of} {at} {z} num den es =
    record {
      up = λ i. 0;
      over = λ i. 0;
      found = omega arith;
      ends = omega arith;
      tasks = λ j i k. absurd (omega arith);
      last = λ j i. absurd (omega arith);
      hours = λ s l k. es s l;
      before = λ j s i l y. absurd (omega arith);
      some = λ i l k. let d = k (omega arith) in absurd (omega arith);
      mine = λ j i. absurd (omega arith);
      used = λ s l k. let b = es s l in absurd (omega arith);
      upper = λ i k l q e g o. absurd (omega arith);
      lower = λ i k l q e g. absurd (omega arith);
      past = λ g k. absurd (omega arith);
      some_den = λ g k. absurd (omega arith);
      fall = λ g h k l. absurd (omega arith);
    }

-- no group is found yet, so nothing is said of amounts
pub amounts_none :
    {m n : ℕ} {may : ℕ → ℕ → Bool} {units of at num den : ℕ → ℕ} {a : ℕ → ℕ → ℕ} → Amounts m n may units of at num den 0 a
amounts_none =
    record {
      all = λ j i k. absurd (omega arith);
      only = λ j s i l k y. absurd (omega arith);
      own = λ j s i l k o. absurd (omega arith);
      full = λ s l k. absurd (omega arith);
    }

-- nothing waits any more: the groups found are those of the day
pub grouped :
    (y : Day) {n : ℕ} {of at num den : ℕ → ℕ} {e z : ℕ} {a : ℕ → ℕ → ℕ} →
    Stack y.tasks n y.may y.work of at num den e z z → Amounts y.tasks n y.may y.work of at num den e a →
    y.hours ≤ n → ((j s : ℕ) → j < y.tasks → s < n → y.hours ≤ s → y.may j s ≡ false) →
    ((g : ℕ) → g < e → den g ≤ 255) → Grouped y e num den of at a
grouped y {n} {of} {at} {num} {den} {e} {z} {a} w v short late small =
    record {
      some = some;
      over = w.some_den;
      small = small;
      fall = w.fall;
      all = λ j i.
          let o = some j i in
          sym (sum_tail y.hours n (a j) short (λ s k l. v.only j s i l o (late j s i l k))) ∙ v.all j i o;
      only = λ j s i l. v.only j s i (omega arith) (some j i);
      own = λ j s i l. v.own j s i (omega arith) (some j i);
      full = λ s l k.
          let l' : s < n = omega arith in
          sum_same y.tasks _ _
          (λ j i. let b = v.own j s i l' (some j i) in let o = cases_eq (a j s) 0 in grind (arith, nat_tests))
          ∙ v.full s l' k;
      before = λ j s i l. w.before j s i (omega arith);
    }
  where
    some : (j : ℕ) → j < y.tasks → of j < e
    some j i = let a = w.tasks j i in let b = w.last j i in grind arith
