-- What a step makes of the groups and parts that the code holds.
use Rattle.std.proofs.Common.{◌≡◌, ℕ, suc, ◌<◌, ◌≤◌, Bool, true, cond, List, length, get_or, sym, refl, ap, ◌∙◌, subst, inl, inr, arith}
use mathlib.Core.Path.{fun_ext}
use Rattle.std.proofs.lemmas.Bool.{cases_eq, cases_lt, cases_Bool}
use Rattle.std.proofs.lemmas.Bool.Decides.{nat_tests}
use Rattle.fraction.specs.declared.exact.Fraction.{Fraction}
use Rattle.fraction.specs.Sum.{size, both, without}
use Rattle.fraction.proofs.Sums.{part_same_test, sum_tail, size_le}
use Rattle.sets.specs.declared.hours.Hours.{Hours}
use Rattle.night.specs.declared.task.Task.{Task}
use Rattle.sets.specs.Hours.{has, blank}
use Rattle.night.specs.Task.{units, may}
use Rattle.level.specs.declared.parts.Parts.{Parts}
use Rattle.level.specs.Cut.{open_to, Splits, Fits}
use Rattle.level.specs.Parts.{nought, num, den, label, amount, State, Held, Top, top_tasks, top_hours}
use Rattle.level.specs.Change.{Split, Taken}
use Rattle.level.specs.Gathered.{scattered}
use Rattle.level.specs.Row.{Written}
use Rattle.level.specs.Stack.{is}
use Rattle.level.proofs.Amounts.{amounts_kept, amounts_more}
use Rattle.level.proofs.Stack.{some_size}
use Rattle.level.proofs.Steps.{split, split_room, split_less, take}

-- the hours of a label that is in use
module _
    {ts : List Task} {e t : ℕ} {hs : List Hours} {lv : List Fraction} {of plan : List ℕ} (w : State ts e t hs lv of plan)
    (i : ℕ) (l : i < 96) (k : e ≤ i → t ≤ i) where
  state_hours : has (get_or hs i blank) ≡ is w.at i
  state_hours = fun_ext (w.sets i l k)

  state_low : (s : ℕ) → has (get_or hs i blank) s ≡ true → s < 96
  state_low s y =
      let a = w.sets i l k s in
      elim (cases_lt s 96) [
        | inl g ↦ g
        | inr g ↦ (let b = w.far s g in absurd (grind (arith, nat_tests)))
      ]

  state_some : 0 < size 96 (has (get_or hs i blank))
  state_some = rw state_hours (some_size w.stack i l k)

pub held_top : (ts : List Task) (p : Parts) (plan : List ℕ) → Held ts p plan → p.top < 96 → Top p
held_top ts p plan w l =
    record {
      waits = l;
      labels = w.labels;
      rows = w.rows;
      low = state_low w p.top l (λ g. omega arith);
      some = state_some w p.top l (λ g. omega arith);
    }

-- a cut of the part on top
module _
    {ts : List Task} {e t : ℕ} {hs : List Hours} {lv : List Fraction} {of plan : List ℕ}
    (w : State ts e t hs lv of plan) (l : t < 96) {p q : ℕ} {f : ℕ → ℕ → ℕ} {u : ℕ → Bool}
    (c : Splits (length ts) 96 (may ts) (units ts) (is (label of) t) (has (get_or hs t blank)) p q f u) where
  cuts : Splits (length ts) 96 (may ts) (units ts) (is (label of) t) (is w.at t) p q f u
  cuts =
      subst (λ h. Splits (length ts) 96 (may ts) (units ts) (is (label of) t) h p q f u) (state_hours w t l (λ g. omega arith)) c

  -- a label is free for its dense side
  pub split_below : e < t
  split_below = split_room w.stack l cuts (omega arith)

  -- which has fewer hours
  pub split_fewer :
      (h : ℕ → Bool) → ((s : ℕ) → h s ≡ without (has (get_or hs t blank)) u s) → size 96 h < size 96 (has (get_or hs t blank))
  split_fewer h dense =
      let same = state_hours w t l (λ g. omega arith) in
      let a : size 96 h ≡ size 96 (without (is w.at t) u) =
      part_same_test 96 _ _ (λ s. 1) (λ s k. dense s ∙ ap (λ x. without x u s) same) in
      rw (a, same) (split_less w.stack l cuts)

-- the part v + 1 on top is split
module _
    {ts : List Task} {e v : ℕ} {hs : List Hours} {lv : List Fraction} {of plan : List ℕ}
    (w : State ts e (suc v) hs lv of plan) (l : suc v < 96) {p q : ℕ} {f : ℕ → ℕ → ℕ} {u : ℕ → Bool}
    (c : Splits (length ts) 96 (may ts) (units ts) (is (label of) (suc v)) (has (get_or hs (suc v) blank)) p q f u)
    (hs' : List Hours) (of' : List ℕ)
    (ej : (j : ℕ) → j < length ts → label of' j ≡ cond (without (is (label of) (suc v)) (open_to 96 (may ts) u) j) v (label of j))
    (dense : (s : ℕ) → has (get_or hs' v blank) s ≡ without (has (get_or hs (suc v) blank)) u s)
    (other : (s : ℕ) → has (get_or hs' (suc v) blank) s ≡ both (has (get_or hs (suc v) blank)) u s)
    (rest : (i : ℕ) → (i ≡ suc v → ⊥) → (i ≡ v → ⊥) → get_or hs' i blank ≡ get_or hs i blank) where
  at' : ℕ → ℕ
  at' s = cond (without (is w.at (suc v)) u s) v (w.at s)

  split_free : e ≤ v
  split_free = let a = split_below w l c in omega arith

  not_v : (s : ℕ) → w.at s ≡ v → ⊥
  not_v s y =
      let g = split_free in
      elim (cases_lt s 96) [
        | inl k ↦ (let a = w.stack.hours s k (omega arith) in omega arith)
        | inr k ↦ (let a = w.far s k in omega arith)
      ]

  sets_split :
      (i : ℕ) → i < 96 → (e ≤ i → v ≤ i) → (s : ℕ) → has (get_or hs' i blank) s ≡ is at' i s
  unfolding at'
  sets_split i b k s =
      let top = w.sets (suc v) l (λ g. omega arith) s in
      elim (cases_eq i v) [
        | inl x ↦ rw x (dense s ∙ (let n = not_v s in grind (arith, nat_tests)))
        | inr x ↦
            elim (cases_eq i (suc v)) [
              | inl y ↦ rw y (other s ∙ grind (arith, nat_tests))
              | inr y ↦
                  ap (λ h. has h s) (rest i y x)
                  ∙ (w.sets i b (λ g. let k' = k g in omega arith) s ∙ grind (arith, nat_tests))
            ]
      ]

  held_split : length of' ≡ 200 → length hs' ≡ 96 → State ts e v hs' lv of' plan
  unfolding at'
  held_split labels rows =
      record {
        at = at';
        stack = split w.stack l (omega arith) (cuts w l c) (label of') at' ej (λ s k. refl);
        amounts =
            amounts_kept (label of') at' w.amounts
            (λ j i k. let a = ej j i in let g = split_free in grind (arith, nat_tests))
            (λ j i k. let a = ej j i in let g = split_free in grind (arith, nat_tests))
            (λ s i k. let g = split_free in grind (arith, nat_tests)) (λ s i k. let g = split_free in grind (arith, nat_tests));
        sets = sets_split;
        far = λ s k. let a = w.far s k in grind (arith, nat_tests);
        small = w.small;
        labels = labels;
        groups = w.groups;
        rows = rows;
      }

-- a step that splits
pub step_split :
    (ts : List Task) (p p' : Parts) (plan : List ℕ) (a b : ℕ) (f : ℕ → ℕ → ℕ) (u : ℕ → Bool) → Held ts p plan → p.top < 96 →
    Splits (length ts) 96 (may ts) (units ts) (top_tasks p) (top_hours p) a b f u → Split ts u p p' → Held ts p' plan
step_split ts p p' plan a b f u w l c d =
    let t = p.top in
    let e : t ≡ suc p'.top = omega (arith, d.top) in
    let w' : State ts p.found (suc p'.top) p.hours p.levels p.of plan =
    subst (λ x. State ts p.found x p.hours p.levels p.of plan) e w in
    let c' :
    Splits (length ts) 96 (may ts) (units ts) (is (label p.of) (suc p'.top)) (has (get_or p.hours (suc p'.top) blank)) a b f u =
    subst (λ x. Splits (length ts) 96 (may ts) (units ts) (is (label p.of) x) (has (get_or p.hours x blank)) a b f u) e c in
    let r =
    held_split w' (omega arith) c' p'.hours p'.of
    (subst
    (λ x.
    (j : ℕ) → j < length ts →
    label p'.of j ≡ cond (without (is (label p.of) x) (open_to 96 (may ts) u) j) p'.top (label p.of j))
    e d.tasks)
    (subst (λ x. (s : ℕ) → has (get_or p'.hours p'.top blank) s ≡ without (has (get_or p.hours x blank)) u s) e d.dense)
    (subst (λ x. (s : ℕ) → has (get_or p'.hours x blank) s ≡ both (has (get_or p.hours x blank)) u s) e d.other)
    (subst (λ x. (i : ℕ) → (i ≡ x → ⊥) → (i ≡ p'.top → ⊥) → get_or p'.hours i blank ≡ get_or p.hours i blank) e d.rest)
    d.labels d.rows in
    subst (λ x. State ts x p'.top p'.hours p'.levels p'.of plan) (sym d.found)
    (subst (λ x. State ts p.found p'.top p'.hours x p'.of plan) (sym d.levels) r)

-- the part on top is taken as the next group
module _
    {ts : List Task} {e t : ℕ} {hs : List Hours} {lv : List Fraction} {of plan : List ℕ} (w : State ts e t hs lv of plan) (l : t < 96)
    {level : Fraction} {f : ℕ → ℕ → ℕ}
    (c : Fits (length ts) 96 (may ts) (units ts) (is (label of) t) (has (get_or hs t blank)) level.num level.den f)
    (small : level.den ≤ 96) (hs' : List Hours) (lv' : List Fraction) (of' plan' : List ℕ)
    (ej : (j : ℕ) → j < length ts → label of' j ≡ cond (is (label of) t j) e (label of j))
    (group : get_or hs' e blank ≡ get_or hs t blank) (rest : (i : ℕ) → (i ≡ e → ⊥) → get_or hs' i blank ≡ get_or hs i blank)
    (ep : get_or lv' e nought ≡ level) (el : (g : ℕ) → (g ≡ e → ⊥) → get_or lv' g nought ≡ get_or lv g nought)
    (ea : (j s : ℕ) → j < length ts → s < 96 → amount plan' j s ≡ cond (is (label of) t j) (f j s) (amount plan j s)) where
  fit : Fits (length ts) 96 (may ts) (units ts) (is (label of) t) (is w.at t) level.num level.den f
  fit =
      subst (λ h. Fits (length ts) 96 (may ts) (units ts) (is (label of) t) h level.num level.den f)
      (state_hours w t l (λ g. omega arith)) c

  at'' : ℕ → ℕ
  at'' s = cond (is w.at t s) e (w.at s)

  new_num : (g : ℕ) → g < e → num lv' g ≡ num lv g
  new_num g k = ap (λ x. x.num) (el g (λ y. omega arith))

  new_den : (g : ℕ) → g < e → den lv' g ≡ den lv g
  new_den g k = ap (λ x. x.den) (el g (λ y. omega arith))

  pub held_take : length of' ≡ 200 → length lv' ≡ 96 → length hs' ≡ 96 → State ts (suc e) (suc t) hs' lv' of' plan'
  unfolding at''
  held_take labels groups rows =
      record {
        at = at'';
        stack =
            take w.stack l level.num level.den level.some fit.level (label of') at'' (num lv') (den lv') ej (λ s k. refl)
            new_num new_den (ap (λ x. x.num) ep) (ap (λ x. x.den) ep);
        amounts =
            amounts_more w.stack w.amounts fit (label of') at'' (num lv') (den lv') (amount plan') ej (λ s k. refl)
            new_num new_den (ap (λ x. x.num) ep) (ap (λ x. x.den) ep) (λ j s i k o. ea j s i k);
        sets = λ i b k s.
            let o = w.stack.found in
            elim (cases_eq i e) [
              | inl x ↦
                  rw x
                  (ap (λ h. has h s) group
                  ∙ (w.sets t l (λ g. omega arith) s
                  ∙ elim (cases_lt s 96) [
                    | inl y ↦ (let a = w.stack.hours s y in grind (arith, nat_tests))
                    | inr y ↦ (let a = w.far s y in grind (arith, nat_tests))
                  ]))
              | inr x ↦
                  ap (λ h. has h s) (rest i x)
                  ∙ (w.sets i b (λ g. let k' = k (omega arith) in omega arith) s
                  ∙ (let k' = k in grind (arith, nat_tests)))
            ];
        far = λ s k. let a = w.far s k in grind (arith, nat_tests);
        small = λ g k.
            elim (cases_eq g e) [
              | inl x ↦ rw x (let z : den lv' e ≡ level.den = ap (λ y. y.den) ep in omega arith)
              | inr x ↦
                  (let z : den lv' g ≡ den lv g = ap (λ y. y.den) (el g x) in
                  let b = w.small g (omega arith) in
                  omega arith)
            ];
        labels = labels;
        groups = groups;
        rows = rows;
      }

-- a step that takes
pub step_take :
    (ts : List Task) (p p' : Parts) (plan plan' : List ℕ) (level : Fraction) (f : ℕ → ℕ → ℕ) → Held ts p plan → p.top < 96 →
    Fits (length ts) 96 (may ts) (units ts) (top_tasks p) (top_hours p) level.num level.den (scattered (top_tasks p) f) →
    level.den ≤ 96 → Taken (length ts) level p p' → Written (length ts) (top_tasks p) f plan plan' → Held ts p' plan'
step_take ts p p' plan plan' level f w l c small d a =
    let r =
    held_take w l c small p'.hours p'.levels p'.of plan' d.tasks d.group d.rest d.level_at d.levels
    a.rows d.labels d.groups d.rows in
    let e : suc p.found ≡ p'.found = omega (arith, d.found) in
    let e' : suc p.top ≡ p'.top = omega (arith, d.top) in
    subst (λ x. State ts x p'.top p'.hours p'.levels p'.of plan') e
    (subst (λ x. State ts (suc p.found) x p'.hours p'.levels p'.of plan') e' r)

-- tasks that may use hours below n only have parts with at most n hours
pub state_few :
    (ts : List Task) (p : Parts) (plan : List ℕ) (n : ℕ) → Held ts p plan → p.top < 96 →
    ((j s : ℕ) → j < length ts → may ts j s ≡ true → s < n) → n ≤ 96 → size 96 (top_hours p) ≤ n
state_few ts p plan n w l low le =
    let t = p.top in
    let a =
    sum_tail n 96 (λ s. cond {A = ℕ} (top_hours p s) 1 0) le
    (λ s g h.
    elim (cases_Bool (top_hours p s)) [
      | inl y ↦
          (let b = w.sets t l (λ x. omega arith) s in
          let b' : w.at s ≡ t = grind (arith, nat_tests) in
          let r = w.stack.used s h (omega arith) in
          let k = low r.0 s r.1 r.2 in
          absurd (omega arith))
      | inr z ↦ rw z refl
    ]) in
    omega (arith, a, size_le n (top_hours p))
