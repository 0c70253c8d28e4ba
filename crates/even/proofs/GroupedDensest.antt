-- Each group is the densest of what is left when it is found, of equals the one with the most hours.
use Rattle.std.proofs.Common.{◌≡◌, ℕ, ◌*◌, ◌/◌, ◌<◌, ◌≤◌, Bool, true, false, cond, ◌&&◌, sym, refl, ap, ◌∙◌, inl, inr, mul-le-mul_right, mul_assoc, zero-mul, mul_right_comm, le_of_mul-le-mul_right, arith}
use Rattle.std.proofs.lemmas.Bool.Decides.{nat_tests}
use Rattle.std.proofs.lemmas.Bool.{cases_eq, cases_lt, cases_Bool, and_parts, and_from, eqb-true, eq-eqb, ne_eqb, leb-true, le-leb}
use Rattle.fraction.specs.Sum.{sum, part, size, both}
use Rattle.fraction.proofs.Sums.{sum_same, sum_le, sum_mul, sum_zero, sum_some, sum_tight, part_le, part_mul, part_swap, part_same_on, part_same_test, part_const, any_some, any_has}
use Rattle.even.specs.Day.{Day, load}
use Rattle.even.specs.Whole.{whole}
use Rattle.even.specs.Grouped.{Grouped, spread, reach, within, left, Densest, FirstDensest}
use Rattle.even.proofs.Shares.{whole_some}
use Rattle.even.proofs.GroupedEven.{grouped_plan, load_under, load_less}

module _ {y : Day} {k : ℕ} {num den group at : ℕ → ℕ} {a : ℕ → ℕ → ℕ} (w : Grouped y k num den group at a) (g : ℕ) (found : g < k) where
  -- what the group's tasks add to an hour
  group_column : (s : ℕ) → s < y.hours → part y.tasks (within group g) (λ j. a j s) ≡ cond (within at g s) (num g) 0
  group_column s l =
      elim (cases_eq (at s) g) [
        | inl e ↦
            rw (eq-eqb (at s) g e)
            (sum_same y.tasks _ (λ j. a j s)
            (λ j lj. elim (cases_lt 0 (a j s)) [
              | inl some ↦ (let o = w.own j s lj l some in grind (arith, nat_tests))
              | inr none ↦ grind (arith, nat_tests)
            ])
            ∙ (w.full s l (omega arith) ∙ ap num e))
        | inr ne ↦
            rw (ne_eqb (at s) g ne)
            (sum_zero y.tasks (λ j. cond (within group g j) (a j s) 0)
            (λ j lj. elim (cases_lt 0 (a j s)) [
              | inl some ↦ (let o = w.own j s lj l some in grind (arith, nat_tests))
              | inr none ↦ grind (arith, nat_tests)
            ]))
      ]

  group_weighs : part y.tasks (within group g) y.work * den g ≡ size y.hours (within at g) * num g
  group_weighs =
      sym (part_mul y.tasks (within group g) y.work (den g))
      ∙ (part_same_on y.tasks (within group g) (λ j. y.work j * den g) (λ j. sum y.hours (a j))
      (λ j l e. ap (λ h. y.work j * den h) (sym (eqb-true (group j) g e)) ∙ sym (w.all j l))
      ∙ (part_swap y.tasks y.hours (within group g) a
      ∙ (sum_same y.hours _ (λ s. cond (within at g s) (num g) 0) group_column
      ∙ part_const y.hours (within at g) (num g))))

  -- an hour that a set of tasks may use is of a group, none after all of theirs
  reached : (q : ℕ → Bool) (s : ℕ) → s < y.hours → reach y q s ≡ true →
      (j : ℕ) × (j < y.tasks) × (q j ≡ true) × (at s ≤ group j)
  reached q s l r =
      let m = any_some y.tasks (λ j. q j && y.may j s) r in
      let b = and_parts (q m.0) (y.may m.0 s) m.2 in
      (m.0, m.1, b.0, w.before m.0 s m.1 l b.1)

  group_uses : (s : ℕ) → s < y.hours → left at g s ≡ true → reach y (within group g) s ≡ true → at s ≡ g
  group_uses s l f r =
      let m = reached (within group g) s l r in
      omega (arith, leb-true g (at s) f, eqb-true (group m.0) g m.2, m.3)

  -- a task done in an hour may use it
  done_may : (j s : ℕ) → j < y.tasks → s < y.hours → 0 < a j s → y.may j s ≡ true
  done_may j s lj l some =
      elim (cases_Bool (y.may j s)) [ inl t ↦ t | inr f ↦ absurd (omega (arith, w.only j s lj l f)) ]

  group_used : (s : ℕ) → s < y.hours → at s ≡ g → 0 < num g → reach y (within group g) s ≡ true
  group_used s l e some =
      let m = sum_some y.tasks (λ j. a j s) (omega (arith, w.full s l (omega arith), ap num e)) in
      any_has y.tasks (λ j. within group g j && y.may j s) m.0 m.1
      (and_from _ _ (eq-eqb (group m.0) g (omega (arith, w.own m.0 s m.1 l m.2))) (done_may m.0 s m.1 l m.2))

  -- a set of tasks that are left
  module _ (q : ℕ → Bool) (rest : (j : ℕ) → j < y.tasks → q j ≡ true → g ≤ group j) where
    -- what the set adds to an hour
    column : ℕ → ℕ
    column s = part y.tasks q (λ j. spread den group a j s)

    -- what the set weighs, in parts
    weight : part y.tasks q y.work * whole ≡ sum y.hours column
    unfolding column
    weight =
        sym (part_mul y.tasks q y.work whole)
        ∙ (part_same_on y.tasks q (λ j. y.work j * whole) (λ j. sum y.hours (spread den group a j))
        (λ j l e. sym ((grouped_plan w).all j l))
        ∙ part_swap y.tasks y.hours q (spread den group a))

    column_load : (s : ℕ) → column s ≤ load y (spread den group a) s
    unfolding column load
    column_load s = part_le y.tasks q (λ j. spread den group a j s)

    -- no task of the set is done in an hour that it can't use or that isn't left
    column_none : (s : ℕ) → s < y.hours → both (reach y q) (left at g) s ≡ false → column s ≡ 0
    unfolding column spread
    column_none s l out =
        sum_zero y.tasks _
        (λ j lj. elim (cases_Bool (q j)) [
          | inl t ↦
              (elim (cases_lt 0 (a j s)) [
                | inl some ↦
                    (let r = any_has y.tasks (λ i. q i && y.may i s) j lj (and_from _ _ t (done_may j s lj l some)) in
                    let o = le-leb g (at s) (omega (arith, w.own j s lj l some, rest j lj t)) in
                    absurd (grind arith))
                | inr none ↦
                    (let z : a j s ≡ 0 = omega arith in
                    rw t (ap (λ v. v * (whole / den (group j))) z ∙ zero-mul _))
              ])
          | inr f ↦ rw f refl
        ])

    -- an hour that is left and that the set may use
    column_some : (s : ℕ) → s < y.hours → both (reach y q) (left at g) s ≡ true → column s * den g ≤ num g * whole
    column_some s l inn =
        let b = and_parts (reach y q s) (left at g s) inn in
        let m = reached q s l b.0 in
        omega
        (arith, mul-le-mul_right (den g) (column_load s), load_under w s g l (omega (arith, m.3, w.some m.0 m.1)) found (leb-true g (at s) b.1))

    column_under :
        (s : ℕ) → s < y.hours → column s * den g ≤ cond (both (reach y q) (left at g) s) (num g * whole) 0
    column_under s l =
        elim (cases_Bool (both (reach y q) (left at g) s)) [
          | inl t ↦ rw t (column_some s l t)
          | inr f ↦ rw f (omega (arith, ap (λ v. v * den g) (column_none s l f)))
        ]

    total : sum y.hours (λ s. column s * den g) ≡ part y.tasks q y.work * den g * whole
    total =
        sum_mul y.hours column (den g)
        ∙ (ap (λ v. v * den g) (sym weight) ∙ mul_right_comm (part y.tasks q y.work) whole (den g))

    room :
        part y.hours (both (reach y q) (left at g)) (λ s. num g * whole)
        ≡ size y.hours (both (reach y q) (left at g)) * num g * whole
    room =
        part_const y.hours (both (reach y q) (left at g)) (num g * whole)
        ∙ sym (mul_assoc (size y.hours (both (reach y q) (left at g))) (num g) whole)

    group_most :
        part y.tasks q y.work * den g ≤ size y.hours (both (reach y q) (left at g)) * num g
    group_most =
        le_of_mul-le-mul_right (omega (arith, sum_le y.hours (λ s. column s * den g) _ column_under, total, room)) whole_some

    group_widest :
        part y.tasks q y.work * den g ≡ size y.hours (both (reach y q) (left at g)) * num g →
        (s : ℕ) → s < y.hours → reach y q s ≡ true → left at g s ≡ true → at s ≡ g
    group_widest e s l r f =
        let t =
        sum_tight y.hours (λ i. column i * den g) (λ i. cond (both (reach y q) (left at g) i) (num g * whole) 0) column_under
        (omega (arith, ap (λ v. v * whole) e, total, room)) s l in
        let m = reached q s l r in
        elim (cases_eq (at s) g) [
          | inl same ↦ same
          | inr ne ↦
              absurd
              (omega
              (arith, rw (and_from (reach y q s) (left at g s) r f) at t, mul-le-mul_right (den g) (column_load s), load_less w s g l (omega (arith, m.3, w.some m.0 m.1)) (omega (arith, leb-true g (at s) f))))
        ]

pub densest_first :
    (y : Day) (k : ℕ) (num den group at : ℕ → ℕ) (a : ℕ → ℕ → ℕ) → Grouped y k num den group at a →
    (g : ℕ) → g < k → Densest y num den group at g
densest_first y k num den group at a w g l =
    record {
      weighs = group_weighs w g l;
      uses = group_uses w g l;
      used = group_used w g l;
      most = group_most w g l;
      widest = group_widest w g l;
    }

-- when the first group is found, all is left
pub first_densest :
    (y : Day) (k : ℕ) (num den group at : ℕ → ℕ) (a : ℕ → ℕ → ℕ) → Grouped y k num den group at a →
    0 < k → (q : ℕ → Bool) → FirstDensest y num den at q
first_densest y k num den group at a w some q =
    let rest : (j : ℕ) → j < y.tasks → q j ≡ true → 0 ≤ group j = λ j l t. omega arith in
    let all =
    part_same_test y.hours (both (reach y q) (left at 0)) (reach y q) (λ s. 1)
    (λ s l. let t = le-leb 0 (at s) (omega arith) in grind arith) in
    record { most = rw all at (group_most w 0 some q rest); widest = λ e s l r. group_widest w 0 some q rest (e ∙ ap (λ v. v * num 0) (sym all)) s l r (le-leb 0 (at s) (omega arith)) }
