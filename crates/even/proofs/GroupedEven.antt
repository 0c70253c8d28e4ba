-- Groups whose levels fall make an even plan.
use Rattle.std.proofs.Common.{◌≡◌, ℕ, ◌*◌, ◌/◌, ◌<◌, ◌≤◌, sym, ap, ◌∙◌, inl, inr, mul-le-mul_right, mul_assoc, mul_comm, lt_of_mul-lt-mul_right, mul-lt-mul_of_pos_right, zero-mul, mul_right_comm, le_of_mul-le-mul_right, arith}
use Rattle.std.proofs.lemmas.Bool.{cases_eq, cases_lt}
use Rattle.fraction.proofs.Sums.{sum_same, sum_mul, sum_zero}
use Rattle.even.specs.Day.{Day, Plan, Even, load}
use Rattle.even.specs.Whole.{whole}
use Rattle.even.specs.Grouped.{Grouped, Levelled, spread}
use Rattle.even.proofs.Shares.{whole_share, whole_some}

-- a load l = p w / q of a level p / q that is at most u / v, or below it, is at most u w / v, or below it
pub level_at_most : (l p q u v w : ℕ) → 0 < q → l * q ≡ p * w → p * v ≤ u * q → l * v ≤ u * w
level_at_most l p q u v w q0 e le =
    le_of_mul-le-mul_right
    (omega (arith, mul-le-mul_right w le, mul_right_comm l v q ∙ (ap (λ t. t * v) e ∙ mul_right_comm p w v), mul_right_comm u w q))
    q0

pub level_below : (l p q u v w : ℕ) → 0 < w → l * q ≡ p * w → p * v < u * q → l * v < u * w
level_below l p q u v w w0 e lt =
    lt_of_mul-lt-mul_right q
    (omega
    (arith, mul-lt-mul_of_pos_right lt w0, mul_right_comm l v q ∙ (ap (λ t. t * v) e ∙ mul_right_comm p w v), mul_right_comm u w q))

module _ {y : Day} {k : ℕ} {num den group at : ℕ → ℕ} {a : ℕ → ℕ → ℕ} (w : Grouped y k num den group at a) where
  pub group_share : (g : ℕ) → g < k → whole / den g * den g ≡ whole
  group_share g l = whole_share (den g) (w.over g l) (w.small g l)

  pub grouped_plan : Plan y whole (spread den group a)
  unfolding spread
  grouped_plan = record {
    parts = whole_some;
    all = λ j l.
        sum_mul y.hours (a j) (whole / den (group j))
        ∙ (ap (λ t. t * (whole / den (group j))) (w.all j l)
        ∙ (mul_assoc (y.work j) (den (group j)) (whole / den (group j))
        ∙ ap (λ t. y.work j * t) (mul_comm (den (group j)) (whole / den (group j)) ∙ group_share (group j) (w.some j l))));
    only = λ j s lj ls no. ap (λ t. t * (whole / den (group j))) (w.only j s lj ls no) ∙ zero-mul (whole / den (group j));
  }

  -- the load of an hour of a group, in shares of the group
  pub load_shares : (s : ℕ) → s < y.hours → at s < k → load y (spread den group a) s ≡ num (at s) * (whole / den (at s))
  unfolding spread load
  load_shares s l m =
      sum_same y.tasks (λ j. a j s * (whole / den (group j))) (λ j. a j s * (whole / den (at s)))
      (λ j lj. elim (cases_lt 0 (a j s)) [
        | inl some ↦ ap (λ g. a j s * (whole / den g)) (sym (w.own j s lj l some))
        | inr none ↦ (let z : a j s ≡ 0 = omega arith in
            ap (λ t. t * (whole / den (group j))) z ∙ (zero-mul _ ∙ sym (ap (λ t. t * (whole / den (at s))) z ∙ zero-mul _)))
      ])
      ∙ (sum_mul y.tasks (λ j. a j s) (whole / den (at s)) ∙ ap (λ t. t * (whole / den (at s))) (w.full s l m))

  -- an hour of a group has the group's level
  pub grouped_load : (s : ℕ) → s < y.hours → at s < k → load y (spread den group a) s * den (at s) ≡ num (at s) * whole
  grouped_load s l m =
      ap (λ t. t * den (at s)) (load_shares s l m)
      ∙ (mul_assoc (num (at s)) (whole / den (at s)) (den (at s)) ∙ ap (λ t. num (at s) * t) (group_share (at s) m))

  -- an hour of no group has no load
  pub grouped_idle : (s : ℕ) → s < y.hours → k ≤ at s → load y (spread den group a) s ≡ 0
  unfolding spread load
  grouped_idle s l m =
      sum_zero y.tasks (λ j. a j s * (whole / den (group j)))
      (λ j lj. elim (cases_lt 0 (a j s)) [
        | inl some ↦ absurd (omega (arith, w.own j s lj l some, w.some j lj))
        | inr none ↦ (let z : a j s ≡ 0 = omega arith in ap (λ t. t * (whole / den (group j))) z ∙ zero-mul _)
      ])

  -- a level is at least that of a later group, and above it
  level_le : (g h : ℕ) → g ≤ h → h < k → num h * den g ≤ num g * den h
  level_le g h le l =
      elim (cases_eq g h) [ inl e ↦ rw e (omega arith) | inr ne ↦ omega (arith, w.fall g h (omega arith) l) ]

  -- an hour has at most the level of a group that isn't after its own, and less than that of one before its own
  pub load_under :
      (s g : ℕ) → s < y.hours → at s < k → g < k → g ≤ at s → load y (spread den group a) s * den g ≤ num g * whole
  load_under s g l m lg le =
      level_at_most _ (num (at s)) (den (at s)) (num g) (den g) whole (w.over (at s) m) (grouped_load s l m) (level_le g (at s) le m)

  pub load_less :
      (s g : ℕ) → s < y.hours → at s < k → g < at s → load y (spread den group a) s * den g < num g * whole
  load_less s g l m lt =
      level_below _ (num (at s)) (den (at s)) (num g) (den g) whole whole_some (grouped_load s l m) (w.fall g (at s) lt m)

  -- an hour of the same group or of one before it has at least the load
  pub load_falls :
      (s t : ℕ) → s < y.hours → t < y.hours → at s < k → at t ≤ at s →
      load y (spread den group a) s ≤ load y (spread den group a) t
  load_falls s t ls lt m le =
      le_of_mul-le-mul_right {k = den (at t)}
      (omega (arith, load_under s (at t) ls m (omega arith) le, grouped_load t lt (omega arith)))
      (w.over (at t) (omega arith))

  pub grouped_even : Even y (spread den group a)
  unfolding Even spread
  grouped_even j s t lj ls lt done may =
      let p : 0 < a j s = elim (cases_lt 0 (a j s)) [
        | inl some ↦ some
        | inr none ↦ (let z : a j s ≡ 0 = omega arith in
            absurd (omega (arith, ap (λ v. v * (whole / den (group j))) z)))
      ] in
      let e = w.own j s lj ls p in
      load_falls s t ls lt (omega (arith, w.some j lj)) (omega (arith, w.before j t lj lt may))

pub grouped_is_even :
    (y : Day) (k : ℕ) (num den group at : ℕ → ℕ) (a : ℕ → ℕ → ℕ) → Grouped y k num den group at a →
    Levelled y k num den at (spread den group a)
grouped_is_even y k num den group at a w =
    record { plan = grouped_plan w; even = grouped_even w; level = grouped_load w; idle = grouped_idle w }
