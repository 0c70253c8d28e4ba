-- Moves of one part of a task from an hour to another, and rows of them.
use Rattle.std.proofs.Common.{◌≡◌, ℕ, ◌+◌, ◌-◌, ◌<◌, ◌≤◌, Bool, true, false, cond, ◌||◌, eqb, refl, ◌∙◌, inl, inr, arith}
use Rattle.std.proofs.lemmas.Bool.Decides.{nat_tests}
use Rattle.std.proofs.lemmas.Bool.{cases_eq}
use Rattle.fraction.specs.Sum.{sum}
use Rattle.fraction.proofs.Sums.{sum_same, sum_add, sum_one}
use Rattle.even.specs.Day.{Day, Plan, load}

-- one part at hour s
abbrev pub one : ℕ → ℕ → ℕ
one s t = cond (eqb t s) 1 0

-- x with one part of task j moved from hour u to hour v
moved : (ℕ → ℕ → ℕ) → ℕ → ℕ → ℕ → ℕ → ℕ → ℕ
moved x j u v i s = cond (eqb i j) (x i s + one v s - one u s) (x i s)

moved_by :
    (x : ℕ → ℕ → ℕ) (j u v : ℕ) → 0 < x j u → (i s : ℕ) →
    moved x j u v i s + cond (eqb i j) (one u s) 0 ≡ x i s + cond (eqb i j) (one v s) 0
unfolding moved
moved_by x j u v some i s =
    elim (cases_eq i j) [
      | inl e ↦ elim (cases_eq s u) [
        | inl f ↦ (let k : 0 < x i s = rw e (rw f some) in grind (arith, nat_tests))
        | inr ne ↦ grind (arith, nat_tests)
      ]
      | inr ne ↦ grind (arith, nat_tests)
    ]

sum_of_one : (n s : ℕ) → s < n → sum n (one s) ≡ 1
sum_of_one n s l = sum_one n (one s) s l (λ i m ne. grind (arith, nat_tests)) ∙ grind (arith, nat_tests)

sum_at_one : (m j c : ℕ) → j < m → sum m (λ i. cond (eqb i j) c 0) ≡ c
sum_at_one m j c l = sum_one m (λ i. cond (eqb i j) c 0) j l (λ i k ne. grind (arith, nat_tests)) ∙ grind (arith, nat_tests)

module _ {y : Day} {d : ℕ} {x : ℕ → ℕ → ℕ} (p : Plan y d x) (j u v : ℕ) (lj : j < y.tasks) (lu : u < y.hours) (lv : v < y.hours) (some : 0 < x j u) (can : y.may j v ≡ true) where
  -- a row keeps its sum
  moved_row : (i : ℕ) → sum y.hours (moved x j u v i) ≡ sum y.hours (x i)
  moved_row i =
      elim (cases_eq i j) [
        | inl e ↦
            omega (
              arith,
              sum_add y.hours (moved x j u v i) (one u),
              sum_add y.hours (x i) (one v),
              sum_of_one y.hours u lu,
              sum_of_one y.hours v lv,
              sum_same y.hours (λ s. moved x j u v i s + one u s) (λ s. x i s + one v s)
                  (λ s l. let k = moved_by x j u v some i s in grind (arith, nat_tests)),
            )
        | inr ne ↦ sum_same y.hours _ _ (λ s l. let k = moved_by x j u v some i s in grind (arith, nat_tests))
      ]

  moved_plan : Plan y d (moved x j u v)
  moved_plan = record {
    parts = p.parts;
    all = λ i l. moved_row i ∙ p.all i l;
    only = λ i s li ls no.
        let k = moved_by x j u v some i s in
        let z = p.only i s li ls no in
        elim (cases_eq i j) [
          | inl e ↦ elim (cases_eq s v) [
            | inl f ↦ (let c : y.may i s ≡ true = rw e (rw f can) in absurd (grind arith))
            | inr nv ↦ grind (arith, nat_tests)
          ]
          | inr ne ↦ grind (arith, nat_tests)
        ];
  }

  -- the loads of both hours change by one part, the others stay
  moved_load : (s : ℕ) → load y (moved x j u v) s + one u s ≡ load y x s + one v s
  unfolding load
  moved_load s =
      omega (
        arith,
        sum_add y.tasks (λ i. moved x j u v i s) (λ i. cond (eqb i j) (one u s) 0),
        sum_add y.tasks (λ i. x i s) (λ i. cond (eqb i j) (one v s) 0),
        sum_at_one y.tasks j (one u s) lj,
        sum_at_one y.tasks j (one v s) lj,
        sum_same y.tasks _ _ (λ i l. moved_by x j u v some i s),
      )

-- by moves from hour to hour within the set A one part has gone from hour s to hour a, and none of x left a; x' is the plan after them
pub record Reached (y : Day) (d : ℕ) (x : ℕ → ℕ → ℕ) (A : ℕ → Bool) (s a : ℕ) (x' : ℕ → ℕ → ℕ) : Type 0 where
  pub plan : Plan y d x'
  pub loads : (t : ℕ) → t < y.hours → load y x' t + one s t ≡ load y x t + one a t
  pub stays : (j : ℕ) → j < y.tasks → x j a ≤ x' j a
  pub kept : (j t : ℕ) → j < y.tasks → t < y.hours → A t ≡ false → x' j t ≡ x j t

-- no move yet
pub reached_none : {y : Day} {d : ℕ} {x : ℕ → ℕ → ℕ} (A : ℕ → Bool) (s : ℕ) → Plan y d x → Reached y d x A s s x
reached_none A s p = record { plan = p; loads = λ t l. refl; stays = λ j l. omega arith; kept = λ j t lj l out. refl }

-- the set with one hour more
abbrev pub with : (ℕ → Bool) → ℕ → ℕ → Bool
with A b t = A t || eqb t b

-- the same moves lie within a larger set
pub reached_still :
    {y : Day} {d : ℕ} {x x' : ℕ → ℕ → ℕ} {A : ℕ → Bool} {s a : ℕ} (b : ℕ) → Reached y d x A s a x' → Reached y d x (with A b) s a x'
reached_still b r =
    record {
      plan = r.plan;
      loads = r.loads;
      stays = r.stays;
      kept = λ j t lj l out. r.kept j t lj l (grind arith);
    }

-- one move more, of a task done in a, to an hour that isn't in the set
pub reached_more :
    {y : Day} {d : ℕ} {x x' : ℕ → ℕ → ℕ} {A : ℕ → Bool} {s a : ℕ} (j b : ℕ) → Reached y d x A s a x' →
    j < y.tasks → a < y.hours → b < y.hours → A a ≡ true → A b ≡ false → 0 < x j a → y.may j b ≡ true →
    (x'' : ℕ → ℕ → ℕ) × Reached y d x (with A b) s b x''
reached_more {y} {d} {x} {x'} {A} {s} {a} j b r lj la lb inn out some can =
    let more : 0 < x' j a = omega (arith, r.stays j lj) in (
      moved x' j a b,
      record {
        plan = moved_plan r.plan j a b lj la lb more can;
        loads = λ t l. omega (arith, r.loads t l, moved_load r.plan j a b lj la lb more can t);
        stays = λ i l.
            let k = moved_by x' j a b more i b in
            let e = r.kept i b l lb out in
            elim (cases_eq a b) [
              | inl same ↦ (let c : A a ≡ false = rw same out in absurd (grind arith))
              | inr ne ↦ grind (arith, nat_tests)
            ];
        kept = λ i t li l no.
            let k = moved_by x' j a b more i t in
            let e = r.kept i t li l (grind arith) in
            elim (cases_eq t a) [
              | inl same ↦ (let c : A t ≡ true = rw same inn in absurd (grind arith))
              | inr ne ↦ grind (arith, nat_tests)
            ];
      },
    )
