-- Every day has an even plan: a settled plan is even if the number of parts of a unit is a multiple of every number of hours.
use Rattle.std.proofs.Common.{◌≡◌, ℕ, zero, suc, ◌+◌, ◌-◌, ◌*◌, ◌<◌, ◌≤◌, Bool, true, false, cond, ◌&&◌, ltb, sym, ap, ◌∙◌, inl, inr, mul_assoc, mul_comm, lt_of_mul-lt-mul_right, mul-pos, zero-mul, arith}
use Rattle.std.proofs.lemmas.Bool.Decides.{nat_tests}
use Rattle.std.proofs.lemmas.Bool.{cases_eq, cases_lt, cases_Bool, and_parts, ltb-true}
use Rattle.fraction.specs.Sum.{part, size, any, both, without}
use Rattle.fraction.proofs.Sums.{sum_same, sum_mul, sum_zero, sum_lt, part_all, part_swap, part_split, part_same_test, part_const, size_has, size_le, any_some, any_none}
use Rattle.even.specs.Day.{Day, Plan, Even, load}
use Rattle.even.specs.Always.{Doable, Upper, Settled}
use Rattle.even.proofs.AlwaysSettled.{always_settled}

-- numbers f with u ≤ f ≤ u + 1 on a set, some u and some u + 1, don't add up to a multiple of the set's size
flat :
    (n : ℕ) (p : ℕ → Bool) (f : ℕ → ℕ) (u b c : ℕ) →
    ((i : ℕ) → i < n → p i ≡ true → u ≤ f i) → ((i : ℕ) → i < n → p i ≡ true → f i ≤ u + 1) →
    c * size n p + part n p f ≡ b * size n p →
    (s t : ℕ) → s < n → t < n → p s ≡ true → p t ≡ true → f s ≡ u + 1 → f t ≡ u → ⊥
flat n p f u b c low high e s t ls lt ps pt fs ft =
    let more : part n p (λ i. u) < part n p f =
    sum_lt n (λ i. cond (p i) u 0) (λ i. cond (p i) (f i) 0) (λ i l. let k = low i l in grind arith) s ls (grind arith) in
    let less : part n p f < part n p (λ i. u + 1) =
    sum_lt n (λ i. cond (p i) (f i) 0) (λ i. cond (p i) (u + 1) 0) (λ i l. let k = high i l in grind arith) t lt (grind arith) in
    let over : c + u < b =
    lt_of_mul-lt-mul_right (size n p) (omega (arith, more, e, part_const n p u)) in
    let under : b < c + u + 1 =
    lt_of_mul-lt-mul_right (size n p) (omega (arith, less, e, part_const n p (u + 1))) in
    omega arith

-- what is done in a set that no task leaves adds up to whole units
closed_sum :
    {y : Day} {d : ℕ} {x : ℕ → ℕ → ℕ} {k : ℕ} {H : ℕ → Bool} → Plan y d x → Upper y x k H →
    (c : ℕ) × (part y.hours H (load y x) ≡ c * d)
unfolding load
closed_sum {y} {d} {x} {k} {H} p h =
    let done : ℕ → Bool = λ j. any y.hours (λ s. H s && ltb 0 (x j s)) in (
      part y.tasks done y.work,
      part_swap y.hours y.tasks H (λ s j. x j s)
          ∙ (sum_same y.tasks _ (λ j. cond (done j) (y.work j) 0 * d)
          (λ j lj. elim (cases_Bool (done j)) [
            | inl t ↦
                (let r = any_some y.hours (λ s. H s && ltb 0 (x j s)) t in
                let b = and_parts (H r.0) (ltb 0 (x j r.0)) r.2 in
                rw t
                (part_all y.hours H (x j)
                (λ s l out. elim (cases_Bool (y.may j s)) [
                  | inl can ↦ (let w = h.closed j r.0 s lj r.1 l (ltb-true 0 (x j r.0) b.1) b.0 can in absurd (grind arith))
                  | inr off ↦ p.only j s lj l off
                ])
                ∙ p.all j lj))
            | inr f ↦
                rw f
                (sum_zero y.hours (λ s. cond (H s) (x j s) 0)
                (λ s l. let w = any_none y.hours (λ s. H s && ltb 0 (x j s)) f s l in grind (arith, nat_tests))
                ∙ sym (zero-mul d))
          ])
          ∙ sum_mul y.tasks (λ j. cond (done j) (y.work j) 0) d),
    )

-- d is a multiple of every number of hours
Shared : Day → ℕ → Type 0
Shared y d = (r : ℕ) → 0 < r → r ≤ y.hours → (e : ℕ) × (e * r ≡ d)

-- the hours at a level and one part below it, u + 1 and u, that no task leaves but upward: all have the same load
module _ {y : Day} {d : ℕ} {x : ℕ → ℕ → ℕ} (p : Plan y d x) (share : Shared y d) (u : ℕ) (A B : ℕ → Bool) (upper : Upper y x u A) (top : Upper y x (u + 1) B) where
  nested : (i : ℕ) → i < y.hours → both A B i ≡ B i
  nested i l =
      elim (cases_Bool (B i)) [
        | inl t ↦ (let w = upper.over i l (omega (arith, top.least i l t)) in grind arith)
        | inr f ↦ grind arith
      ]

  apart :
      (s t : ℕ) → s < y.hours → t < y.hours → without A B s ≡ true → without A B t ≡ true →
      load y x s ≡ u + 1 → load y x t ≡ u → ⊥
  unfolding Shared
  apart s t ls lt ps pt fs ft =
      let a = closed_sum p upper in
      let b = closed_sum p top in
      let r = size y.hours (without A B) in
      let e = share r (size_has y.hours (without A B) s ls ps) (size_le y.hours (without A B)) in
      flat y.hours (without A B) (load y x) u (a.0 * e.0) (b.0 * e.0)
      (λ i l h. upper.least i l (grind arith))
      (λ i l h. elim (cases_lt (u + 1) (load y x i)) [
        | inl over ↦ (let w = top.over i l over in absurd (grind arith))
        | inr le ↦ le
      ])
      (omega (
        arith,
        a.1,
        b.1,
        part_split y.hours A B (load y x),
        part_same_test y.hours (both A B) B (load y x) nested,
        mul_assoc a.0 e.0 r ∙ ap (λ v. a.0 * v) e.1,
        mul_assoc b.0 e.0 r ∙ ap (λ v. b.0 * v) e.1,
      ))
      s t ls lt ps pt fs ft

  level_kept :
      (j s t : ℕ) → j < y.tasks → s < y.hours → t < y.hours → 0 < x j s → y.may j t ≡ true →
      load y x s ≡ u + 1 → load y x t < load y x s → ⊥
  level_kept j s t lj ls lt some can fs below =
      let hs = upper.over s ls (omega arith) in
      let ht = upper.closed j s t lj ls lt some hs can in
      let ft : load y x t ≡ u = omega (arith, upper.least t lt ht) in
      let nt : B t ≡ false = elim (cases_Bool (B t)) [ inl b ↦ absurd (omega (arith, top.least t lt b)) | inr f ↦ f ] in
      let ns : B s ≡ false = elim (cases_Bool (B s)) [
        | inl b ↦ (let w = top.closed j s t lj ls lt some b can in absurd (grind arith))
        | inr f ↦ f
      ] in
      apart s t ls lt (grind arith) (grind arith) fs ft

settled_even : {y : Day} {d : ℕ} {x : ℕ → ℕ → ℕ} → Plan y d x → Shared y d → Settled y x → Even y x
unfolding Settled Even
settled_even {y} {d} {x} p share settled j s t lj ls lt some can =
    elim (cases_lt (load y x t) (load y x s)) [
      | inl below ↦
          (let u = load y x s - 1 in
          let a = settled u in
          let b = settled (u + 1) in
          absurd (level_kept p share u a.0 b.0 a.1 b.1 j s t lj ls lt some can (omega arith) below))
      | inr ge ↦ ge
    ]

factorial : ℕ → ℕ
factorial zero = 1
factorial (suc n) = suc n * factorial n

factorial_some : (n : ℕ) → 0 < factorial n
unfolding factorial
factorial_some zero = omega arith
factorial_some (suc n) = mul-pos (omega arith) (factorial_some n)

factorial_share : (n r : ℕ) → 0 < r → r ≤ n → (e : ℕ) × (e * r ≡ factorial n)
unfolding factorial
factorial_share zero r l m = absurd (omega arith)
factorial_share (suc n) r l m =
    elim (cases_eq r (suc n)) [
      | inl e ↦ (factorial n, rw e (mul_comm (factorial n) (suc n)))
      | inr ne ↦
          (let k = factorial_share n r l (omega arith) in
          (suc n * k.0, mul_assoc (suc n) k.0 r ∙ ap (λ v. suc n * v) k.1))
    ]

pub always : (y : Day) → Doable y → (d : ℕ) × (x : ℕ → ℕ → ℕ) × Plan y d x × Even y x
unfolding Shared
always y can =
    let d = factorial y.hours in
    let some = factorial_some y.hours in
    let r = always_settled y d some can in
    (d, r.0, r.1, settled_even r.1 (factorial_share y.hours) r.2)
