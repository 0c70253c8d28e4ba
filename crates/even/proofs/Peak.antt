-- The largest load of a plan and the densest sets of tasks.
use Rattle.std.proofs.Common.{◌≡◌, ℕ, ◌*◌, ◌<◌, ◌≤◌, Bool, true, false, cond, ◌&&◌, eqb, ltb, sym, ◌∙◌, inl, inr, arith}
use Rattle.std.proofs.lemmas.Bool.{cases_lt, cases_Bool, and_parts, and_from, ltb-true, lt-ltb, eqb-true, eq-eqb}
use Rattle.fraction.specs.Sum.{sum, part, any}
use Rattle.fraction.proofs.Sums.{sum_same, sum_le, sum_tight, sum_zero, sum_some, part_le, part_all, part_mul, part_swap, part_const, part_same_on, any_some, any_none, any_has}
use Rattle.even.specs.Day.{Day, Plan, load, Even}
use Rattle.even.specs.Grouped.{reach}
use Rattle.even.proofs.Least.{may_where}
use Rattle.even.specs.Densest.{weight, NoneDenser, Dense, Peak}

-- what the tasks of q have in an hour
abbrev share : Day → (ℕ → ℕ → ℕ) → (ℕ → Bool) → ℕ → ℕ
share y x q s = part y.tasks q (λ j. x j s)

-- a set weighs what it has in all hours
weight_share :
    (y : Day) (d : ℕ) (x : ℕ → ℕ → ℕ) (q : ℕ → Bool) → Plan y d x → weight y q * d ≡ sum y.hours (share y x q)
weight_share y d x q p =
    sym (part_mul y.tasks q y.work d)
    ∙ (part_same_on y.tasks q _ _ (λ j l _. sym (p.all j l)) ∙ part_swap y.tasks y.hours q x)

-- it has nothing in an hour that it doesn't reach, and at most the load in any
share_none :
    (y : Day) (d : ℕ) (x : ℕ → ℕ → ℕ) (q : ℕ → Bool) (s : ℕ) → Plan y d x → s < y.hours → reach y q s ≡ false →
    share y x q s ≡ 0
share_none y d x q s p l out =
    sum_zero y.tasks _ (λ j lj.
    let w = any_none y.tasks (λ i. q i && y.may i s) out j lj in let o = p.only j s lj l in grind arith)

share_load :
    (y : Day) (d : ℕ) (x : ℕ → ℕ → ℕ) (q : ℕ → Bool) (s : ℕ) → Plan y d x → s < y.hours →
    share y x q s ≤ cond (reach y q s) (load y x s) 0
unfolding load
share_load y d x q s p l =
    elim (cases_Bool (reach y q s)) [
      | inl t ↦ rw t (part_le y.tasks q (λ j. x j s))
      | inr f ↦ rw f (omega (arith, share_none y d x q s p l f))
    ]

-- an hour's load, if the set reaches it, is at most c
under :
    (y : Day) (x : ℕ → ℕ → ℕ) (c : ℕ) (q : ℕ → Bool) → ((s : ℕ) → s < y.hours → load y x s ≤ c) → (s : ℕ) → s < y.hours →
    cond (reach y q s) (load y x s) 0 ≤ cond (reach y q s) c 0
under y x c q low s l =
    elim (reach y q s) as (λ b. cond b (load y x s) 0 ≤ cond b c 0) [ true ↦ low s l | false ↦ omega arith ]

-- no set is denser than the largest load of a plan
pub none_denser :
    (y : Day) (d : ℕ) (x : ℕ → ℕ → ℕ) (c : ℕ) → Plan y d x → ((s : ℕ) → s < y.hours → load y x s ≤ c) → NoneDenser y c d
none_denser y d x c p low q =
    omega (
      arith,
      weight_share y d x q p,
      part_const y.hours (reach y q) c,
      sum_le y.hours _ _ (λ s l. share_load y d x q s p l),
      sum_le y.hours _ _ (under y x c q low),
    )

-- every hour of a set that is as dense has that load
pub dense_loaded :
    (y : Day) (d : ℕ) (x : ℕ → ℕ → ℕ) (c : ℕ) → Plan y d x → ((s : ℕ) → s < y.hours → load y x s ≤ c) →
    (q : ℕ → Bool) → Dense y c d q → (s : ℕ) → s < y.hours → reach y q s ≡ true → load y x s ≡ c
dense_loaded y d x c p low q dense s l t =
    let e =
    sum_tight y.hours _ _ (under y x c q low)
    (omega (
      arith,
      dense,
      weight_share y d x q p,
      part_const y.hours (reach y q) c,
      sum_le y.hours _ _ (λ s l. share_load y d x q s p l),
    ))
    s l in
    rw t at e

-- the tasks that are done in an hour with load c
abbrev busy : Day → (ℕ → ℕ → ℕ) → ℕ → ℕ → Bool
busy y x c j = any y.hours (λ s. ltb 0 (x j s) && eqb (load y x s) c)

busy_at : (y : Day) (x : ℕ → ℕ → ℕ) (c j s : ℕ) → s < y.hours → 0 < x j s → load y x s ≡ c → busy y x c j ≡ true
busy_at y x c j s l done full =
    any_has y.hours _ s l (and_from _ _ (lt-ltb 0 (x j s) done) (eq-eqb (load y x s) c full))

-- in an hour with load c all is theirs
busy_share :
    (y : Day) (x : ℕ → ℕ → ℕ) (c s : ℕ) → s < y.hours → load y x s ≡ c → share y x (busy y x c) s ≡ c
unfolding load
busy_share y x c s l full =
    part_all y.tasks (busy y x c) (λ j. x j s) (λ j lj out.
    elim (cases_lt 0 (x j s)) [
      | inl done ↦ (let w = busy_at y x c j s l done full in absurd (grind arith))
      | inr none ↦ omega arith
    ])
    ∙ full

-- an hour that one of them may use has load c
busy_full :
    (y : Day) (x : ℕ → ℕ → ℕ) (c : ℕ) → Even y x → ((s : ℕ) → s < y.hours → load y x s ≤ c) → (s : ℕ) → s < y.hours →
    reach y (busy y x c) s ≡ true → load y x s ≡ c
unfolding Even
busy_full y x c even low s l t =
    let r = any_some y.tasks (λ j. busy y x c j && y.may j s) t in
    let w = and_parts (busy y x c r.0) (y.may r.0 s) r.2 in
    let u = any_some y.hours (λ s. ltb 0 (x r.0 s) && eqb (load y x s) c) w.0 in
    let v = and_parts (ltb 0 (x r.0 u.0)) (eqb (load y x u.0) c) u.2 in
    omega (
      arith,
      low s l,
      eqb-true (load y x u.0) c v.1,
      even r.0 u.0 s r.1 u.1 l (ltb-true 0 (x r.0 u.0) v.0) w.1,
    )

busy_dense :
    (y : Day) (d : ℕ) (x : ℕ → ℕ → ℕ) (c : ℕ) → Plan y d x → Even y x → ((s : ℕ) → s < y.hours → load y x s ≤ c) →
    Dense y c d (busy y x c)
busy_dense y d x c p even low =
    weight_share y d x (busy y x c) p
    ∙ (sum_same y.hours _ (λ s. cond (reach y (busy y x c) s) c 0) (λ s l.
    elim (cases_Bool (reach y (busy y x c) s)) [
      | inl t ↦ rw t (busy_share y x c s l (busy_full y x c even low s l t))
      | inr f ↦ rw f (share_none y d x (busy y x c) s p l f)
    ])
    ∙ part_const y.hours (reach y (busy y x c)) c)

busy_reaches :
    (y : Day) (d : ℕ) (x : ℕ → ℕ → ℕ) (c : ℕ) → Plan y d x → 0 < c → (s : ℕ) → s < y.hours → load y x s ≡ c →
    reach y (busy y x c) s ≡ true
unfolding load
busy_reaches y d x c p pos s l full =
    let r = sum_some y.tasks (λ j. x j s) (omega arith) in
    any_has y.tasks _ r.0 r.1
    (and_from _ _ (busy_at y x c r.0 s l r.2 full)
    (may_where (y.may r.0 s) (x r.0 s) (p.only r.0 s r.1 l) r.2))

pub peak_densest :
    (y : Day) (d : ℕ) (x : ℕ → ℕ → ℕ) (c : ℕ) → Plan y d x → Even y x → 0 < c → ((s : ℕ) → s < y.hours → load y x s ≤ c) →
    Peak y d x c
peak_densest y d x c p even pos low =
    record {
      most = none_denser y d x c p low;
      loaded = dense_loaded y d x c p low;
      dense = λ s l full. (busy y x c, busy_dense y d x c p even low, busy_reaches y d x c p pos s l full);
    }
