-- In parts of any size a day has a settled plan: moves that make the sum of the squares of the loads fall come to an end.
use Rattle.std.proofs.Common.{◌≡◌, ℕ, zero, suc, ◌+◌, ◌*◌, ◌<◌, ◌≤◌, Bool, true, false, cond, eqb, ltb, ◌⊎◌, sym, ap, ◌∙◌, inl, inr, arith}
use Rattle.std.proofs.lemmas.Bool.Decides.{nat_tests}
use Rattle.std.proofs.lemmas.Bool.{cases_eq, cases_lt, cases_Bool, lt-ltb, ltb-true, eq-eqb, ne_eqb}
use Rattle.fraction.specs.Sum.{sum, size}
use Rattle.fraction.proofs.Sums.{sum_one, sum_two, sum_at, size_le, size_more, look}
use Rattle.even.specs.Day.{Day, Plan, load}
use Rattle.even.specs.Always.{Doable, Upper, Settled}
use Rattle.even.proofs.AlwaysMoves.{with, Reached, reached_none, reached_still, reached_more}

squares : Day → (ℕ → ℕ → ℕ) → ℕ
squares y x = sum y.hours (λ s. load y x s * load y x s)

squares_fall : (l m l' m' : ℕ) → m + 2 ≤ l → l' + 1 ≡ l → m' ≡ m + 1 → l' * l' + m' * m' < l * l + m * m
squares_fall l m l' m' le e f =
    rw (sym e) (rw f (omega arith))

module _ {y : Day} {d : ℕ} {x : ℕ → ℕ → ℕ} where
  -- a part that goes to an hour whose load is less by two
  reached_falls :
      {A : ℕ → Bool} {x' : ℕ → ℕ → ℕ} (s a : ℕ) → s < y.hours → a < y.hours → load y x a + 2 ≤ load y x s →
      Reached y d x A s a x' → squares y x' < squares y x
  unfolding squares
  reached_falls {A} {x'} s a ls la le r =
      let ne : s ≡ a → ⊥ = λ e. omega (arith, ap (load y x) e) in
      let es : load y x' s + 1 ≡ load y x s = let k = r.loads s ls in grind (arith, nat_tests) in
      let ea : load y x' a ≡ load y x a + 1 = let k = r.loads a la in grind (arith, nat_tests) in
      omega (
        arith,
        squares_fall (load y x s) (load y x a) (load y x' s) (load y x' a) le es ea,
        sum_two y.hours (λ t. load y x t * load y x t) (λ t. load y x' t * load y x' t) s a ls la ne
            (λ t l ns na. let k = r.loads t l in
            let e : load y x t ≡ load y x' t = grind (arith, nat_tests) in ap (λ v. v * v) e),
      )

-- A has the hours with more load than k, and to each of its hours a part can go from one of them
record Grown (y : Day) (d : ℕ) (x : ℕ → ℕ → ℕ) (k : ℕ) (A : ℕ → Bool) : Type 0 where
  over : (s : ℕ) → s < y.hours → k < load y x s → A s ≡ true
  from :
      (a : ℕ) → a < y.hours → A a ≡ true →
      (s : ℕ) × (s < y.hours) × (k < load y x s) × (x' : ℕ → ℕ → ℕ) × Reached y d x A s a x'

-- a task that is done in A and may be done outside of it
record Leaves (y : Day) (x : ℕ → ℕ → ℕ) (A : ℕ → Bool) (a b j : ℕ) : Type 0 where
  inn : A a ≡ true
  out : A b ≡ false
  some : 0 < x j a
  can : y.may j b ≡ true

leaves_or_not :
    (y : Day) (x : ℕ → ℕ → ℕ) (A : ℕ → Bool) (a b j : ℕ) →
    Leaves y x A a b j ⊎ (0 < x j a → A a ≡ true → y.may j b ≡ true → A b ≡ true)
leaves_or_not y x A a b j =
    elim (cases_Bool (A b)) [
      | inl t ↦ inr (λ _ _ _. t)
      | inr out ↦
          elim (cases_Bool (A a)) [
            | inl inn ↦
                elim (cases_Bool (y.may j b)) [
                  | inl can ↦
                      elim (cases_lt 0 (x j a)) [
                        | inl some ↦ inl (record { inn = inn; out = out; some = some; can = can })
                        | inr none ↦ inr (λ l _ _. absurd (omega arith))
                      ]
                  | inr off ↦ inr (λ _ _ c. absurd (grind arith))
                ]
            | inr off ↦ inr (λ _ c _. absurd (grind arith))
          ]
    ]

-- such a task, or none leaves A
leaves_look :
    (y : Day) (x : ℕ → ℕ → ℕ) (A : ℕ → Bool) →
    ((a : ℕ) × (a < y.hours) × ((b : ℕ) × (b < y.hours) × ((j : ℕ) × (j < y.tasks) × Leaves y x A a b j)))
    ⊎ ((a : ℕ) → a < y.hours → (b : ℕ) → b < y.hours → (j : ℕ) → j < y.tasks → 0 < x j a → A a ≡ true → y.may j b ≡ true → A b ≡ true)
leaves_look y x A =
    look y.hours (λ a la. look y.hours (λ b lb. look y.tasks (λ j lj. leaves_or_not y x A a b j)))

-- an hour of A whose load L s is below k, or not
low_or_not : (A : ℕ → Bool) (L : ℕ → ℕ) (k s : ℕ) → ((A s ≡ true) × (L s < k)) ⊎ (A s ≡ true → k ≤ L s)
low_or_not A L k s =
    elim (cases_Bool (A s)) [
      | inl inn ↦ elim (cases_lt (L s) k) [ inl low ↦ inl (inn, low) | inr ge ↦ inr (λ _. ge) ]
      | inr out ↦ inr (λ c. absurd (grind arith))
    ]

module _ {y : Day} {d : ℕ} {x : ℕ → ℕ → ℕ} {k : ℕ} where
  grown_first : Plan y d x → Grown y d x k (λ s. ltb k (load y x s))
  grown_first p = record {
    over = λ s l m. lt-ltb k (load y x s) m;
    from = λ a l m. (a, l, ltb-true k (load y x a) m, x, reached_none _ a p);
  }

  grown_more :
      {A : ℕ → Bool} (a b j : ℕ) → a < y.hours → b < y.hours → j < y.tasks → Leaves y x A a b j → Grown y d x k A →
      Grown y d x k (with A b)
  grown_more {A} a b j la lb lj m g = record {
    over = λ s l n. let t = g.over s l n in grind arith;
    from = λ c lc n.
        elim (cases_Bool (A c)) [
          | inl t ↦
              (let r = g.from c lc t in (r.0, r.1, r.2, r.3, reached_still b r.4))
          | inr f ↦
              (let e : c ≡ b = grind (arith, nat_tests) in
              let r = g.from a la m.inn in
              let q = reached_more j b r.4 lj la lb m.inn m.out m.some m.can in
              rw e (r.0, r.1, r.2, q.0, q.1))
        ];
  }

  -- grown until no task leaves it
  walk :
      (f : ℕ) (A : ℕ → Bool) → y.hours ≤ f + size y.hours A → Grown y d x k A →
      (B : ℕ → Bool) × Grown y d x k B
      × ((a : ℕ) → a < y.hours → (b : ℕ) → b < y.hours → (j : ℕ) → j < y.tasks → 0 < x j a → B a ≡ true → y.may j b ≡ true → B b ≡ true)
  walk zero A l g =
      elim (leaves_look y x A) [
        | inl r ↦
            (let m = r.2.2.2 in
            absurd
            (omega
            (arith, size_more y.hours A (with A r.2.0) (λ i li t. grind arith) r.2.0 r.2.1 m.out (grind (arith, nat_tests)), size_le y.hours (with A r.2.0))))
        | inr shut ↦ (A, g, shut)
      ]
  walk (suc f) A l g =
      elim (leaves_look y x A) [
        | inl r ↦
            (let m = r.2.2.2 in
            walk f (with A r.2.0)
            (omega
            (arith, size_more y.hours A (with A r.2.0) (λ i li t. grind arith) r.2.0 r.2.1 m.out (grind (arith, nat_tests))))
            (grown_more r.0 r.2.0 r.2.2.0 r.1 r.2.1 r.2.2.1 m g))
        | inr shut ↦ (A, g, shut)
      ]

  -- at a level k: moves after which the squares add up to less, or a set as wanted
  better_or_upper :
      Plan y d x →
      ((x' : ℕ → ℕ → ℕ) × Plan y d x' × (squares y x' < squares y x)) ⊎ ((H : ℕ → Bool) × Upper y x k H)
  better_or_upper p =
      let w = walk y.hours (λ s. ltb k (load y x s)) (omega arith) (grown_first p) in
      elim (look y.hours (λ s l. low_or_not w.0 (load y x) k s)) [
        | inl r ↦
            (let q = w.1.from r.0 r.1 r.2.0 in
            inl (q.3, q.4.plan, reached_falls q.0 r.0 q.1 r.1 (omega (arith, q.2, r.2.1)) q.4))
        | inr none ↦
            inr (
              w.0,
              record {
                closed = λ j s t lj ls lt. w.2 s ls t lt j lj;
                over = w.1.over;
                least = none;
              },
            )
      ]

-- above all loads no hour is wanted
upper_none : (y : Day) (x : ℕ → ℕ → ℕ) (k : ℕ) → sum y.hours (load y x) ≤ k → Upper y x k (λ s. false)
upper_none y x k l = record {
  closed = λ j s t _ _ _ _ c _. absurd (grind arith);
  over = λ s ls m. absurd (omega (arith, sum_at y.hours (load y x) s ls));
  least = λ s _ c. absurd (grind arith);
}

-- moves after which the squares add up to less, or the plan is settled
better_or_settled :
    {y : Day} {d : ℕ} {x : ℕ → ℕ → ℕ} → Plan y d x →
    ((x' : ℕ → ℕ → ℕ) × Plan y d x' × (squares y x' < squares y x)) ⊎ Settled y x
unfolding Settled
better_or_settled {y} {d} {x} p =
    elim (look (sum y.hours (load y x)) (λ k l. better_or_upper {k = k} p)) [
      | inl r ↦ inl r.2
      | inr all ↦
          inr
          (λ k. elim (cases_lt k (sum y.hours (load y x))) [
            | inl l ↦ all k l
            | inr above ↦ ((λ s. false), upper_none y x k above)
          ])
    ]

-- the moves come to an end
settle :
    {y : Day} {d : ℕ} (f : ℕ) (x : ℕ → ℕ → ℕ) → squares y x ≤ f → Plan y d x → (z : ℕ → ℕ → ℕ) × Plan y d z × Settled y z
settle zero x l p =
    elim (better_or_settled p) [ inl r ↦ absurd (omega (arith, r.2)) | inr done ↦ (x, p, done) ]
settle (suc f) x l p =
    elim (better_or_settled p) [ inl r ↦ settle f r.0 (omega (arith, r.2)) r.1 | inr done ↦ (x, p, done) ]

-- one choice for each index as a function
choose :
    {P : ℕ → ℕ → Type 0} (m : ℕ) → ((j : ℕ) → j < m → (s : ℕ) × P j s) →
    (f : ℕ → ℕ) × ((j : ℕ) → j < m → P j (f j))
choose zero h = ((λ j. 0), λ j l. absurd (omega arith))
choose {P} (suc m) h =
    let r = choose {P = P} m (λ j l. h j (omega arith)) in
    let last = h m (omega arith) in (
      (λ j. cond (eqb j m) last.0 (r.0 j)),
      λ j l. elim (cases_eq j m) [
        | inl e ↦ rw (eq-eqb j m e) (rw e last.1)
        | inr ne ↦ rw (ne_eqb j m ne) (r.1 j (omega arith))
      ],
    )

-- each task whole in one hour
first_plan : (y : Day) (d : ℕ) → 0 < d → Doable y → (x : ℕ → ℕ → ℕ) × Plan y d x
first_plan y d d0 can =
    let c = choose {P = λ j s. (s < y.hours) × (y.may j s ≡ true)} y.tasks (λ j l. ((can j l).0, ((can j l).1, (can j l).2))) in (
      (λ j s. cond (eqb s (c.0 j)) (y.work j * d) 0),
      record {
        parts = d0;
        all = λ j l.
            sum_one y.hours (λ s. cond (eqb s (c.0 j)) (y.work j * d) 0) (c.0 j) (c.1 j l).0 (λ i m ne. grind (arith, nat_tests))
            ∙ grind (arith, nat_tests);
        only = λ j s lj ls off.
            elim (cases_eq s (c.0 j)) [
              | inl e ↦ (let t : y.may j s ≡ true = rw e (c.1 j lj).1 in absurd (grind arith))
              | inr ne ↦ grind (arith, nat_tests)
            ];
      },
    )

pub always_settled : (y : Day) (d : ℕ) → 0 < d → Doable y → (x : ℕ → ℕ → ℕ) × Plan y d x × Settled y x
always_settled y d d0 can = let x = first_plan y d d0 can in settle (squares y x.0) x.0 (omega arith) x.1
