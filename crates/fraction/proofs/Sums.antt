-- Laws of finite sums.
use Rattle.std.proofs.Common.{◌≡◌, ℕ, zero, suc, ◌+◌, ◌*◌, ◌<◌, ◌≤◌, Bool, true, false, cond, not, ◌&&◌, ◌||◌, eqb, ◌⊎◌, sym, refl, ◌∙◌, inl, inr, add-mul, arith}
use Rattle.std.proofs.lemmas.Bool.Decides.{nat_tests}
use Rattle.std.proofs.lemmas.Bool.{cases_eq, cases_lt, cases_Bool}
use Rattle.fraction.specs.Sum.{sum, part, size, any, both, either, without}

pub sum_none : (f : ℕ → ℕ) → sum 0 f ≡ 0
unfolding sum
sum_none f = refl

-- one term more
pub sum_more : (n : ℕ) (f : ℕ → ℕ) → sum (n + 1) f ≡ sum n f + f n
unfolding sum
sum_more n f = rw native.Mathlib.Numerals.add-one (omega arith)

-- sums of equal terms are equal
pub sum_same : (n : ℕ) (f g : ℕ → ℕ) → ((i : ℕ) → i < n → f i ≡ g i) → sum n f ≡ sum n g
unfolding sum
sum_same zero f g h = refl
sum_same (suc n) f g h = omega (arith, h n (omega arith), sum_same n f g (λ i l. h i (omega arith)))

-- sums of terms that are at most others are at most theirs
pub sum_le : (n : ℕ) (f g : ℕ → ℕ) → ((i : ℕ) → i < n → f i ≤ g i) → sum n f ≤ sum n g
unfolding sum
sum_le zero f g h = omega arith
sum_le (suc n) f g h = omega (arith, h n (omega arith), sum_le n f g (λ i l. h i (omega arith)))

-- a term that differs strictly makes the sums differ strictly
pub sum_lt : (n : ℕ) (f g : ℕ → ℕ) → ((i : ℕ) → i < n → f i ≤ g i) → (k : ℕ) → k < n → f k < g k → sum n f < sum n g
unfolding sum
sum_lt zero f g h k l d = absurd (omega arith)
sum_lt (suc n) f g h k l d =
    elim (cases_eq k n) [
      | inl e ↦ omega (arith, rw e at d, sum_le n f g (λ i m. h i (omega arith)))
      | inr ne ↦ omega (arith, h n (omega arith), sum_lt n f g (λ i m. h i (omega arith)) k (omega arith) d)
    ]

-- a strict inequality of sums gives a strict inequality at some index
pub sum_less : (n : ℕ) (f g : ℕ → ℕ) → sum n f < sum n g → (i : ℕ) × (i < n) × (f i < g i)
unfolding sum
sum_less zero f g h = absurd (omega arith)
sum_less (suc n) f g h =
    elim (cases_lt (f n) (g n)) [
      | inl l ↦ (n, omega arith, l)
      | inr ge ↦ (let r = sum_less n f g (omega arith) in (r.0, omega (arith, r.1), r.2))
    ]

-- terms that are at most others, with a sum that is at least theirs, are equal to them
pub sum_tight : (n : ℕ) (f g : ℕ → ℕ) → ((i : ℕ) → i < n → f i ≤ g i) → sum n g ≤ sum n f → (k : ℕ) → k < n → f k ≡ g k
sum_tight n f g h t k l =
    elim (cases_lt (f k) (g k)) [ inl d ↦ omega (arith, sum_lt n f g h k l d) | inr ge ↦ omega (arith, h k l) ]

pub sum_zero : (n : ℕ) (f : ℕ → ℕ) → ((i : ℕ) → i < n → f i ≡ 0) → sum n f ≡ 0
unfolding sum
sum_zero zero f h = refl
sum_zero (suc n) f h = omega (arith, h n (omega arith), sum_zero n f (λ i l. h i (omega arith)))

-- a term is at most the sum
pub sum_at : (n : ℕ) (f : ℕ → ℕ) (k : ℕ) → k < n → f k ≤ sum n f
unfolding sum
sum_at zero f k l = absurd (omega arith)
sum_at (suc n) f k l =
    elim (cases_eq k n) [ inl e ↦ rw e (omega arith) | inr ne ↦ omega (arith, sum_at n f k (omega arith)) ]

-- the terms of a sum that is 0 are 0
pub sum_is_zero : (n : ℕ) (f : ℕ → ℕ) → sum n f ≡ 0 → (k : ℕ) → k < n → f k ≡ 0
sum_is_zero n f h k l = omega (arith, sum_at n f k l)

-- a sum that isn't 0 has a term that isn't 0
pub sum_some : (n : ℕ) (f : ℕ → ℕ) → 0 < sum n f → (i : ℕ) × (i < n) × (0 < f i)
unfolding sum
sum_some zero f h = absurd (omega arith)
sum_some (suc n) f h =
    elim (cases_lt 0 (f n)) [
      | inl l ↦ (n, omega arith, l)
      | inr z ↦ (let r = sum_some n f (omega arith) in (r.0, omega (arith, r.1), r.2))
    ]

-- one term more still lies within a longer sum
pub sum_step : (m n : ℕ) (f : ℕ → ℕ) → m < n → sum m f + f m ≤ sum n f
unfolding sum
sum_step m zero f l = absurd (omega arith)
sum_step m (suc n) f l =
    elim (cases_eq m n) [ inl e ↦ rw e (omega arith) | inr ne ↦ omega (arith, sum_step m n f (omega arith)) ]

pub sum_mono : (m n : ℕ) (f : ℕ → ℕ) → m ≤ n → sum m f ≤ sum n f
sum_mono m n f l =
    elim (cases_eq m n) [ inl e ↦ rw e (omega arith) | inr ne ↦ omega (arith, sum_step m n f (omega arith)) ]

pub sum_add : (n : ℕ) (f g : ℕ → ℕ) → sum n (λ i. f i + g i) ≡ sum n f + sum n g
unfolding sum
sum_add zero f g = refl
sum_add (suc n) f g = omega (arith, sum_add n f g)

pub sum_mul : (n : ℕ) (f : ℕ → ℕ) (c : ℕ) → sum n (λ i. f i * c) ≡ sum n f * c
unfolding sum
sum_mul zero f c = omega arith
sum_mul (suc n) f c = omega (arith, sum_mul n f c, add-mul (f n) (sum n f) c)

pub sum_const : (n c : ℕ) → sum n (λ i. c) ≡ n * c
unfolding sum
sum_const zero c = omega arith
sum_const (suc n) c = omega (arith, sum_const n c)

pub sum_bound : (n : ℕ) (f : ℕ → ℕ) (c : ℕ) → ((i : ℕ) → i < n → f i ≤ c) → sum n f ≤ n * c
sum_bound n f c h = omega (arith, sum_le n f (λ i. c) h, sum_const n c)

-- a table's rows summed, or its columns
pub sum_swap : (m n : ℕ) (f : ℕ → ℕ → ℕ) → sum m (λ i. sum n (f i)) ≡ sum n (λ j. sum m (λ i. f i j))
unfolding sum
sum_swap zero n f = sym (sum_zero n (λ j. 0) (λ i l. refl))
sum_swap (suc m) n f = omega (arith, sum_swap m n f, sum_add n (f m) (λ j. sum m (λ i. f i j)))

-- one term changes
pub sum_update :
    (n : ℕ) (f g : ℕ → ℕ) (k : ℕ) → k < n → ((i : ℕ) → i < n → (i ≡ k → ⊥) → f i ≡ g i) → sum n g + f k ≡ sum n f + g k
unfolding sum
sum_update zero f g k l h = absurd (omega arith)
sum_update (suc n) f g k l h =
    elim (cases_eq k n) [
      | inl e ↦ rw e (omega (arith, sum_same n f g (λ i m. h i (omega arith) (omega arith))))
      | inr ne ↦
          omega
          (arith, h n (omega arith) (omega arith), sum_update n f g k (omega arith) (λ i m. h i (omega arith)))
    ]

-- all terms but one are 0
pub sum_one : (n : ℕ) (f : ℕ → ℕ) (k : ℕ) → k < n → ((i : ℕ) → i < n → (i ≡ k → ⊥) → f i ≡ 0) → sum n f ≡ f k
sum_one n f k l h =
    omega
    (arith, sum_update n f (λ i. 0) k l h, sum_zero n (λ i. 0) (λ i m. refl))

-- two terms change
pub sum_two :
    (n : ℕ) (f g : ℕ → ℕ) (a b : ℕ) → a < n → b < n → (a ≡ b → ⊥) →
    ((i : ℕ) → i < n → (i ≡ a → ⊥) → (i ≡ b → ⊥) → f i ≡ g i) →
    sum n g + (f a + f b) ≡ sum n f + (g a + g b)
sum_two n f g a b la lb ne h =
    let mid : ℕ → ℕ = λ i. cond (eqb i a) (g a) (f i) in
    let u =
    sum_update n f mid a la (λ i l d. grind (arith, nat_tests)) in
    let v = sum_update n mid g b lb (λ i l d. elim (cases_eq i a) [ inl e ↦ rw e (grind (arith, nat_tests)) | inr na ↦ let w = h i l na d in grind (arith, nat_tests) ]) in
    let ma : mid a ≡ g a = grind (arith, nat_tests) in
    let mb : mid b ≡ f b = grind (arith, nat_tests) in
    omega (arith, u, v, ma, mb)

-- a test and its complement
pub part_parts : (n : ℕ) (p : ℕ → Bool) (f : ℕ → ℕ) → part n p f + part n (λ i. not (p i)) f ≡ sum n f
part_parts n p f =
    sym (sum_add n (λ i. cond (p i) (f i) 0) (λ i. cond (not (p i)) (f i) 0)) ∙ sum_same n _ f (λ i l. grind arith)

-- a set and what lies within it and outside of another
pub part_split :
    (n : ℕ) (p q : ℕ → Bool) (f : ℕ → ℕ) → part n (both p q) f + part n (without p q) f ≡ part n p f
part_split n p q f =
    sym (sum_add n (λ i. cond (p i && q i) (f i) 0) (λ i. cond (p i && not (q i)) (f i) 0))
    ∙ sum_same n _ (λ i. cond (p i) (f i) 0) (λ i l. grind arith)

-- the union and the intersection of two sets
pub part_union :
    (n : ℕ) (p q : ℕ → Bool) (f : ℕ → ℕ) → part n (either p q) f + part n (both p q) f ≡ part n p f + part n q f
part_union n p q f =
    sym (sum_add n (λ i. cond (p i || q i) (f i) 0) (λ i. cond (p i && q i) (f i) 0))
    ∙ (sum_same n _ (λ i. cond (p i) (f i) 0 + cond (q i) (f i) 0) (λ i l. grind arith)
    ∙ sum_add n (λ i. cond (p i) (f i) 0) (λ i. cond (q i) (f i) 0))

-- a larger set has the larger sum
pub part_mono :
    (n : ℕ) (p q : ℕ → Bool) (f : ℕ → ℕ) → ((i : ℕ) → i < n → p i ≡ true → q i ≡ true) → part n p f ≤ part n q f
part_mono n p q f h = sum_le n _ _ (λ i l. let k = h i l in grind arith)

pub part_le : (n : ℕ) (p : ℕ → Bool) (f : ℕ → ℕ) → part n p f ≤ sum n f
part_le n p f = sum_le n _ f (λ i l. grind arith)

-- terms that are at most others on a set
pub part_le_on :
    (n : ℕ) (p : ℕ → Bool) (f g : ℕ → ℕ) → ((i : ℕ) → i < n → p i ≡ true → f i ≤ g i) → part n p f ≤ part n p g
part_le_on n p f g h = sum_le n _ _ (λ i l. let k = h i l in grind arith)

-- terms that are equal on a set
pub part_same_on :
    (n : ℕ) (p : ℕ → Bool) (f g : ℕ → ℕ) → ((i : ℕ) → i < n → p i ≡ true → f i ≡ g i) → part n p f ≡ part n p g
part_same_on n p f g h = sum_same n _ _ (λ i l. let k = h i l in grind arith)

-- equal tests have equal sums
pub part_same_test :
    (n : ℕ) (p q : ℕ → Bool) (f : ℕ → ℕ) → ((i : ℕ) → i < n → p i ≡ q i) → part n p f ≡ part n q f
part_same_test n p q f h = sum_same n _ _ (λ i l. let k = h i l in grind arith)

-- c for each member
pub part_const : (n : ℕ) (p : ℕ → Bool) (c : ℕ) → part n p (λ i. c) ≡ size n p * c
part_const n p c = sum_same n _ (λ i. cond {A = ℕ} (p i) 1 0 * c) (λ i l. elim (p i) as (λ b. cond b c 0 ≡ cond {A = ℕ} b 1 0 * c) [ true ↦ omega arith | false ↦ omega arith ]) ∙ sum_mul n (λ i. cond (p i) 1 0) c

pub size_le : (n : ℕ) (p : ℕ → Bool) → size n p ≤ n
size_le n p = omega (arith, sum_bound n (λ i. cond (p i) 1 0) 1 (λ i l. grind arith))

-- a set with a member isn't empty
pub size_has : (n : ℕ) (p : ℕ → Bool) (k : ℕ) → k < n → p k ≡ true → 0 < size n p
size_has n p k l h = let a = sum_at n (λ i. cond (p i) 1 0) k l in grind arith

-- a set that isn't empty has a member
pub size_some : (n : ℕ) (p : ℕ → Bool) → 0 < size n p → (i : ℕ) × (i < n) × (p i ≡ true)
size_some n p h = let r = sum_some n (λ i. cond (p i) 1 0) h in (r.0, r.1, (let w = r.2 in grind arith))

-- a proper part is smaller
pub size_more :
    (n : ℕ) (p q : ℕ → Bool) → ((i : ℕ) → i < n → p i ≡ true → q i ≡ true) → (k : ℕ) → k < n → p k ≡ false → q k ≡ true →
    size n p < size n q
size_more n p q h k l out inn =
    sum_lt n (λ i. cond (p i) 1 0) (λ i. cond (q i) 1 0) (λ i m. let w = h i m in grind arith) k l (grind arith)

-- an index where P holds, or Q holds at each
pub look :
    {P Q : ℕ → Type 0} (n : ℕ) → ((i : ℕ) → i < n → P i ⊎ Q i) → ((i : ℕ) × (i < n) × P i) ⊎ ((i : ℕ) → i < n → Q i)
look zero h = inr (λ i l. absurd (omega arith))
look {P} {Q} (suc n) h =
    elim (h n (omega arith)) [
      | inl p ↦ inl (n, omega arith, p)
      | inr q ↦
          elim (look {P = P} {Q = Q} n (λ i l. h i (omega arith))) [
            | inl r ↦ inl (r.0, omega (arith, r.1), r.2)
            | inr all ↦ inr (λ i l. elim (cases_eq i n) [ inl e ↦ rw e q | inr ne ↦ all i (omega arith) ])
          ]
    ]

pub any_some : (n : ℕ) (p : ℕ → Bool) → any n p ≡ true → (i : ℕ) × (i < n) × (p i ≡ true)
unfolding any
any_some zero p h = absurd (grind arith)
any_some (suc n) p h =
    elim (cases_Bool (p n)) [
      | inl t ↦ (n, omega arith, t)
      | inr f ↦ (let r = any_some n p (grind arith) in (r.0, omega (arith, r.1), r.2))
    ]

pub any_none : (n : ℕ) (p : ℕ → Bool) → any n p ≡ false → (i : ℕ) → i < n → p i ≡ false
unfolding any
any_none zero p h i l = absurd (omega arith)
any_none (suc n) p h i l =
    elim (cases_eq i n) [ inl e ↦ rw e (grind arith) | inr ne ↦ any_none n p (grind arith) i (omega arith) ]

pub any_has : (n : ℕ) (p : ℕ → Bool) (k : ℕ) → k < n → p k ≡ true → any n p ≡ true
any_has n p k l h =
    elim (cases_Bool (any n p)) [ inl t ↦ t | inr f ↦ (let w = any_none n p f k l in absurd (grind arith)) ]

pub any_hasn't : (n : ℕ) (p : ℕ → Bool) → ((i : ℕ) → i < n → p i ≡ false) → any n p ≡ false
any_hasn't n p h =
    elim (cases_Bool (any n p)) [
      | inl t ↦ (let r = any_some n p t in let w = h r.0 r.1 in let v = r.2 in absurd (grind arith))
      | inr f ↦ f
    ]

-- a factor taken out of the sum over a set
pub part_mul : (n : ℕ) (p : ℕ → Bool) (f : ℕ → ℕ) (c : ℕ) → part n p (λ i. f i * c) ≡ part n p f * c
part_mul n p f c =
    sum_same n _ (λ i. cond (p i) (f i) 0 * c)
    (λ i l. elim (p i) as (λ b. cond b (f i * c) 0 ≡ cond b (f i) 0 * c) [ true ↦ refl | false ↦ omega arith ])
    ∙ sum_mul n (λ i. cond (p i) (f i) 0) c

-- the rows of a set summed, or the columns of these rows
pub part_swap :
    (m n : ℕ) (p : ℕ → Bool) (f : ℕ → ℕ → ℕ) → part m p (λ i. sum n (f i)) ≡ sum n (λ j. part m p (λ i. f i j))
part_swap m n p f =
    sum_same m _ (λ i. sum n (λ j. cond (p i) (f i j) 0))
    (λ i l. elim (p i) as (λ b. cond b (sum n (f i)) 0 ≡ sum n (λ j. cond b (f i j) 0)) [
      | true ↦ refl
      | false ↦ sym (sum_zero n (λ j. 0) (λ j k. refl))
    ])
    ∙ sum_swap m n (λ i j. cond (p i) (f i j) 0)

-- what is 0 outside a set adds up within it
pub part_all :
    (n : ℕ) (p : ℕ → Bool) (f : ℕ → ℕ) → ((i : ℕ) → i < n → p i ≡ false → f i ≡ 0) → part n p f ≡ sum n f
part_all n p f h = sum_same n _ f (λ i l. let k = h i l in grind arith)

-- terms taken by an index each, no two the same, add up to at most all
pub sum_inject :
    (m n : ℕ) (f : ℕ → ℕ) (g : ℕ → ℕ) → ((j : ℕ) → j < m → f j < n) →
    ((i j : ℕ) → i < j → j < m → f i ≡ f j → ⊥) → sum m (λ j. g (f j)) ≤ sum n g
unfolding sum
sum_inject zero n f g within apart = omega arith
sum_inject (suc m) n f g within apart =
    let rest : ℕ → ℕ = λ i. cond (eqb i (f m)) 0 (g i) in
    let u = sum_update n g rest (f m) (within m (omega arith)) (λ i l ne. grind (arith, nat_tests)) in
    let gone : rest (f m) ≡ 0 = grind (arith, nat_tests) in
    let same =
    sum_same m (λ j. g (f j)) (λ j. rest (f j)) (λ j l. let d = apart j m l (omega arith) in grind (arith, nat_tests)) in
    let r = sum_inject m n f rest (λ j l. within j (omega arith)) (λ i j l k. apart i j l (omega arith)) in
    omega (arith, u, gone, same, r)

-- terms from m on that are 0 add nothing
pub sum_tail : (m n : ℕ) (f : ℕ → ℕ) → m ≤ n → ((i : ℕ) → m ≤ i → i < n → f i ≡ 0) → sum n f ≡ sum m f
unfolding sum
sum_tail m zero f l h = let e : m ≡ 0 = omega arith in rw e
sum_tail m (suc n) f l h =
    elim (cases_eq m (suc n)) [
      | inl e ↦ rw e
      | inr ne ↦ omega (arith, h n (omega arith) (omega arith), sum_tail m n f (omega arith) (λ i k j. h i k (omega arith)))
    ]

-- what passes one test passes another
pub any_more :
    (n : ℕ) (p q : ℕ → Bool) → ((i : ℕ) → i < n → p i ≡ true → q i ≡ true) → any n p ≡ true → any n q ≡ true
any_more n p q h t = let r = any_some n p t in any_has n q r.0 r.1 (h r.0 r.1 r.2)

-- equal tests
pub any_same : (n : ℕ) (p q : ℕ → Bool) → ((i : ℕ) → i < n → p i ≡ q i) → any n p ≡ any n q
unfolding any
any_same zero p q h = refl
any_same (suc n) p q h = rw (h n (omega arith), any_same n p q (λ i l. h i (omega arith))) refl
