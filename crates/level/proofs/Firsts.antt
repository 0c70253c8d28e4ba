-- The first number that passes a test.
use Rattle.std.proofs.Common.{◌≡◌, ℕ, zero, suc, ◌+◌, ◌<◌, Bool, true, false, cond, not, ◌&&◌, ◌||◌, ltb, List, ◌∷◌, length, get_or, drop, ◌-◌, sym, refl, ap, ◌∙◌, inl, inr, add-one, arith}
use Rattle.std.proofs.lemmas.List.{length-drop, get_or-drop, drop-drop}
use Rattle.std.proofs.lemmas.Bool.{cases_Bool, cases_eq, lt-ltb, le-ltb}
use Rattle.std.proofs.lemmas.Bool.Decides.{nat_tests}
use Rattle.fraction.specs.declared.exact.Fraction.{Fraction}
use Rattle.sets.specs.declared.hours.Hours.{Hours}
use Rattle.sets.specs.Hours.{has, blank}
use Rattle.level.specs.Load.{first, group_at, level_at}
use Rattle.level.specs.Parts.{nought}

-- none passes
pub first_none : (n : ℕ) (p : ℕ → Bool) → ((i : ℕ) → i < n → p i ≡ false) → first n p ≡ n
unfolding first
first_none zero p h = refl
first_none (suc n) p h =
    let e = first_none n p (λ i l. h i (omega arith)) in
    let z = h n (omega arith) in
    grind (arith, nat_tests)

-- k passes, and none before it
pub first_is : (n : ℕ) (p : ℕ → Bool) (k : ℕ) → k < n → p k ≡ true → ((i : ℕ) → i < k → p i ≡ false) → first n p ≡ k
unfolding first
first_is zero p k l y h = absurd (omega arith)
first_is (suc n) p k l y h =
    elim (cases_eq k n) [
      | inl e ↦
          (let z = first_none n p (λ i g. h i (omega arith)) in
          let y' : p n ≡ true = rw e at y in
          grind (arith, nat_tests))
      | inr ne ↦ (let z = first_is n p k (omega arith) y h in grind (arith, nat_tests))
    ]

-- one number more
pub first_more :
    (n : ℕ) (p : ℕ → Bool) → first (n + 1) p ≡ cond (ltb (first n p) n) (first n p) (cond (p n) n (suc n))
unfolding first
first_more n p = rw add-one refl

-- the group and the level of an hour, with one group more
module _ (k : ℕ) (hs : List Hours) (lv : List Fraction) (s : ℕ) where
  pub group_more : ltb (group_at (k + 1) hs s) (k + 1) ≡ (ltb (group_at k hs s) k || has (get_or hs k blank) s)
  group_more = let e = first_more k (λ g. has (get_or hs g blank) s) in grind (arith, nat_tests)

  pub level_more :
      level_at (k + 1) hs lv s
      ≡ cond (not (ltb (group_at k hs s) k) && has (get_or hs k blank) s) (get_or lv k nought) (level_at k hs lv s)
  level_more =
      let more = first_more k (λ g. has (get_or hs g blank) s) in
      elim (cases_Bool (ltb (group_at k hs s) k)) [
        | inl y ↦
            (let e : group_at (k + 1) hs s ≡ group_at k hs s = rw y at more in
            let t : ltb (group_at k hs s) (k + 1) ≡ true = grind (arith, nat_tests) in
            rw (e, t, y) refl)
        | inr z ↦
            elim (cases_Bool (has (get_or hs k blank) s)) [
              | inl h ↦
                  (let e : group_at (k + 1) hs s ≡ k = rw (z, h) at more in
                  let t : ltb k (k + 1) ≡ true = lt-ltb k (k + 1) (omega arith) in
                  rw (e, t, z, h) refl)
              | inr n ↦
                  (let e : group_at (k + 1) hs s ≡ suc k = rw (z, n) at more in
                  let t : ltb (suc k) (k + 1) ≡ false = le-ltb (suc k) (k + 1) (omega arith) in
                  rw (e, t, z, n) refl)
            ]
      ]

-- the level of an hour of no group
module _ (k : ℕ) (hs : List Hours) (lv : List Fraction) (s : ℕ) where
  pub level_none : ((i : ℕ) → i < k → has (get_or hs i blank) s ≡ false) → level_at k hs lv s ≡ nought
  level_none h =
      let e = first_none k (λ i. has (get_or hs i blank) s) h in
      let n : ltb k k ≡ false = le-ltb k k (omega arith) in
      rw e (rw n refl)

-- the next item of a list of which those from g on are left
pub rest_step :
    {X : Type 0} (xs rest ys : List X) (g : ℕ) (y d : X) → rest ≡ drop g xs → rest ≡ y ∷ ys →
    (g < length xs) × (get_or xs g d ≡ y) × (ys ≡ drop (g + 1) xs)
rest_step xs rest ys g y d e s =
    let t : y ∷ ys ≡ drop g xs = sym s ∙ e in
    let long : length (y ∷ ys) ≡ length xs - g = ap length t ∙ length-drop g xs in
    let here : get_or xs (g + 0) d ≡ y = sym (get_or-drop g xs 0 d) ∙ ap (λ v. get_or v 0 d) (sym t) in
    let none : g + 0 ≡ g = omega arith in
    (omega (arith, long), rw none at here, ap (drop 1) t ∙ drop-drop 1 g xs)
