-- A look at the amounts of a task, hour by hour.
use Rattle.std.proofs.Common.{Some, ◌≡◌, ℕ, suc, ◌+◌, ◌*◌, ◌<◌, ◌≤◌, Bool, true, false, cond, List, ◌∷◌, length, sym, refl, ap, ◌∙◌, inl, inr, arith}
use Rattle.std.specs.Int.{w64, from_le_bytes}
use Rattle.std.proofs.lemmas.Bool.{cases_Bool, cases_lt}
use Rattle.fraction.specs.Sum.{size}
use Rattle.fraction.proofs.Sums.{sum_mono, sum_none}
use Rattle.sets.specs.Iter.{Takes}
use Rattle.sheet.specs.Layout.{Flat, listed, written}
use Rattle.sheet.specs.Sheet.{word}
use Rattle.sheet.proofs.ByTask.{listed_skip, listed_take, size_room, size_take}
use Rattle.sheet.proofs.Slopes.{flat_none}
use Rattle.sheet.proofs.Walks.{From, Came, came, from_all, from_end, size_gap}

-- what is still to come of the hours of a set and of their amounts, where the hours that came are flat
pub record Looks (b : List ℕ) (p n : ℕ) (set rest : ℕ → Bool) (ws : List (List ℕ)) : Type 0 where
  pub at : ℕ
  pub from : From set rest at
  pub long : length ws + size at set ≡ size n set
  pub each : (k : ℕ) → k < length ws → written ws k ≡ word b (p + (size at set + k) * 8)
  pub flat : Flat b p set n at

-- an hour comes with its amount
pub record Comes (b : List ℕ) (p n : ℕ) (set next : ℕ → Bool) (ws : List (List ℕ)) (i v : ℕ) : Type 0 where
  pub member : set i ≡ true
  pub flat : Flat b p set n i
  pub amount : v ≡ listed b p set i
  pub looks : Flat b p set n (i + 1) → Looks b p n set next ws

module _ (b : List ℕ) (p n : ℕ) (set : ℕ → Bool) where
  pub looks_first :
      (ws : List (List ℕ)) → length ws ≡ size n set → ((k : ℕ) → k < length ws → written ws k ≡ word b (p + k * 8)) →
      Looks b p n set set ws
  looks_first ws l e =
      let none : size 0 set ≡ 0 = sum_none (λ i. cond (set i) 1 0) in
      record {
        at = 0;
        from = from_all set;
        long = omega (arith, l, none);
        each = λ k m. e k m ∙ ap (λ q. word b q) (omega (arith, none));
        flat = flat_none b p set n;
      }

  flat_gap : (m i : ℕ) → Flat b p set n m → ((k : ℕ) → m ≤ k → k < i → set k ≡ false) → Flat b p set n i
  unfolding Flat
  flat_gap m i f h s t l q d r =
      elim (cases_lt s m) [
        | inl a ↦ f s t a q d r
        | inr g ↦ absurd (omega (arith, d, listed_skip b p s set (h s g l)))
      ]

  pub looks_comes :
      (rest next : ℕ → Bool) (w : List ℕ) (ws : List (List ℕ)) (k i : ℕ) → Looks b p n set rest (w ∷ ws) → Takes k rest (Some i) next →
      Comes b p n set next ws i (from_le_bytes w64 w)
  looks_comes rest next w ws k i l t =
      let c : Came set next l.at i = came set rest next k l.at i l.from t in
      let gap : size i set ≡ size l.at set = size_gap l.at i set c.after c.between in
      let take : size (i + 1) set ≡ size i set + 1 = size_take i set c.member in
      record {
        member = c.member;
        flat = flat_gap l.at i l.flat c.between;
        amount =
            l.each 0 (omega arith)
            ∙ (ap (λ q. word b q) (omega (arith, gap)) ∙ sym (listed_take b p i (p + size i set * 8) set c.member refl));
        looks =
            λ f.
            record {
              at = i + 1;
              from = c.from;
              long = omega (arith, l.long, gap, take);
              each = λ j m. l.each (suc j) (omega (arith, m)) ∙ ap (λ q. word b q) (omega (arith, gap, take));
              flat = f;
            };
      }

  -- at the end all hours came
  pub looks_end : (rest : ℕ → Bool) (ws : List (List ℕ)) → Looks b p n set rest ws → ((k : ℕ) → rest k ≡ false) → Flat b p set n n
  looks_end rest ws l z = flat_gap l.at n l.flat (λ k a m. from_end set rest l.at l.from z k a)

  -- and so they did where no amount is left
  pub looks_out : (rest : ℕ → Bool) (ws : List (List ℕ)) → Looks b p n set rest ws → length ws ≡ 0 → Flat b p set n n
  looks_out rest ws l z =
      flat_gap l.at n l.flat
      (λ k a m.
      elim (cases_Bool (set k)) [
        | inl h ↦ absurd (omega (arith, l.long, z, size_room k n set m h, sum_mono l.at k (λ i. cond (set i) 1 0) a))
        | inr h ↦ h
      ])

-- a number that isn't 0
pub some_of : (v w : ℕ) → (v ≡ 0 → ⊥) → v ≡ w → 0 < w
some_of v w h e = elim (cases_lt 0 w) [ inl l ↦ l | inr ge ↦ absurd (h (omega (arith, e, ge))) ]
