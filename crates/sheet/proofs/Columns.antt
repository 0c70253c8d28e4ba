-- A column of a sheet, task by task.
use Rattle.std.proofs.Common.{◌≡◌, ℕ, ◌+◌, ◌*◌, ◌/◌, ◌^◌, ◌<◌, ◌≤◌, Bool, true, false, cond, List, length, get_or, set, sym, refl, ◌∙◌, inl, inr, arith, length-set, get_or-set_other, get_or-set_same}
use Rattle.std.proofs.lemmas.Bool.{cases_eq}
use Rattle.fraction.specs.Sum.{sum}
use Rattle.fraction.proofs.Sums.{sum_none, sum_more}
use Rattle.even.specs.Whole.{whole}
use Rattle.night.specs.Task.{may}
use Rattle.night.specs.declared.task.Task.{Task}
use Rattle.sheet.specs.Limbs.{base}
use Rattle.sheet.specs.Layout.{lies}
use Rattle.sheet.specs.Sheet.{word}
use Rattle.sheet.specs.Tally.{parts}
use Rattle.sheet.specs.declared.tally.Tally.{Tally}
use Rattle.sheet.proofs.Words.{sum_fits}

-- a word is below 2^64
pub word_fits : (b : List ℕ) (p : ℕ) → ((i : ℕ) → get_or b i 0 < 2 ^ 8) → word b p < 2 ^ 64
unfolding word
word_fits b p h =
    omega (arith, h p, h (p + 1), h (p + 2), h (p + 3), h (p + 4), h (p + 5), h (p + 6), h (p + 7))

-- the sum of hour s over the first j tasks, and where the next amounts stand
pub record Column (ts : List Task) (b overs was : List ℕ) (s j : ℕ) (t : Tally) (at : List ℕ) : Type 0 where
  pub long : length at ≡ 201
  pub sum : parts t ≡ sum j (lies ts b overs was s)
  pub next : (i : ℕ) → i < j → get_or at i 0 ≡ get_or was i 0 + cond (may ts i s) 8 0
  pub left : (i : ℕ) → j ≤ i → get_or at i 0 ≡ get_or was i 0

pub column_small :
    (ts : List Task) (b overs was : List ℕ) (s n : ℕ) → n ≤ 200 → ((i : ℕ) → get_or b i 0 < 2 ^ 8) →
    sum n (lies ts b overs was s) < base 7
column_small ts b overs was s n l h =
    sum_fits n (λ j. cond (may ts j s) (word b (get_or was j 0 + 1)) 0) (λ j. get_or overs j 0) l (λ j m. bounded j (may ts j s))
  where
    bounded : (j : ℕ) (m : Bool) → cond m (word b (get_or was j 0 + 1)) 0 < 2 ^ 64
    bounded j true = word_fits b (get_or was j 0 + 1) h
    bounded j false = omega arith

module _ {ts : List Task} {b overs was : List ℕ} {s : ℕ} where
  pub column_none : (t : Tally) → length was ≡ 201 → parts t ≡ 0 → Column ts b overs was s 0 t was
  column_none t l z =
      record { long = l; sum = z ∙ sym (sum_none _); next = λ i h. absurd (omega arith); left = λ i h. refl }

  module _ {j : ℕ} {t : Tally} {at : List ℕ} (c : Column ts b overs was s j t at) where
    -- a task that may not be done in the hour
    pub column_skip : may ts j s ≡ false → Column ts b overs was s (j + 1) t at
    column_skip m =
        let none : lies ts b overs was s j ≡ 0 = rw m (omega arith) in
        let stays : cond {A = ℕ} (may ts j s) 8 0 ≡ 0 = rw m refl in
        record {
          long = c.long;
          sum = omega (arith, c.sum, none, sum_more j (lies ts b overs was s));
          next =
              λ i l.
              elim (cases_eq i j) [
                | inl e ↦ rw e (omega (arith, c.left j (omega arith), stays))
                | inr ne ↦ c.next i (omega arith)
              ];
          left = λ i l. c.left i (omega arith);
        }

    -- the amount of a task that may
    pub column_some :
        (p : ℕ) → may ts j s ≡ true → p ≡ get_or at j 0 → lies ts b overs was s j ≡ word b (p + 1) * (whole / get_or overs j 0)
    column_some p m g =
        let here : get_or at j 0 ≡ get_or was j 0 = c.left j (omega arith) in
        rw (m, g, here) refl

    pub column_room :
        (p w : ℕ) → j < 200 → ((i : ℕ) → get_or b i 0 < 2 ^ 8) → may ts j s ≡ true → p ≡ get_or at j 0 → w ≡ word b (p + 1) →
        parts t + w * (whole / get_or overs j 0) < base 7
    column_room p w l h m g e =
        rw e
        (omega
        (arith, c.sum, column_some p m g, sum_more j (lies ts b overs was s), column_small ts b overs was s (j + 1) (omega arith) h))

    -- a task that may
    pub column_take :
        (u : Tally) (p w : ℕ) → j < 201 → may ts j s ≡ true → p ≡ get_or at j 0 → w ≡ word b (p + 1) →
        parts u ≡ parts t + w * (whole / get_or overs j 0) →
        Column ts b overs was s (j + 1) u (set at j (p + 8))
    column_take u p w l m g v e =
        let here : get_or at j 0 ≡ get_or was j 0 = c.left j (omega arith) in
        let some : lies ts b overs was s j ≡ w * (whole / get_or overs j 0) = rw v (column_some p m g) in
        let goes : cond {A = ℕ} (may ts j s) 8 0 ≡ 8 = rw m refl in
        record {
          long = simp length-set c.long;
          sum = omega (arith, c.sum, e, some, sum_more j (lies ts b overs was s));
          next =
              λ i h.
              elim (cases_eq i j) [
                | inl q ↦ rw q (omega (arith, get_or-set_same at j (p + 8) 0 (omega (arith, c.long)), g, here, goes))
                | inr ne ↦ get_or-set_other at j i (p + 8) 0 ne ∙ c.next i (omega arith)
              ];
          left = λ i h. get_or-set_other at j i (p + 8) 0 (omega arith) ∙ c.left i (omega arith);
        }
