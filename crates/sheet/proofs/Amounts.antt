-- The amounts of a task, as they are listed.
use Rattle.std.proofs.Common.{◌≡◌, ℕ, zero, suc, ◌+◌, ◌-◌, ◌*◌, ◌/◌, ◌<◌, ◌≤◌, Bool, List, [], length, take, drop, get_or, sym, refl, ap, ◌∙◌, inl, inr, le_refl, arith}
use Rattle.std.specs.Int.{w64, from_le_bytes}
use Rattle.std.specs.List.{sum_by}
use Rattle.std.specs.Simd.{first_chunks}
use Rattle.std.proofs.lemmas.List.{take_all}
use Rattle.std.proofs.lemmas.List.Sums.{sum_by_more}
use Rattle.std.proofs.lemmas.Bool.{cases_Bool}
use Rattle.fraction.specs.Sum.{sum, size}
use Rattle.fraction.proofs.Sums.{sum_none, sum_more, sum_same}
use Rattle.even.specs.Day.{Day}
use Rattle.sheet.specs.Layout.{Amounts, Starts, listed, written}
use Rattle.sheet.specs.Sheet.{amount, start, word}
use Rattle.sheet.proofs.ByTask.{amounts_listed, listed_skip, listed_take, size_skip, size_take}
use Rattle.sheet.proofs.Chunks.{chunk_written, slice_long}
use Rattle.sheet.proofs.Places.{start_more, start_mono}

-- the amounts for the hours of a set stand one behind another
listed_sum_more :
    (b : List ℕ) (p n : ℕ) (set : ℕ → Bool) → sum n (listed b p set) ≡ sum (size n set) (λ k. word b (p + k * 8)) →
    sum (n + 1) (listed b p set) ≡ sum (size (n + 1) set) (λ k. word b (p + k * 8))
listed_sum_more b p n set h =
    elim (cases_Bool (set n)) [
      | inl t ↦
          rw (size_take n set t)
          (omega
          (arith, h, sum_more n (listed b p set), sum_more (size n set) (λ k. word b (p + k * 8)), listed_take b p n (p + size n set * 8) set t refl))
      | inr f ↦ rw (size_skip n set f) (omega (arith, h, sum_more n (listed b p set), listed_skip b p n set f))
    ]

pub listed_sum :
    (b : List ℕ) (p n : ℕ) (set : ℕ → Bool) → sum n (listed b p set) ≡ sum (size n set) (λ k. word b (p + k * 8))
listed_sum b p zero set =
    let none : size 0 set ≡ 0 = sum_none _ in sum_none _ ∙ sym (rw none (sum_none _))
listed_sum b p (suc n) set = rw native.Mathlib.Numerals.add-one at (listed_sum_more b p n set (listed_sum b p n set))

-- the sum of a list of amounts
written_more :
    (ws : List (List ℕ)) (n : ℕ) → n < length ws → sum_by (from_le_bytes w64) (take n ws) ≡ sum n (written ws) →
    sum_by (from_le_bytes w64) (take (n + 1) ws) ≡ sum (n + 1) (written ws)
written_more ws n l h = sum_by_more (from_le_bytes w64) ws n [] l ∙ omega (arith, h, sum_more n (written ws))

written_sum :
    (ws : List (List ℕ)) (n : ℕ) → n ≤ length ws → sum_by (from_le_bytes w64) (take n ws) ≡ sum n (written ws)
written_sum ws zero l = sym (sum_none _)
written_sum ws (suc n) l =
    rw native.Mathlib.Numerals.add-one at (written_more ws n (omega arith) (written_sum ws n (omega arith)))

module _ {y : Day} {b : List ℕ} where
  pub amounts_sum :
      {j : ℕ} {ws : List (List ℕ)} → Amounts y b j ws → sum_by (from_le_bytes w64) ws ≡ sum y.hours (amount y b j)
  amounts_sum {j} {ws} a =
      ap (λ v. sum_by (from_le_bytes w64) v) (sym (take_all (length ws) ws (le_refl _)))
      ∙ (written_sum ws (length ws) (le_refl _)
      ∙ (sum_same (length ws) (written ws) (λ k. word b (start y b j + 1 + k * 8)) a.each
      ∙ (ap (λ n. sum n (λ k. word b (start y b j + 1 + k * 8))) a.long
      ∙ (sym (listed_sum b (start y b j + 1) y.hours (y.may j)) ∙ amounts_listed y b j (start y b j + 1) refl))))

  module _ {starts : List ℕ} (s : Starts y b starts) (j : ℕ) (l : j < y.tasks) where
    -- they stand between the group of the task and the start of the next
    pub amounts_end : get_or starts (j + 1) 0 ≡ get_or starts j 0 + 1 + size y.hours (y.may j) * 8
    amounts_end = omega (arith, s.each j (omega arith), s.each (j + 1) (omega arith), start_more y b j)

    pub amounts_in : get_or starts (j + 1) 0 ≤ length b
    amounts_in = omega (arith, s.sized, s.each (j + 1) (omega arith), start_mono y b (j + 1) y.tasks (omega arith))

    pub amounts_made :
        (ws : List (List ℕ)) (p len : ℕ) → p ≡ get_or starts j 0 + 1 → len ≡ get_or starts (j + 1) 0 - p →
        ws ≡ first_chunks 8 (length (take len (drop p b)) / 8) (take len (drop p b)) →
        length ws ≡ length (take len (drop p b)) / 8 → Amounts y b j ws
    amounts_made ws p len e f made long =
        let fits : p + len ≤ length b = omega (arith, amounts_end, amounts_in) in
        let at : p ≡ start y b j + 1 = omega (arith, e, s.each j (omega arith)) in
        let count : length ws ≡ size y.hours (y.may j) = omega (arith, long, slice_long b p len fits, amounts_end, e, f) in
        record {
          long = count;
          each =
              λ k m.
              ap (λ v. written v k) made
              ∙ (chunk_written b p len k fits (omega (arith, m, count, amounts_end, e, f)) ∙ ap (λ q. word b (q + k * 8)) at);
        }
