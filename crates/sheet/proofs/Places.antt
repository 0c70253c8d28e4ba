-- Where a sheet's bytes stand: laws of starts and places.
use Rattle.std.proofs.Common.{◌≡◌, ℕ, zero, suc, ◌+◌, ◌*◌, ◌/◌, ◌%◌, ◌<◌, ◌≤◌, true, cond, List, length, get_or, sym, refl, ap, inl, inr, mul-le-mul_right, arith, le-ltb, lt-ltb}
use Rattle.std.proofs.lemmas.Bool.{cases_eq, cases_Bool}
use Rattle.fraction.specs.Sum.{sum, size}
use Rattle.fraction.proofs.Sums.{sum_none, sum_more, sum_step, sum_mono, sum_bound, size_le}
use Rattle.even.specs.Day.{Day}
use Rattle.night.specs.Format.{width}
use Rattle.sets.specs.Hours.{has}
use Rattle.night.specs.Task.{Sound, blank_task, may}
use Rattle.night.proofs.Rows.{has_within}
use Rattle.night.specs.declared.task.Task.{Task}
use Rattle.sets.specs.Bit.{bit}
use Rattle.sheet.specs.First.{first}
use Rattle.sheet.specs.Layout.{Starts}
use Rattle.sheet.specs.Verdict.{Sized}
use Rattle.sheet.specs.Sheet.{den, first_of, group, groups, over, place, row, start, within}

-- terms that are 0 from n on add nothing
pub sum_cut : (n m : ℕ) (f : ℕ → ℕ) → n ≤ m → ((i : ℕ) → n ≤ i → i < m → f i ≡ 0) → sum m f ≡ sum n f
unfolding sum
sum_cut n zero f l h = let e : n ≡ 0 = omega arith in rw e refl
sum_cut n (suc m) f l h =
    elim (cases_eq n (suc m)) [
      | inl e ↦ ap (λ k. sum k f) (sym e)
      | inr ne ↦ omega (arith, h m (omega arith) (omega arith), sum_cut n m f (omega arith) (λ i a b. h i a (omega arith)))
    ]

-- an hour in which a task may be done is one of the night
pub hour_in : {n : ℕ} {ts : List Task} → Sound n ts → (j : ℕ) → j < length ts → (s : ℕ) → may ts j s ≡ true → s < n
hour_in {n} {ts} w j l s m = has_within (get_or ts j blank_task).hours n s (w.each j l).2 m

-- a task's row of hours lies within the hours of its night
pub row_count :
    (n : ℕ) (ts : List Task) (j : ℕ) → Sound n ts → j < length ts →
    size 128 (has (get_or ts j blank_task).hours) ≡ size n (may ts j)
row_count n ts j s l =
    sum_cut n 128 (λ i. cond (may ts j i) 1 0) (omega (arith, s.short))
    (λ i a b.
    elim (cases_Bool (may ts j i)) [
      | inl t ↦ absurd (omega (arith, hour_in s j l i t))
      | inr f ↦ rw f refl
    ])

module _ (y : Day) where
  pub row_le : (j : ℕ) → y.hours ≤ 96 → row y j ≤ 769
  row_le j l = omega (arith, size_le y.hours (y.may j))

  pub rows_le : (j : ℕ) → y.hours ≤ 96 → sum j (row y) ≤ j * 769
  rows_le j l = sum_bound j (row y) 769 (λ i m. row_le i l)

  module _ (b : List ℕ) where
    pub start_none : start y b 0 ≡ y.hours * 9 + 1 + groups y b * width y.hours
    unfolding start
    start_none = omega (arith, sum_none (row y))

    pub start_more : (j : ℕ) → start y b (j + 1) ≡ start y b j + row y j
    unfolding start
    start_more j = omega (arith, sum_more j (row y))

    -- the bytes of a task lie before the end
    pub start_end : (j n : ℕ) → j < n → start y b j + row y j ≤ start y b n
    unfolding start
    start_end j n l = omega (arith, sum_step j n (row y) l)

    pub start_mono : (j n : ℕ) → j ≤ n → start y b j ≤ start y b n
    unfolding start
    start_mono j n l = omega (arith, sum_mono j n (row y) l)

    -- so do those of an amount
    pub place_end :
        (j s n : ℕ) → j < n → s < y.hours → y.may j s ≡ true → place y b j s + 8 ≤ start y b n
    place_end j s n l h m =
        let t = sum_step s y.hours (λ i. cond (y.may j i) 1 0) h in
        let o : cond {A = ℕ} (y.may j s) 1 0 ≡ 1 = rw m refl in
        omega (arith, t, o, start_end j n l)

    -- and those of a group's row of bits
    pub group_end :
        (g n : ℕ) → g < groups y b → y.hours * 9 + 1 + g * width y.hours + width y.hours ≤ start y b n
    group_end g n l =
        omega (arith, start_none, start_mono 0 n (omega arith), mul-le-mul_right (width y.hours) l)

    -- the denominator of a task's amounts, by cases
    pub over_missing : (j : ℕ) → groups y b ≤ group y b j → over y b j ≡ 0
    unfolding over
    over_missing j l = rw (le-ltb (group y b j) (groups y b) l) refl

    pub over_empty :
        (j : ℕ) → group y b j < groups y b → y.hours ≤ first_of y b (group y b j) → over y b j ≡ 0
    unfolding over
    over_empty j l m =
        rw (lt-ltb (group y b j) (groups y b) l) (rw (le-ltb (first_of y b (group y b j)) y.hours m) refl)

    pub over_some :
        (j : ℕ) → group y b j < groups y b → first_of y b (group y b j) < y.hours →
        over y b j ≡ den b (first_of y b (group y b j))
    unfolding over
    over_some j l m =
        rw (lt-ltb (group y b j) (groups y b) l) (rw (lt-ltb (first_of y b (group y b j)) y.hours m) refl)

    -- a sheet as long as it has to be has the loads of its hours, its number of groups and its tasks' groups
    pub loads_in : Sized y b → y.hours * 9 < length b
    loads_in e = omega (arith, e, start_none, start_mono 0 y.tasks (omega arith))

    pub load_in : {starts : List ℕ} → Starts y b starts → (s : ℕ) → s < y.hours → s * 9 + 9 ≤ length b
    load_in w s l = omega (arith, loads_in w.sized)

    pub task_in : Sized y b → (j : ℕ) → j < y.tasks → start y b j < length b
    task_in e j l = omega (arith, e, start_end j y.tasks l)

    -- the first bit in the row of bits of group g
    pub first_at :
        (g w : ℕ) → w ≡ width y.hours →
        first y.hours (λ i. bit (get_or b (y.hours * 9 + 1 + g * w + i / 8) 0) (i % 8)) ≡ first_of y b g
    unfolding within
    first_at g w e = rw e refl

    -- the start of task j, by the number of groups
    pub start_from : (j w : ℕ) → w ≡ width y.hours → y.hours * 9 + 1 + groups y b * w + sum j (row y) ≡ start y b j
    unfolding start
    start_from j w e = rw e refl
