-- What a writer has put so far, step by step.
use Rattle.std.proofs.Common.{◌≡◌, ℕ, ◌+◌, ◌*◌, ◌/◌, ◌%◌, ◌<◌, ◌≤◌, true, List, length, get_or, sym, refl, ap, ◌∙◌, inl, inr, mul-le-mul_right, arith}
use Rattle.std.proofs.lemmas.Bool.{cases_eq}
use Rattle.fraction.specs.declared.exact.Fraction.{Fraction}
use Rattle.fraction.specs.Sum.{sum}
use Rattle.fraction.proofs.Sums.{sum_step}
use Rattle.even.specs.DayOf.{day}
use Rattle.sets.specs.Bit.{bit}
use Rattle.night.specs.Format.{width}
use Rattle.sets.specs.Hours.{blank, has}
use Rattle.night.specs.Task.{may}
use Rattle.sets.specs.declared.hours.Hours.{Hours}
use Rattle.night.specs.declared.task.Task.{Task}
use Rattle.sheet.specs.Layout.{listed}
use Rattle.sheet.specs.Sheet.{amount, den, groups, num, row, start, within}
use Rattle.sheet_writer.specs.Written.{GroupsPut, Kept, LoadsPut, Says, TasksPut, span}
use Rattle.sheet.proofs.ByTask.{size_room}
use Rattle.sheet.proofs.Places.{start_end, start_from}
use Rattle.sheet_writer.proofs.Puts.{listed_kept, word_same}

-- one load more
pub loads_more :
    {n : ℕ} {loads : List Fraction} {b b' : List ℕ} → LoadsPut n loads b → Kept (n * 9) (n * 9 + 9) b b' →
    ((d : Fraction) → num b' n ≡ (get_or loads n d).num) → ((d : Fraction) → den b' n ≡ (get_or loads n d).den) →
    LoadsPut (n + 1) loads b'
loads_more {n} {loads} {b} {b'} w k e f =
    record {
      nums =
          λ s d l.
          elim (cases_eq s n) [
            | inl q ↦ rw q (e d)
            | inr ne ↦ word_same b b' (s * 9) (λ i m h. k.before i (omega arith)) ∙ w.nums s d (omega arith)
          ];
      dens =
          λ s d l.
          elim (cases_eq s n) [
            | inl q ↦ rw q (f d)
            | inr ne ↦ k.before (s * 9 + 8) (omega arith) ∙ w.dens s d (omega arith)
          ];
    }

below : (g k : ℕ) → g < k → g + 1 ≤ k
below g k l = omega arith

-- one group more
pub groups_more :
    (k n p : ℕ) (groups : List Hours) (b b' : List ℕ) → GroupsPut k n p groups b →
    Kept (p + k * width n) (p + k * width n + width n) b b' →
    ((s : ℕ) → s < n → bit (get_or b' (p + k * width n + s / 8) 0) (s % 8) ≡ has (get_or groups k blank) s) →
    GroupsPut (k + 1) n p groups b'
groups_more k n p groups b b' w t h g s l m =
    elim (cases_eq g k) [
      | inl q ↦ rw q (h s m)
      | inr ne ↦
          ap (λ v. bit v (s % 8))
          (t.before (p + g * width n + s / 8) (omega (arith, mul-le-mul_right (width n) (below g k (omega arith)))))
          ∙ w g s (omega arith) m
    ]

-- one task more, put at its place
pub tasks_more :
    {m n p at next : ℕ} {ts : List Task} {of a b b' : List ℕ} → TasksPut m n p ts of a b → at ≡ p + sum m (row (day n ts)) →
    Kept at next b b' → get_or b' at 0 ≡ get_or of m 0 →
    ((s : ℕ) → s < n → may ts m s ≡ true → listed b' (at + 1) (may ts m) s ≡ get_or a (m * 96 + s) 0) →
    TasksPut (m + 1) n p ts of a b'
tasks_more {m} {n} {p} {at} {next} {ts} {of} {a} {b} {b'} w e k g f =
    record {
      groups =
          λ j l.
          elim (cases_eq j m) [
            | inl q ↦ rw q (ap (λ i. get_or b' i 0) (sym e) ∙ g)
            | inr ne ↦
                k.before (p + sum j (row (day n ts))) (omega (arith, e, sum_step j m (row (day n ts)) (omega arith)))
                ∙ w.groups j (omega arith)
          ];
      amounts =
          λ j s l h c.
          elim (cases_eq j m) [
            | inl q ↦ rw q (ap (λ i. listed b' (i + 1) (may ts m) s) (sym e) ∙ f s h (rw q at c))
            | inr ne ↦
                listed_kept b b' (p + sum j (row (day n ts)) + 1) s (may ts j)
                (λ i t. k.before i (omega (arith, e, sum_step j m (row (day n ts)) (omega arith), size_room s n (may ts j) h c)))
                ∙ w.amounts j s (omega arith) h c
          ];
    }

-- loads, the number of groups, the groups and the tasks, put one behind the other
pub says_by :
    (n : ℕ) (ts : List Task) (loads : List Fraction) (rows : List Hours) (k q : ℕ) (of a b₁ b₂ b₃ b₄ : List ℕ) →
    LoadsPut n loads b₁ → Kept (n * 9) (n * 9 + 1) b₁ b₂ → get_or b₂ (n * 9) 0 ≡ k → GroupsPut k n (n * 9 + 1) rows b₃ →
    Kept (n * 9 + 1) (n * 9 + 1 + k * width n) b₂ b₃ → TasksPut (length ts) n (n * 9 + 1 + k * width n) ts of a b₄ →
    Kept (n * 9 + 1 + k * width n) q b₃ b₄ → Says n ts loads rows k of a b₄
unfolding within amount
says_by n ts loads rows k q of a b₁ b₂ b₃ b₄ l k₂ c g k₃ t k₄ =
    let same : (i : ℕ) → i < n * 9 → get_or b₄ i 0 ≡ get_or b₁ i 0 =
    λ i m. k₄.before i (omega arith) ∙ (k₃.before i (omega arith) ∙ k₂.before i m) in
    let count : get_or b₄ (n * 9) 0 ≡ k = k₄.before (n * 9) (omega arith) ∙ (k₃.before (n * 9) (omega arith) ∙ c) in
    let begins : (j : ℕ) → start (day n ts) b₄ j ≡ n * 9 + 1 + k * width n + sum j (row (day n ts)) =
    λ j. sym (start_from (day n ts) b₄ j (width n) refl) ∙ ap (λ v. n * 9 + 1 + v * width n + sum j (row (day n ts))) count in
    record {
      nums = λ s d m. word_same b₁ b₄ (s * 9) (λ i h o. same i (omega arith)) ∙ l.nums s d m;
      dens = λ s d m. same (s * 9 + 8) (omega arith) ∙ l.dens s d m;
      count = count;
      hours =
          λ i s m h.
          ap (λ v. bit v (s % 8))
          (k₄.before (n * 9 + 1 + i * width n + s / 8) (omega (arith, mul-le-mul_right (width n) (below i k m))))
          ∙ g i s m h;
      of_task = λ j m. ap (λ p. get_or b₄ p 0) (begins j) ∙ t.groups j m;
      amounts = λ j s m h o. ap (λ p. listed b₄ (p + 1) (may ts j) s) (begins j) ∙ t.amounts j s m h o;
    }

-- a sheet says what its bytes up to its end say
pub says_same :
    {n : ℕ} {ts : List Task} {loads : List Fraction} {rows : List Hours} {k : ℕ} {of a b b' : List ℕ} →
    Says n ts loads rows k of a b → ((i : ℕ) → i < span (day n ts) k → get_or b' i 0 ≡ get_or b i 0) → Says n ts loads rows k of a b'
unfolding within amount
says_same {n} {ts} {loads} {rows} {k} {of} {a} {b} {b'} w same =
    let y = day n ts in
    let count : groups y b' ≡ k = same (n * 9) (omega arith) ∙ w.count in
    let begins : (j : ℕ) → start y b' j ≡ start y b j =
    λ j.
    sym (start_from y b' j (width n) refl)
    ∙ (ap (λ v. n * 9 + 1 + v * width n + sum j (row y)) (count ∙ sym w.count) ∙ start_from y b j (width n) refl) in
    let ends : (j : ℕ) → j < length ts → start y b j + row y j ≤ span y k =
    λ j l. omega (arith, start_end y b j (length ts) l, start_from y b (length ts) (width n) refl, ap (λ v. v * width n) w.count) in
    record {
      nums = λ s d m. word_same b b' (s * 9) (λ i h o. same i (omega arith)) ∙ w.nums s d m;
      dens = λ s d m. same (s * 9 + 8) (omega arith) ∙ w.dens s d m;
      count = count;
      hours =
          λ i s m h.
          ap (λ v. bit v (s % 8))
          (same (n * 9 + 1 + i * width n + s / 8) (omega (arith, mul-le-mul_right (width n) (below i k m))))
          ∙ w.hours i s m h;
      of_task =
          λ j m. ap (λ p. get_or b' p 0) (begins j) ∙ (same (start y b j) (omega (arith, ends j m)) ∙ w.of_task j m);
      amounts =
          λ j s m h o.
          ap (λ p. listed b' (p + 1) (may ts j) s) (begins j)
          ∙ (listed_kept b b' (start y b j + 1) s (may ts j)
          (λ i t. same i (omega (arith, ends j m, size_room s n (may ts j) h o)))
          ∙ w.amounts j s m h o);
    }
