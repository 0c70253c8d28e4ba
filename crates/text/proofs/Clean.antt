-- A text with no mistake says a night.
use Rattle.std.proofs.Common.{◌≡◌, ℕ, zero, suc, ◌+◌, ◌<◌, ◌≤◌, true, cond, eqb, ltb, List, [], ◌∷◌, ◌++◌, length, map, get_or, Some, None, Ok, Err, vec_items, Option, Result, String, sym, refl, ap, ◌∙◌, inl, inr, add-zero, arith}
use Rattle.std.proofs.lemmas.Bool.{cases_Bool, cases_eq, eq-eqb, or_cases, or_left}
use Rattle.std.proofs.lemmas.Bool.Decides.{nat_tests}
use Rattle.std.proofs.lemmas.Option.{none-some}
use Rattle.std.specs.Option.{IsSome, MatchOption}
use Rattle.std.specs.declared.alloc.Global.{Global}
use Rattle.fraction.proofs.Sums.{any_has}
use Rattle.night.specs.declared.task.Task.{Task}
use Rattle.sets.specs.Hours.{has}
use Rattle.night.specs.declared.night.Night.{Night}
use Rattle.night.specs.Night.{hours_of, tasks_of}
use Rattle.night.specs.Task.{blank_task, Fits, Sound}
use Rattle.night.proofs.Rows.{row_good}
use Rattle.text.specs.declared.mistake.Fault.{Fault}
use Rattle.text.specs.declared.span.Span.{Span}
use Rattle.text.specs.Header.{header_says, hours_said}
use Rattle.text.specs.declared.reading.Reading.{Reading}
use Rattle.text.specs.Lines.{content, silent, many, entries, last_hours, wrong_lines, no_header, wrong_text, lines, Listed, Read}
use Rattle.text.specs.Number.{numeral}
use Rattle.text.specs.Piece.{pieces, words, holds}
use Rattle.text.specs.Span.{from_to, between_dashes, spanned, names, covers, wrong_span, wrong_hours}
use Rattle.text.specs.TaskLine.{last_of, colon, head_words, hour_words, units_said, wrong_units, wrong_task, Entered}
use Rattle.text.specs.Reader.{Says}
use Rattle.text.specs.Told.{Told, tell}
use Rattle.text.specs.Unread.{Fit}
use Rattle.text.proofs.Going.{said_range}

-- a list of two parts that is empty
no_first : {X : Type 0} (xs ys : List X) → xs ++ ys ≡ [] → xs ≡ []
no_first [] ys e = refl
no_first (x ∷ xs) ys e = let z : ◌≡◌ {A = ℕ} 0 1 = cc in absurd (omega arith)

no_second : {X : Type 0} (xs ys : List X) → xs ++ ys ≡ [] → ys ≡ []
no_second [] ys e = e
no_second (x ∷ xs) ys e = let z : ◌≡◌ {A = ℕ} 0 1 = cc in absurd (omega arith)

no_cons : {X : Type 0} (P : Type 0) (x : X) (xs : List X) → x ∷ xs ≡ [] → P
no_cons P x xs e = let z : ◌≡◌ {A = ℕ} 0 1 = cc in absurd (omega arith)

-- a span runs forward, below n
abbrev Good : ℕ → Result Span Fault → Type 0
Good n (Ok s) = (s.from ≤ s.to) × (s.to < n)
Good n (Err e) = Unit {0}

good_ends : (n : ℕ) (a b : Option ℕ) → Good n (from_to n a b)
good_ends n None b = tt
good_ends n (Some a) None = tt
good_ends n (Some a) (Some b) =
    elim (cases_Bool (ltb b a)) [
      | inl e ↦ rw e tt
      | inr e ↦ elim (cases_Bool (ltb b n)) [ inl f ↦ rw (e, f) (grind (arith, nat_tests)) | inr f ↦ rw (e, f) tt ]
    ]

good_pieces : (n : ℕ) (ls : List (List ℕ)) → Good n (between_dashes n ls)
good_pieces n [] = tt
good_pieces n (a ∷ []) = good_ends n (numeral a) (numeral a)
good_pieces n (a ∷ (b ∷ [])) = good_ends n (numeral a) (numeral b)
good_pieces n (a ∷ (b ∷ (c ∷ ls))) = tt

-- an hour that is named lies below n
names_below : (n k : ℕ) (r : Result Span Fault) → Good n r → names r k ≡ true → k < n
names_below n k (Ok s) g e = grind (arith, nat_tests)
names_below n k (Err f) g e = let z : ◌≡◌ {A = ℕ} 0 1 = absurd (grind arith) in omega arith

covers_below : (n : ℕ) (ws : List (List ℕ)) (k : ℕ) → covers n ws k ≡ true → k < n
covers_below n [] k e = absurd (grind arith)
covers_below n (w ∷ ws) k e =
    elim (or_cases (names (spanned n w) k) (covers n ws k) e) [
      | inl h ↦ names_below n k (spanned n w) (good_pieces n (pieces (λ b. eqb b 45) w)) h
      | inr h ↦ covers_below n ws k h
    ]

-- words with no mistake name an hour
first_named :
    (n i : ℕ) (w : List ℕ) (r : Result Span Fault) → Good n r → wrong_span i w r ≡ [] → (k : ℕ) × (names r k ≡ true)
first_named n i w (Ok s) g e = (s.from, grind (arith, nat_tests))
first_named n i w (Err f) g e = no_cons _ _ _ e

some_named : (n i : ℕ) (ws : List (List ℕ)) → wrong_hours n i ws ≡ [] → (k : ℕ) × (covers n ws k ≡ true)
some_named n i [] e = no_cons _ _ _ e
some_named n i (w ∷ ws) e =
    let f = first_named n i w (spanned n w) (good_pieces n (pieces (λ b. eqb b 45) w)) (no_first _ _ e) in
    (f.0, or_left _ (covers n ws f.0) f.1)

few_units : (o : Option ℕ) → units_said o ≤ 1000000
few_units None = omega arith
few_units (Some u) = grind (arith, nat_tests)

-- a line with no mistake says a task of the night
pub clean_task :
    (n i : ℕ) (c : List ℕ) (t : Task) (s : String Global) → n ≤ 96 → Entered n c t s → wrong_task n i c ≡ [] → Fits n t
clean_task n i c t s small h e =
    elim (cases_Bool (holds colon c)) [
      | inl yes-colon ↦
          let parts : wrong_units i (last_of [] (head_words c)) (numeral (last_of [] (head_words c))) ++ wrong_hours n i (hour_words c) ≡ [] = rw yes-colon at e in
          let some = some_named n i (hour_words c) (no_second (wrong_units i (last_of [] (head_words c)) (numeral (last_of [] (head_words c)))) (wrong_hours n i (hour_words c)) parts) in
          let member = h.hours some.0 ∙ some.1 in
          let all : (k : ℕ) → has t.hours k ≡ true → k < n = λ k m. covers_below n (hour_words c) k (sym (h.hours k) ∙ m) in
          let below = all some.0 member in
          let hours = row_good t.hours n h.word (any_has 128 (has t.hours) some.0 (omega arith) member) all in (
            omega (arith, h.units, ap (λ b. cond b (units_said (numeral (last_of [] (head_words c)))) 0) yes-colon, few_units (numeral (last_of [] (head_words c)))),
            hours.0,
            hours.1,
          )
      | inr no-colon ↦ no_cons _ _ _ (rw no-colon at e)
    ]

-- tasks with no mistake, after k others
pub record Clean (n k : ℕ) (cs : List (List ℕ)) : Type 0 where
  pub few : k + length cs ≤ 200
  pub each : (j : ℕ) → j < length cs → (i : ℕ) × (wrong_task n i (get_or cs j []) ≡ [])

clean_at :
    (n i : ℕ) (c : List ℕ) (cs : List (List ℕ)) → wrong_task n i c ≡ [] →
    ((j : ℕ) → j < length cs → (m : ℕ) × (wrong_task n m (get_or cs j []) ≡ [])) → (j : ℕ) → j < suc (length cs) →
    (m : ℕ) × (wrong_task n m (get_or (c ∷ cs) j []) ≡ [])
clean_at n i c cs e h zero l = (i, e)
clean_at n i c cs e h (suc j) l = h j (omega arith)

clean_more : (n i k : ℕ) (c : List ℕ) (cs : List (List ℕ)) → many i k ++ wrong_task n i c ≡ [] → k ≤ 200 → Clean n (k + 1) cs → Clean n k (c ∷ cs)
clean_more n i k c cs e room h = record {
  few = omega (arith, h.few);
  each = clean_at n i c cs (no_second _ _ e) h.each;
}

not_many : (i k : ℕ) (ys : List Told) → many i k ++ ys ≡ [] → k ≤ 200 → k + 1 ≤ 200
not_many i k ys e room =
    elim (cases_eq k 200) [
      | inl z ↦ let y : eqb k 200 ≡ true = eq-eqb k 200 z in let none : many i k ≡ [] = no_first (many i k) ys e in no_cons _ _ _ (rw y at none)
      | inr z ↦ omega arith
    ]

some_same : (m n : ℕ) → let some : Option ℕ = Some m in some ≡ Some n → m ≡ n
some_same m n e = cc

clean_lines :
    (n : ℕ) (ls : List (List ℕ)) (i k : ℕ) → k ≤ 200 → wrong_lines i (Some n) k ls ≡ [] →
    Clean n k (entries (Some n) ls) × (last_hours (Some n) ls ≡ Some n)
clean_lines n [] i k room e = (record { few = omega arith; each = λ j l. absurd (omega arith) }, refl)
clean_lines n (l ∷ ls) i k room e =
    elim (cases_Bool (silent l)) [
      | inl s ↦
          let rest : wrong_lines (suc i) (Some n) (k + 0) ls ≡ [] = rw s at e in
          rw s (clean_lines n ls (suc i) k room (rw add-zero at rest))
      | inr s ↦
          let both = rw s at e in
          let here = no_first _ _ both in
          let r = clean_lines n ls (suc i) (k + 1) (not_many i k _ here room) (no_second _ _ both) in
          rw s (clean_more n i k (content l) (entries (Some n) ls) here room r.0, r.1)
    ]

-- the lines of a text, with no mistake and a header
pub clean_text :
    (n : ℕ) (ls : List (List ℕ)) (i : ℕ) → wrong_lines i None 0 ls ≡ [] → last_hours None ls ≡ Some n →
    Clean n 0 (entries None ls) × (0 < n) × (n ≤ 96)
clean_text n [] i e h = absurd (none-some n h)
clean_text n (l ∷ ls) i e h =
    elim (cases_Bool (silent l)) [
      | inl s ↦ rw s (clean_text n ls (suc i) (rw s at e) (rw s at h))
      | inr s ↦
          let range = said_range (words (content l)) in
          let m = hours_said (header_says (words (content l))) in
          let rest : wrong_lines (suc i) (Some m) 0 ls ≡ [] = no_second _ _ (rw s at e) in
          let r = clean_lines m ls (suc i) 0 (omega arith) rest in
          let last : last_hours (Some m) ls ≡ Some n = rw s at h in
          let same : m ≡ n = some_same m n (sym r.1 ∙ last) in
          rw (s, sym same) (r.0, range.0, range.1)
    ]

some_name : (ss : List (String Global)) → 0 < length ss → String Global
some_name [] l = absurd (omega arith)
some_name (s ∷ ss) l = s

-- a text with no mistake says a night
pub clean_night :
    (ls : List (List ℕ)) (i n : ℕ) (ts : List Task) (ss : List (String Global)) → last_hours None ls ≡ Some n →
    wrong_lines i None 0 ls ≡ [] → Listed n (entries None ls) ts ss → Sound n ts
clean_night ls i n ts ss here e h =
    let r = clean_text n ls i e here in
    record {
      some = r.1;
      short = r.2;
      few = omega (arith, h.tasks, r.0.few);
      each = λ j l.
          let task = r.0.each j (omega (arith, h.tasks)) in
          clean_task n task.0 _ _ _ r.2 (h.each j blank_task (some_name ss (omega (arith, h.tasks, h.names))) (omega (arith, h.tasks))) task.1;
    }

-- a reader that found no mistake has a night
pub read_night :
    (bs : List ℕ) (r : Reading) (n : ℕ) → Read bs r → vec_items r.report.mistakes ≡ [] → r.hours ≡ Some n → Sound n (vec_items r.tasks)
read_night bs r n h none is =
    let clean : wrong_text bs ≡ [] = sym h.wrong ∙ rw none in
    clean_night (lines bs) 1 n _ _ (sym h.hours ∙ is)
    (no_first (wrong_lines 1 None 0 (lines bs)) (no_header (length (lines bs)) (last_hours None (lines bs))) clean)
    (h.listed n (rw is refl))

-- what is refused only where P does not hold is made where P holds
pub surely_made : {X P : Type 0} (Q : X → Type 0) (o : Option X) → MatchOption o (P → ⊥) Q → P → IsSome o
surely_made Q None refused p = absurd (refused p)
surely_made Q (Some x) made p = refl

pub says_night :
    (bs : List ℕ) (r : Reading) (n : ℕ) (night : Night) → Fit bs → Read bs r → vec_items r.report.mistakes ≡ [] → r.hours ≡ Some n →
    hours_of night ≡ n → tasks_of night ≡ vec_items r.tasks → Says bs (record { night = night; names = r.names })
says_night bs r n night fit h none is hours tasks = record {
  fit = fit;
  clean = sym h.wrong ∙ ap (map tell) none;
  hours = sym h.hours ∙ is ∙ ap Some (sym hours);
  listed = rw (hours, tasks) (h.listed n (rw is refl));
}
