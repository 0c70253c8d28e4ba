-- A reader of a night goes from line to line.
use Rattle.std.proofs.Common.{◌≡◌, ℕ, suc, ◌+◌, ◌<◌, ◌≤◌, leb, List, [], ◌∷◌, ◌++◌, length, Some, None, IfSome, vec_items, codes, Option, String, sym, refl, ap, ◌∙◌, inl, inr, arith, add-one, length-append}
use Rattle.std.proofs.lemmas.List.{append_assoc, length_push, get_or_push, get_or_append_left}
use Rattle.std.proofs.lemmas.Bool.{cases_Bool, cases_lt}
use Rattle.std.proofs.lemmas.Bool.Decides.{nat_tests}
use Rattle.std.specs.Str.{bytes_eq}
use Rattle.std.specs.declared.alloc.Global.{Global}
use Rattle.night.specs.declared.task.Task.{Task}
use Rattle.text.specs.declared.reading.Reading.{Reading}
use Rattle.text.specs.Header.{some_hours, header_says, hours_said}
use Rattle.text.specs.Lines.{content, silent, next_hours, adds, wrong_line, entries, last_hours, wrong_lines, Agrees, Listed, Went}
use Rattle.text.specs.Number.{numeral}
use Rattle.text.specs.Piece.{words}
use Rattle.text.specs.TaskLine.{Entered}
use Rattle.text.specs.Told.{told}
use Rattle.text.proofs.Tales.{told_on}

-- a task more in the list
pub listed_push :
    (n : ℕ) (cs : List (List ℕ)) (ts : List Task) (ss : List (String Global)) (c : List ℕ) (t : Task) (s : String Global) →
    Listed n cs ts ss → Entered n c t s → Listed n (cs ++ c ∷ []) (ts ++ t ∷ []) (ss ++ s ∷ [])
listed_push n cs ts ss c t s h e = record {
  tasks = length_push ts t ∙ ap (λ k. k + 1) h.tasks ∙ sym (length_push cs c);
  names = length_push ss s ∙ ap (λ k. k + 1) h.names ∙ sym (length_push cs c);
  each = λ j t' s' l.
      let below = length_push cs c in
      let as_tasks = h.tasks in
      let as_names = h.names in
      elim (cases_lt j (length cs)) [
        | inl m ↦
            rw (get_or_append_left cs (c ∷ []) [] j m, get_or_append_left ts (t ∷ []) t' j (omega arith), get_or_append_left ss (s ∷ []) s' j (omega arith))
            (h.each j t' s' m)
        | inr m ↦
            rw (get_or_push cs c [] j (omega arith), get_or_push ts t t' j (omega arith), get_or_push ss s s' j (omega arith)) e
      ];
}

-- a header says at least one hour, and at most 96
header_range : (o : Option ℕ) → (0 < hours_said (some_hours o)) × (hours_said (some_hours o) ≤ 96)
header_range None = (omega arith, omega arith)
header_range (Some n) =
    elim (cases_Bool (leb 1 n)) [
      | inl e ↦ elim (cases_Bool (leb n 96)) [ inl f ↦ rw (e, f) (grind (arith, nat_tests)) | inr f ↦ rw (e, f) (omega arith, omega arith) ]
      | inr e ↦ rw e (omega arith, omega arith)
    ]

pub said_range : (ws : List (List ℕ)) → (0 < hours_said (header_says ws)) × (hours_said (header_says ws) ≤ 96)
said_range [] = (omega arith, omega arith)
said_range (w ∷ []) = (omega arith, omega arith)
said_range (w ∷ (v ∷ [])) =
    elim (cases_Bool (bytes_eq w (codes "hours"))) [
      | inl e ↦ rw e (header_range (numeral v))
      | inr e ↦ rw e (omega arith, omega arith)
    ]
said_range (w ∷ (v ∷ (u ∷ ws))) = (omega arith, omega arith)

next_short : (o : Option ℕ) (l : List ℕ) → IfSome o (λ n. n ≤ 96) → IfSome (next_hours o l) (λ n. n ≤ 96)
next_short None l h =
    elim (cases_Bool (silent l)) [ inl e ↦ rw e h | inr e ↦ rw e (said_range (words (content l))).1 ]
next_short (Some n) l h = h

-- the number of hours, once known, stays; there is a number that agrees
agrees_back : (o : Option ℕ) (l : List ℕ) (n : ℕ) → Agrees (next_hours o l) n → Agrees o n
agrees_back None l n h = tt
agrees_back (Some m) l n h = h

agreed : (o : Option ℕ) → (n : ℕ) × Agrees o n
agreed None = (0, tt)
agreed (Some n) = (n, refl)

-- a reader before the next line
abbrev pub onward : Reading → Reading
onward r = record r { report = record r.report { line = r.report.line + 1 } }

-- between two of all lines; those that are left are ls
pub record Sofar (all ls : List (List ℕ)) (r : Reading) : Type 0 where
  pub done : List (List ℕ)
  pub place : r.report.line + length ls ≡ length all
  pub short : IfSome r.hours (λ n. n ≤ 96)
  pub left : done ++ entries r.hours ls ≡ entries None all
  pub last : last_hours r.hours ls ≡ last_hours None all
  pub wrong : told r.report.mistakes ++ wrong_lines (suc r.report.line) r.hours (length done) ls ≡ wrong_lines 1 None 0 all
  pub listed : (n : ℕ) → Agrees r.hours n → Listed n done (vec_items r.tasks) (vec_items r.names)

module _ {all ls : List (List ℕ)} {l : List ℕ} {a b : Reading} (s : Sofar all (l ∷ ls) a) (w : Went l (onward a) b) where
  done_tasks : length (vec_items a.tasks) ≡ length s.done
  done_tasks = let n = agreed a.hours in (s.listed n.0 n.1).tasks

  wrong_more :
      told b.report.mistakes ++ wrong_lines (suc (suc a.report.line)) (next_hours a.hours l) (length (s.done ++ adds a.hours l)) ls
      ≡ wrong_lines 1 None 0 all
  wrong_more =
      rw (length-append s.done (adds a.hours l))
      (told_on (told a.report.mistakes) (told b.report.mistakes) _ (wrong_line (suc a.report.line) a.hours (length s.done) l) _ s.wrong
      (rw (done_tasks, add-one) at w.wrong.told))

  -- a line on
  pub next_line : Sofar all ls b
  next_line = record {
    done = s.done ++ adds a.hours l;
    place = omega (arith, s.place, w.wrong.line);
    short = rw w.hours (next_short a.hours l s.short);
    left = rw w.hours (append_assoc s.done (adds a.hours l) _ ∙ s.left);
    last = rw w.hours s.last;
    wrong = rw (w.hours, w.wrong.line, add-one) wrong_more;
    listed = λ n g.
        let before = agrees_back a.hours l n (rw w.hours at g) in
        w.listed n s.done before (s.listed n before);
  }
