-- How the text of a plan grows, amount by amount and task by task.
use Rattle.std.proofs.Common.{◌≡◌, ℕ, ◌+◌, ◌*◌, ◌<◌, ◌≤◌, true, false, eqb, List, [], ◌++◌, length, get_or, sym, ap, ◌∙◌, append-nil, arith, length-drop, length-take}
use Rattle.std.specs.List.{between}
use Rattle.std.proofs.lemmas.List.Edits.{get_or-between}
use Rattle.std.proofs.lemmas.Bool.{eq-eqb, ltb-true, and_parts, ne_eqb, cond-true, cond-false, or_left, or_right, or_from}
use Rattle.fraction.specs.Limits.{max_hours}
use Rattle.fraction.specs.Fraction.{fits, Reduced}
use Rattle.fraction.proofs.Fractions.{reduced_parts}
use Rattle.lines.specs.declared.text.Unprinted.{Unprinted}
use Rattle.lines.specs.declared.text.Unprinted.TheVariants.{NoMemory, NoPlan}
use Rattle.lines.specs.Lines.{task_line, ended, concat, each}
use Rattle.lines.specs.Text.{cell, amount_text, task_text, printable, row_printable, Told}
use Rattle.lines.proofs.Concats.{concat_none, concat_more, concat_same, each_none, each_more, each_same, each_fails}

-- the first n amounts of a row can be printed, and a text is one that it began with and their lines
pub record Row (task parts : ℕ) (row : ℕ → ℕ) (n : ℕ) (start text : List ℕ) : Type 0 where
  pub good : row_printable n parts row ≡ true
  pub reads : text ≡ start ++ task_text n task parts row

module _ (task parts : ℕ) (row : ℕ → ℕ) where
  pub row_none : (start : List ℕ) → Row task parts row 0 start start
  row_none start = record { good = each_none _; reads = concat_none start _ }

  -- an amount that is 0 adds nothing
  pub row_skip : (n : ℕ) (start was : List ℕ) → Row task parts row n start was → row n ≡ 0 → Row task parts row (n + 1) start was
  row_skip n start was w e =
      record {
        good = each_more n _ w.good (or_left _ _ (eq-eqb (row n) 0 e));
        reads =
            concat_more n _ start was was [] w.reads (sym (append-nil was))
            (sym (cond-true (eqb (row n) 0) [] _ (eq-eqb (row n) 0 e)));
      }

  -- any other adds its line in lowest terms
  pub row_more :
      (n : ℕ) (start was now : List ℕ) (p q : ℕ) → Row task parts row n start was → (row n ≡ 0 → ⊥) →
      fits (row n) parts ≡ true → Reduced (row n) parts p q → now ≡ was ++ ended (task_line task n p q) →
      Row task parts row (n + 1) start now
  row_more n start was now p q w ne f r k =
      let e = reduced_parts (row n) parts p q (ltb-true 0 parts (and_parts _ _ f).0) r in
      record {
        good = each_more n _ w.good (or_right _ _ f);
        reads =
            concat_more n _ start was now (ended (task_line task n p q)) w.reads k
            (rw (e.0, e.1) (sym (cond-false (eqb (row n) 0) [] _ (ne_eqb (row n) 0 ne))));
      }

  -- and one that is no fraction can't be printed
  pub row_fails :
      (n : ℕ) (i : ℕ) → i < n → (row i ≡ 0 → ⊥) → fits (row i) parts ≡ false → row_printable n parts row ≡ false
  row_fails n i l ne f = each_fails n _ i l (or_from _ _ (ne_eqb (row i) 0 ne) f)

-- xs is the row of a task, cut out of amounts
pub record Cut (hours : ℕ) (amounts : List ℕ) (task : ℕ) (xs : List ℕ) : Type 0 where
  pub long : length xs ≡ hours
  pub at : (s : ℕ) → s < hours → get_or xs s 0 ≡ cell amounts task s

pub cut_row :
    (hours : ℕ) (amounts : List ℕ) (task : ℕ) → task * max_hours + hours ≤ length amounts →
    Cut hours amounts task (between (task * max_hours) (task * max_hours + hours) amounts)
cut_row hours amounts task l =
    record {
      long = simp (length-take, length-drop) (omega arith);
      at = λ s k. get_or-between amounts (task * max_hours) (task * max_hours + hours) s 0 (omega arith);
    }

module _ {hours : ℕ} {amounts : List ℕ} (task parts : ℕ) (xs : List ℕ) (c : Cut hours amounts task xs) where
  cut_printable : row_printable (length xs) parts (λ s. get_or xs s 0) ≡ row_printable hours parts (cell amounts task)
  cut_printable =
      ap (λ n. row_printable n parts (λ s. get_or xs s 0)) c.long
      ∙ each_same hours _ _ (λ s l. ap (λ v. printable parts v) (c.at s l))

  cut_text : task_text (length xs) task parts (λ s. get_or xs s 0) ≡ task_text hours task parts (cell amounts task)
  cut_text =
      ap (λ n. task_text n task parts (λ s. get_or xs s 0)) c.long
      ∙ concat_same hours _ _ (λ s l. ap (λ v. amount_text task s v parts) (c.at s l))

-- the first n tasks can be printed, and a text is one that it began with and their lines
pub record Rows (hours : ℕ) (parts amounts : List ℕ) (n : ℕ) (start text : List ℕ) : Type 0 where
  pub good : each n (λ j. row_printable hours (get_or parts j 0) (cell amounts j)) ≡ true
  pub reads : text ≡ start ++ concat n (λ j. task_text hours j (get_or parts j 0) (cell amounts j))

module _ (hours : ℕ) (parts amounts : List ℕ) where
  pub rows_none : (start : List ℕ) → Rows hours parts amounts 0 start start
  rows_none start = record { good = each_none _; reads = concat_none start _ }

  -- a row that can be printed adds its lines
  pub rows_more :
      (n : ℕ) (start was now xs : List ℕ) → Rows hours parts amounts n start was → Cut hours amounts n xs →
      row_printable (length xs) (get_or parts n 0) (λ s. get_or xs s 0) ≡ true →
      now ≡ was ++ task_text (length xs) n (get_or parts n 0) (λ s. get_or xs s 0) → Rows hours parts amounts (n + 1) start now
  rows_more n start was now xs w c g k =
      record {
        good = each_more n _ w.good (sym (cut_printable n (get_or parts n 0) xs c) ∙ g);
        reads = concat_more n _ start was now _ w.reads k (cut_text n (get_or parts n 0) xs c);
      }

  -- one that can't is the end
  pub rows_fail :
      (n i : ℕ) (xs : List ℕ) → i < n → Cut hours amounts i xs →
      row_printable (length xs) (get_or parts i 0) (λ s. get_or xs s 0) ≡ false →
      each n (λ j. row_printable hours (get_or parts j 0) (cell amounts j)) ≡ false
  rows_fail n i xs l c g = each_fails n _ i l (sym (cut_printable i (get_or parts i 0) xs c) ∙ g)

-- what is told of a failure may be weakened
pub told_weaker : (e : Unprinted) {P Q : Type 0} → (P → Q) → Told e P → Told e Q
told_weaker NoMemory f t = tt
told_weaker NoPlan f t = f t

-- and told of any failure where it holds
pub told_any : (e : Unprinted) {P : Type 0} → P → Told e P
told_any NoMemory p = tt
told_any NoPlan p = p

-- a text that began empty, after the hours and then the tasks
pub text_both : (new mid text hours tasks : List ℕ) → new ≡ [] → mid ≡ new ++ hours → text ≡ mid ++ tasks → text ≡ hours ++ tasks
text_both new mid text hours tasks e h k =
    k ∙ ap (λ x. x ++ tasks) (h ∙ ap (λ x. x ++ hours) e)
