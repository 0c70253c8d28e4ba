-- Changes that can be made leave the tasks of a night.
use Rattle.std.proofs.Common.{◌≡◌, ℕ, suc, ◌+◌, ◌<◌, List, [], ◌∷◌, length, get_or, set, sym, ap, ◌∙◌, subst, inl, inr, arith, length-append, length-set}
use Rattle.std.proofs.lemmas.List.Edits.{length-remove, get_or-remove_below, get_or-remove_above}
use Rattle.std.proofs.lemmas.List.{get_or_append_left, get_or_push, get_or-set_same, get_or-set_other}
use Rattle.std.proofs.lemmas.Bool.{cases_eq, cases_lt}
use Rattle.night.specs.declared.task.Task.{Task}
use Rattle.night.specs.Task.{Fits, Sound, units, blank_task}
use Rattle.change.specs.declared.kinds.Change.{Change}
use Rattle.change.specs.declared.kinds.Change.TheVariants.{Comes, Goes, More}
use Rattle.change.specs.Row.{Possible, AllCan, after, after_row}

-- a task fits where it is the same as one that does
fits_like : (n : ℕ) {t u : Task} → u ≡ t → Fits n t → Fits n u
fits_like n e f = subst (Fits n) (sym e) f

pub after_sound : (n : ℕ) (ts : List Task) (c : Change) → Sound n ts → Possible n ts c → Sound n (after ts c)
after_sound n ts (Comes t) s p =
    let long = length-append ts (t ∷ []) in
    record {
      some = s.some;
      short = s.short;
      few = omega arith;
      each = λ j l.
          elim (cases_eq j (length ts)) [
            | inl e ↦ fits_like n (get_or_push ts t blank_task j (sym e)) p.1
            | inr ne ↦ (let lt : j < length ts = omega arith in fits_like n (get_or_append_left ts (t ∷ []) blank_task j lt) (s.each j lt))
          ];
    }
after_sound n ts (Goes i) s p =
    let long = length-remove ts i p in
    record {
      some = s.some;
      short = s.short;
      few = omega (arith, s.few);
      each = λ j l.
          elim (cases_lt j i) [
            | inl lt ↦ fits_like n (get_or-remove_below ts i blank_task j lt p) (s.each j (omega arith))
            | inr ge ↦ fits_like n (get_or-remove_above ts i blank_task j ge p) (s.each (j + 1) (omega arith))
          ];
    }
after_sound n ts (More i u) s p =
    let raised : Task = record { units = units ts i + u; hours = (get_or ts i blank_task).hours } in
    let long = length-set ts i raised in
    let f = s.each i p.0 in
    record {
      some = s.some;
      short = s.short;
      few = omega (arith, s.few);
      each = λ j l.
          elim (cases_eq j i) [
            | inl e ↦ fits_like n (ap (λ k. get_or (set ts i raised) k blank_task) e ∙ get_or-set_same ts i raised blank_task p.0)
                (p.1, f.1, f.2)
            | inr ne ↦ fits_like n (get_or-set_other ts i j raised blank_task ne) (s.each j (omega arith))
          ];
    }

pub row_sound : (n : ℕ) (ts : List Task) (cs : List Change) → Sound n ts → AllCan n ts cs → Sound n (after_row ts cs)
row_sound n ts [] s can = s
row_sound n ts (c ∷ cs) s can =
    row_sound n (after ts c) cs (after_sound n ts c s (can 0 (omega arith))) (λ i l. can (suc i) (omega arith))
