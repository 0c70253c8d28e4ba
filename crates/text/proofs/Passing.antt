-- A reader of changes goes from line to line.
use Rattle.std.proofs.Common.{◌≡◌, ℕ, suc, ◌+◌, false, List, [], ◌∷◌, ◌++◌, length, Some, Option, sym, ap, ◌∙◌, inl, inr, arith, add-one}
use Rattle.std.proofs.lemmas.List.{append_assoc, length_push, get_or_push, get_or_append_left}
use Rattle.std.proofs.lemmas.Bool.{cases_lt}
use Rattle.change.specs.declared.kinds.Change.{Change}
use Rattle.change.specs.declared.kinds.Change.TheVariants as change
use Rattle.text.specs.declared.change_line.Said.{Said}
use Rattle.text.specs.declared.report.Report.{Report}
use Rattle.text.specs.ChangeLine.{change_said, wrong_change, Means, SaysIt}
use Rattle.text.specs.Changes.{if_clear, change_in, change_lines, wrong_change_line, wrong_changes, Meant, Passed}
use Rattle.text.specs.Lines.{content, none, silent}
use Rattle.text.specs.Piece.{words}
use Rattle.text.specs.Told.{Told, told, Blamed}
use Rattle.text.proofs.Tales.{told_on}

-- a change more in the list
pub meant_push :
    (cs : List (List ℕ)) (ds : List Change) (c : List ℕ) (d : Change) → Meant cs ds → Means c (change_said (words c)) d →
    Meant (cs ++ c ∷ []) (ds ++ d ∷ [])
meant_push cs ds c d h e = record {
  count = length_push ds d ∙ ap (λ k. k + 1) h.count ∙ sym (length_push cs c);
  each = λ j d' l.
      let below = length_push cs c in
      let same = h.count in
      elim (cases_lt j (length cs)) [
        | inl m ↦ rw (get_or_append_left cs (c ∷ []) [] j m, get_or_append_left ds (d ∷ []) d' j (omega arith)) (h.each j d' m)
        | inr m ↦ rw (get_or_push cs c [] j (omega arith), get_or_push ds d d' j (omega arith)) e
      ];
}

-- a line that means a change says one
clear : (c : List ℕ) (s : Option Said) (d : Change) → Means c s d → if_clear c s ≡ c ∷ []
clear c s (change.Comes t) h = rw h.0
clear c s (change.Goes j) h = rw h
clear c s (change.More j u) h = rw h

-- a line that says a change
pub passed_change :
    (l t : List ℕ) (a b : List Change) (r s : Report) (o : Option Change) (d : Change) → t ≡ content l → none (words t) ≡ false →
    Blamed r s (wrong_change r.line t (change_said (words t))) → o ≡ Some d → SaysIt t (change_said (words t)) o → b ≡ a ++ d ∷ [] →
    Passed l a b r s
passed_change l t a b r s o d e h w is says more =
    let m : Means t (change_said (words t)) d = rw is at says in
    let q : silent l ≡ false = rw e at h in
    let one : change_in l ≡ t ∷ [] = rw (q, sym e) (clear t (change_said (words t)) d m) in
    record { wrong = rw (q, sym e) w; meant = λ cs k. rw (one, more) (meant_push cs a t d k m) }

-- between two of all lines; those that are left are ls
pub record Upto (all ls : List (List ℕ)) (ds : List Change) (start : List Told) (r : Report) : Type 0 where
  pub done : List (List ℕ)
  pub place : r.line + length ls ≡ length all
  pub left : done ++ change_lines ls ≡ change_lines all
  pub wrong : told r.mistakes ++ wrong_changes (suc r.line) ls ≡ start ++ wrong_changes 1 all
  pub meant : Meant done ds

pub next_change :
    {all ls : List (List ℕ)} {l : List ℕ} {a b : List Change} {start : List Told} {r s : Report} →
    Upto all (l ∷ ls) a start r → Passed l a b (record r { line = r.line + 1 }) s → Upto all ls b start s
next_change {ls = ls} {l = l} {r = r} {s = s} u p = record {
  done = u.done ++ change_in l;
  place = omega (arith, u.place, p.wrong.line);
  left = append_assoc u.done (change_in l) (change_lines ls) ∙ u.left;
  wrong =
      rw (p.wrong.line, add-one)
      (told_on (told r.mistakes) (told s.mistakes) _ (wrong_change_line (suc r.line) l) (wrong_changes (suc (suc r.line)) ls) u.wrong (rw add-one at p.wrong.told));
  meant = p.meant u.done u.meant;
}
