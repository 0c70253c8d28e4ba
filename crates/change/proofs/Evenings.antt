-- A night that is planned in memory of its own.
use Rattle.std.proofs.Common.{◌≡◌, ℕ, List, length, vec_items, vec_len, Vec, sym, subst}
use Rattle.std.specs.Vec.{with_items}
use Rattle.std.specs.declared.alloc.Global.{Global}
use Rattle.std.proofs.lemmas.List.{with_items_is}
use Rattle.night.specs.declared.night.Night.{Night}
use Rattle.sheet_writer.specs.declared.planned.Planned.{Planned}
use Rattle.sheet_writer.specs.Planned.{Sheeted}
use Rattle.change.specs.declared.kinds.Change.{Change}
use Rattle.change.specs.Changed.{Changed}
use Rattle.change.specs.Evening.{Prepared}

-- what was written into slices of vectors is in the vectors
pub prepared :
    (night m : Night) (cs : List Change) (v : Planned) (a b : Vec ℕ Global) (plan plan' work work' sheet sheet' : List ℕ) →
    Changed night cs m → length plan' ≡ vec_len a → length sheet' ≡ vec_len b →
    Sheeted m v.levels v.length plan plan' work work' sheet sheet' →
    Prepared night cs (record { night = m; planned = v; amounts = with_items a plan'; sheet = with_items b sheet' })
prepared night m cs v a b plan plan' work work' sheet sheet' ch la lb s =
    record {
      changed = ch;
      plan = plan;
      work = work;
      work' = work';
      sheet = sheet;
      sheeted =
          subst (λ (xs : List ℕ). Sheeted m v.levels v.length plan xs work work' sheet (vec_items (with_items b sheet'))) (sym (with_items_is a plan' la))
          (subst (λ (xs : List ℕ). Sheeted m v.levels v.length plan plan' work work' sheet xs) (sym (with_items_is b sheet' lb)) s);
    }
