use Rattle.std.proofs.Common.{replicate, refl, ap, ◌∙◌, inl, inr}
use lib.ListN.{length-replicate, get_or-replicate}
use Rattle.std.proofs.lemmas.List.{get_or_past}
use Rattle.std.proofs.lemmas.Bool.{cases_lt}
use Rattle.sets.specs.Hours.{has, blank}
use Rattle.sets.proofs.Members.{has_blank}
use Rattle.flow.proofs.net.Net.new.Goals as goal

pub returns : goal.returns
returns c =
    let none = c.none-none.result in
    record {
      room = refl;
      left = refl;
      marks = λ j s. elim (cases_lt j 200) [
        | inl l ↦ ap (λ h. has h s) (get_or-replicate 200 j none blank l) ∙ c.none-none.ensures s
        | inr ge ↦ ap (λ h. has h s) (get_or_past (replicate 200 none) j blank (rw length-replicate ge)) ∙ has_blank s
      ];
      looks = refl;
    }
