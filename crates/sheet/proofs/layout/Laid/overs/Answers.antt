use Rattle.std.proofs.Common.{◌∙◌, inl, inr, arith, length-set, get_or-set_other, get_or-set_same}
use Rattle.std.proofs.lemmas.Bool.{cases_eq}
use Rattle.sheet.proofs.layout.Laid.overs.Goals as goal

pub loop-j-preserved : goal.loop-j-preserved
loop-j-preserved c = (
  simp length-set (omega arith),
  λ k l.
      elim (cases_eq k c.loop-j.j) [
        | inl e ↦ rw e (get_or-set_same c.loop-j.out c.loop-j.j _ 0 (omega (arith, c.args.self.now.sound.few)) ∙ (c.unwrap_or.ensures ∙ c.over.ensures))
        | inr ne ↦ get_or-set_other _ _ k _ 0 ne ∙ c.loop-j.invariant.1 k (omega arith)
      ],
)
