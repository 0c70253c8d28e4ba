use Rattle.std.proofs.Common.{◌∙◌, inl, inr, arith}
use Rattle.std.proofs.lemmas.List.{get_or-set_same, get_or-set_other}
use Rattle.std.proofs.lemmas.Bool.{cases_eq}
use Rattle.std.proofs.lemmas.Bool.Decides.{nat_tests}
use Rattle.level.specs.Parts.{nought}
use Rattle.level.proofs.load.raise.Goals as goal

pub hours-preserved : goal.hours-preserved
hours-preserved c =
    let s = c.in-Some.s in
    let t = c.in-Some.ensures.steps in
    let m = t.0.member in
    let y = c.hours.invariant.1 s m in
    let l = c.requires.low s y in (
      λ k. elim (cases_eq k s) [
        | inl e ↦
            rw e
            (get_or-set_same c.hours.all s _ nought (omega (arith, c.hours.auto.all))
            ∙ (let r = t.1 s in grind (arith, nat_tests)))
        | inr ne ↦
            get_or-set_other c.hours.all s k _ nought ne
            ∙ (c.hours.invariant.0 k ∙ (let r = t.1 k in grind (arith, nat_tests)))
      ],
      λ k h. c.hours.invariant.1 k (let r = t.1 k in grind (arith, nat_tests)),
    )
