use Rattle.std.proofs.Common.{refl, inl, inr, le_refl, arith}
use Rattle.std.proofs.lemmas.Bool.{cases_eq}
use Rattle.sheet.proofs.Slopes.{flat_level, steep_refused}
use Rattle.sheet.proofs.layout.Laid.levels.Goals as goal

pub steep-requires-clause-over : goal.steep-requires-clause-over
steep-requires-clause-over c = λ s l. (c.requires.loads s l).over

pub returns-in-Some : goal.returns-in-Some
returns-in-Some c =
    inr
    (inr
    (inr (
      refl,
      steep_refused _ _ c.requires.loads c.args.self.now.laid.sized c.args.self.now.small c.requires.adds c.loop-j.j _ _ _ c.loop-j-test.true refl c.loop-j.invariant c.in-Some.ensures,
    )))

pub loop-j-preserved : goal.loop-j-preserved
loop-j-preserved c = λ j s t l.
    elim (cases_eq j c.loop-j.j) [
      | inl e ↦ rw e (flat_level _ _ c.requires.loads c.loop-j.j _ c.args.self.now.hours refl (le_refl _) c.in_default.ensures s t)
      | inr ne ↦ c.loop-j.invariant j s t (omega arith)
    ]
