use Rattle.std.proofs.Common.{inl, inr, arith}
use Rattle.std.proofs.lemmas.Bool.Decides.{nat_tests}
use Rattle.std.proofs.lemmas.Bool.{cases_Bool}
use Rattle.sets.specs.Hours.{has}
use Rattle.flow.proofs.filling.Filling.roomy.Goals as goal

pub returns-clause-rooms : goal.returns-clause-rooms
returns-clause-rooms c s l =
    let was = c.loop-s.invariant.0 s in
    let gone = c.in-None.ensures.steps.0 s in
    elim (cases_Bool (has c.args.self.now.hours s)) [
      | inl t ↦ grind arith
      | inr f ↦ (let shut = c.args.self.now.shut.none s l f in grind (arith, nat_tests))
    ]
