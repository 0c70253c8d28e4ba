use Rattle.std.proofs.Common.{◌≡◌, get_or, ap, ◌∙◌, arith, get_or-take, length-take}
use Rattle.std.proofs.lemmas.List.{get_or_default}
use Rattle.fraction.specs.declared.exact.Fraction.{Fraction}
use Rattle.sheet_writer.proofs.Puts.{kept_join}
use Rattle.sheet_writer.proofs.Writes.{loads_more}
use Rattle.sheet_writer.proofs.writer.Content.put_loads.Goals as goal

pub loop-s-preserved : goal.loop-s-preserved
loop-s-preserved c =
    let loads = c.args.self.now.loads.now in
    let l = simp length-take at c.loop-s-test.true in
    let load : (d : Fraction) → c.load-item.result ≡ get_or loads c.loop-s.s d =
    λ d. c.load-item.is ∙ get_or-take c.hours.result loads c.loop-s.s _ (omega (arith, l)) ∙ get_or_default loads c.loop-s.s _ d (omega (arith, l)) in (
      loads_more c.loop-s.invariant.0 c.put_load.ensures.kept (λ d. c.put_load.ensures.num ∙ ap (λ x. x.num) (load d))
          (λ d. c.put_load.ensures.den ∙ ap (λ x. x.den) (load d)),
      kept_join c.loop-s.invariant.1 c.put_load.ensures.kept (omega arith) (omega arith) (omega arith),
    )
