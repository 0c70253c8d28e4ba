use Rattle.std.proofs.Common.{◌*◌, refl, ap, ◌∙◌, le_refl, arith, length-set, get_or-set_other}
use Rattle.sheet.proofs.Words.{upto_none, carry_step}
use Rattle.sheet.proofs.limbs.add_times.Goals as goal

pub loop-i-init : goal.loop-i-init
loop-i-init c = (c.told-to, omega (arith, upto_none c.args.to.now, ap (λ m. c.args.by * m) (upto_none c.args.what.now)), λ k l. refl)

pub loop-i-preserved : goal.loop-i-preserved
loop-i-preserved c =
    (simp length-set (omega arith), carry_step _ _ _ _ _ _ _ _ (omega arith) c.loop-i.invariant.1 (c.loop-i.invariant.2 _ (le_refl _)) c.fused-low.ensures, λ k l. get_or-set_other _ c.loop-i.i k _ 0 (omega arith) ∙ c.loop-i.invariant.2 k (omega arith))
