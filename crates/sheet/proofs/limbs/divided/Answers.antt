use Rattle.std.proofs.Common.{◌≡◌, ◌+◌, ◌-◌, ◌*◌, ◌/◌, get_or, sym, refl, ap, ◌∙◌, mod-lt, arith, length-set, get_or-set_other}
use native.Mathlib.Nat.{div-zero}
use lib.ListN.{get_or-replicate}
use Rattle.std.proofs.lemmas.Nat.{div_below, div-add-mod'}
use Rattle.sheet.specs.Limbs.{value, upto, base}
use Rattle.sheet.proofs.Words.{divide_step, divide_all, upto_none, base_none, value_zeros}
use Rattle.sheet.proofs.limbs.divided.Goals as goal

pub returns-then-by-eq0 : goal.returns-then-by-eq0
returns-then-by-eq0 c =
    value_zeros ∙ sym (ap (λ d. value c.args.what.now / d) c.if-by-eq0.true ∙ div-zero _)

pub loop-k-init : goal.loop-k-init
loop-k-init c = (refl, omega arith, omega (arith, ap (λ m. c.args.by * m) value_zeros), λ i l. get_or-replicate 8 i 0 0 l)

pub overflow_cast-out-in-loop-k : goal.overflow_cast-out-in-loop-k
overflow_cast-out-in-loop-k c =
    omega
    (arith, div_below (c.loop-k.rest * 18446744073709551616 + get_or c.args.what.now (c.loop-k.k - 1) 0) c.args.by 18446744073709551616 (omega arith) (omega arith))

pub loop-k-preserved : goal.loop-k-preserved
loop-k-preserved c =
    (simp length-set (omega arith), mod-lt _ (omega arith), divide_step _ _ _ _ _ _ _ (omega arith) (omega arith) (omega arith) c.loop-k.invariant.2 c.loop-k.invariant.3 (div-add-mod' _ _), λ i l. get_or-set_other _ (c.loop-k.k - 1) i _ 0 (omega arith) ∙ c.loop-k.invariant.3 i (omega arith))

pub returns : goal.returns
returns c =
    let e : c.loop-k.k ≡ 0 = omega arith in
    divide_all _ c.loop-k.rest _ _ (omega arith)
    (omega
    (arith, c.loop-k.invariant.2, ap (λ n. upto n c.args.what.now) e, upto_none c.args.what.now, ap (λ n. c.loop-k.rest * base n) e, ap (λ b. c.loop-k.rest * b) base_none))
