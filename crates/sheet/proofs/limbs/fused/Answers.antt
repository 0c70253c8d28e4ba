use Rattle.std.proofs.Common.{◌+◌, ◌*◌, arith}
use Rattle.std.proofs.lemmas.Nat.{and_mask}
use Rattle.sheet.proofs.Words.{fused_fits}
use Rattle.sheet.proofs.limbs.fused.Goals as goal

pub overflow_add-t-2 : goal.overflow_add-t-2
overflow_add-t-2 c =
    omega
    (arith, fused_fits c.args.a c.args.b c.args.c c.args.d (omega arith) (omega arith) (omega arith) (omega arith))

pub overflow_cast-result-2 : goal.overflow_cast-result-2
overflow_cast-result-2 c =
    omega
    (arith, fused_fits c.args.a c.args.b c.args.c c.args.d (omega arith) (omega arith) (omega arith) (omega arith))

pub returns : goal.returns
returns c = omega (arith, and_mask (c.args.a * c.args.b + c.args.c + c.args.d) 64)
