use Rattle.std.proofs.Common.{vec_items, arith}
use Rattle.std.proofs.lemmas.Slice.{pushed}
use Rattle.night.proofs.Digits.{digits_start, digits_push, shift_byte}
use Rattle.night.proofs.bytes.push_little.Goals as goal

pub loop-init : goal.loop-init
loop-init c = (digits_start (vec_items c.args.out.now) c.args.n, omega arith)

pub loop-preserved : goal.loop-preserved
loop-preserved c = (
  digits_push (vec_items c.args.out.now) _ c.args.n c.loop.counter c.loop.rest c.loop.invariant.1
      (pushed _ c.loop.invariant.0 c.in_ok-push.was c.push.ensures.items),
  rw c.loop.invariant.1 (shift_byte c.args.n c.loop.counter),
)
