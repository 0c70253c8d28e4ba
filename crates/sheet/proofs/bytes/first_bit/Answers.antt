use Rattle.std.proofs.Common.{◌+◌, ◌-◌, ◌<◌, arith}
use Rattle.sheet.proofs.Firsts.{row_none, row_first}
use Rattle.sheet.proofs.Chunks.{slice_long}
use Rattle.sheet.proofs.bytes.first_bit.Goals as goal

pub returns-in_err-k : goal.returns-in_err-k
returns-in_err-k c =
    let none = row_none c.args.b.now c.args.p c.args.n (c.args.p + c.row_bytes.result - c.args.p) (omega arith) (omega arith) c.in_err-k.ensures in
    rw c.from_residual.ensures none

pub returns-then-i-n : goal.returns-then-i-n
returns-then-i-n c =
    let len = c.args.p + c.row_bytes.result - c.args.p in
    let inside : c.in_ok-k.k < len = omega (arith, c.in_ok-k.ensures.0, slice_long c.args.b.now c.args.p len (omega arith)) in
    (c.if-i-n.true, omega (arith, c.if-i-n.true, row_first c.args.b.now c.args.p c.args.n len c.in_ok-k.k inside c.in_ok-k.ensures.2 (omega arith) c.in_ok-k.ensures.1))

pub returns-else-i-n : goal.returns-else-i-n
returns-else-i-n c =
    let len = c.args.p + c.row_bytes.result - c.args.p in
    let inside : c.in_ok-k.k < len = omega (arith, c.in_ok-k.ensures.0, slice_long c.args.b.now c.args.p len (omega arith)) in
    omega (arith, c.if-i-n.false, row_first c.args.b.now c.args.p c.args.n len c.in_ok-k.k inside c.in_ok-k.ensures.2 (omega arith) c.in_ok-k.ensures.1)
