use Rattle.std.proofs.Common.{◌≡◌, ◌+◌, ◌-◌, min, get_or, ap, ◌∙◌, arith}
use Rattle.oracle.specs.Little.{little}
use Rattle.oracle.proofs.Numbers.{item_read, little_start, little_step, little_bound, little_room}
use Rattle.oracle.proofs.bytes.number.Goals as goal

pub loop-i-init : goal.loop-i-init
loop-i-init c = (
  λ _. little_start c.args.bytes.now c.args.at c.min-w.result,
  (let z : c.min-w.result - c.min-w.result ≡ 0 = omega arith in rw z (omega arith)),
)

pub overflow_mul-n : goal.overflow_mul-n
overflow_mul-n c =
    omega
    (arith, little_room c.loop-i.n c.min-w.result c.loop-i.i (omega arith) (omega arith) c.loop-i.invariant.1)

pub overflow_add-n : goal.overflow_add-n
overflow_add-n c =
    omega
    (arith, little_room c.loop-i.n c.min-w.result c.loop-i.i (omega arith) (omega arith) c.loop-i.invariant.1)

pub loop-i-preserved : goal.loop-i-preserved
loop-i-preserved c = (
  λ f.
      let e : c.saturating_add.result ≡ c.args.at + (c.loop-i.i - 1) = omega (arith, c.saturating_add.ensures) in
      let g : c.from.result ≡ get_or c.args.bytes.now (c.args.at + (c.loop-i.i - 1)) 0 =
      c.from.ensures
      ∙ item_read c.args.bytes.now c.saturating_add.result c.item.result c.item.ensures
      ∙ ap (λ k. get_or c.args.bytes.now k 0) e in
      rw g
      (little_step c.args.bytes.now c.args.at c.min-w.result c.loop-i.i c.loop-i.n (omega arith)
      (omega arith) (c.loop-i.invariant.0 f)),
  little_bound c.loop-i.n c.from.result c.min-w.result c.loop-i.i (omega arith) (omega arith)
      (omega arith) c.loop-i.invariant.1,
)

pub returns : goal.returns
returns c f =
    let a : c.args.at + c.loop-i.i ≡ c.args.at = omega arith in
    let b : c.min-w.result - c.loop-i.i ≡ min c.args.width 16 = omega (arith, c.min-w.ensures) in
    c.loop-i.invariant.0 f
    ∙ ap (λ k. little c.args.bytes.now k (c.min-w.result - c.loop-i.i)) a
    ∙ ap (λ k. little c.args.bytes.now c.args.at k) b
