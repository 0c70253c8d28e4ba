use Rattle.std.proofs.Common.{get_or, sym, ◌∙◌}
use Rattle.std.proofs.lemmas.Result.{err_from_is_err_and}
use Rattle.lines.proofs.Texts.{row_none, row_skip, row_more, row_fails, told_any}
use Rattle.lines.proofs.text.add_task.Goals as goal

pub loop-hour-init : goal.loop-hour-init
loop-hour-init c = row_none _ _ _ _

pub loop-hour-preserved-then-amount-eq0 : goal.loop-hour-preserved-then-amount-eq0
loop-hour-preserved-then-amount-eq0 c = row_skip _ _ _ _ _ _ c.loop-hour.invariant c.if-amount-eq0.true

pub returns-in_err-amount : goal.returns-in_err-amount
returns-in_err-amount c =
    let p = err_from_is_err_and c.from_residual.result c.from_residual.ensures.1 in
    rw p.1
    (told_any p.0
    (row_fails c.args.task c.args.parts (λ s. get_or c.args.row.now s 0) _ c.loop-hour.hour
    c.loop-hour-test.true c.if-amount-eq0.false (sym c.reduced.ensures.test ∙ sym c.in_err-amount.ensures.variant)))

pub loop-hour-preserved : goal.loop-hour-preserved
loop-hour-preserved c =
    row_more _ _ _ _ _ _ _ c.in_ok-amount.amount.num c.in_ok-amount.amount.den c.loop-hour.invariant c.if-amount-eq0.false
    (sym c.reduced.ensures.test ∙ sym c.in_ok-amount.ensures.variant) (rw c.in_ok-amount.ensures.ok_part at c.reduced.ensures.value)
    c.in_ok-writeln.ensures.bytes
