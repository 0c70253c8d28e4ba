use Rattle.std.proofs.Common.{arith}
use Rattle.std.proofs.lemmas.Result.{err_from_is_err_and}
use Rattle.lines.proofs.Texts.{cut_row, rows_none, rows_more, rows_fail, told_weaker}
use Rattle.lines.proofs.text.add_tasks.Goals as goal

pub loop-task-init : goal.loop-task-init
loop-task-init c = rows_none _ _ _ _

pub returns-in_err-add_task : goal.returns-in_err-add_task
returns-in_err-add_task c =
    let p = err_from_is_err_and c.from_residual.result c.from_residual.ensures.1 in
    rw (p.1, p.2)
    (told_weaker c.in_err-add_task.field-0.0
    (rows_fail c.args.hours c.args.parts.now c.args.amounts.now _ c.loop-task.task _
    c.loop-task-test.true (cut_row _ _ _ (omega arith)))
    c.in_err-add_task.ensures)

pub loop-task-preserved : goal.loop-task-preserved
loop-task-preserved c =
    let told = c.in_ok-add_task.ensures in
    rows_more c.args.hours c.args.parts.now c.args.amounts.now c.loop-task.task _ _ _ _
    c.loop-task.invariant (cut_row _ _ _ (omega arith)) told.0 told.1
