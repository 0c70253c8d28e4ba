use Rattle.std.proofs.Common.{◌+◌, ap, arith}
use Rattle.night.proofs.Rows.{row_bad}
use Rattle.night.proofs.Faults.{first_units, first_row}
use Rattle.std.proofs.lemmas.Bool.Decides.{not_from_Decides}
use Rattle.night.proofs.night.reader.Headed.check_tasks.Goals as goal

pub returns-then-task-gt-MAX_UNITS : goal.returns-then-task-gt-MAX_UNITS
returns-then-task-gt-MAX_UNITS c =
    first_units c.args.self.now.bytes.now _ _ c.loop-j.j _ _ c.args.self.now.headed (omega arith) c.loop-j.invariant
    c.task-task.ensures (omega arith) c.task_place.ensures

pub returns-then-not-may_within : goal.returns-then-not-may_within
returns-then-not-may_within c =
    first_row c.args.self.now.bytes.now _ _ c.loop-j.j _ _ c.args.self.now.headed (omega arith) c.loop-j.invariant
    c.task-task.ensures (omega arith)
    (row_bad c.task-task.result.hours c.args.self.now.hours (omega arith)
    (not_from_Decides c.may_within.result c.may_within.ensures c.if-not-may_within.true))
    (ap (λ p. p + 4) c.task_place-then-not-may_within.ensures)
