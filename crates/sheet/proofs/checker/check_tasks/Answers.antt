use Rattle.even.specs.DayOf.{day}
use Rattle.sheet.specs.Verdict.{Accepted}
use Rattle.sheet.proofs.Verdicts.{accepted_by}
use Rattle.sheet.proofs.checker.check_tasks.Goals as goal

pub returns : goal.returns
returns c =
    let s = c.in_ok-laid.laid in
    let same = c.in_ok-laid.ensures in
    let accepted : Accepted (day c.in_ok-laid.laid.hours c.in_ok-laid.laid.tasks.now) c.in_ok-laid.laid.bytes.now =
    accepted_by _ _ c.in_ok-laid.laid.laid.sized c.in_ok-loads.ensures c.in_ok-rows.ensures c.in_ok-levels.ensures in
    rw (same.0, same.1, same.2) at accepted
