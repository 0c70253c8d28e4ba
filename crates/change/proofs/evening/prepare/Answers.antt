use Rattle.std.proofs.Common.{arith}
use Rattle.change.proofs.Evenings.{prepared}
use Rattle.change.proofs.evening.prepare.Goals as goal

pub returns : goal.returns
returns c =
    let planned = (rw c.unwrap-planned.ensures at c.plan_sheet.ensures) in
    prepared c.args.night.now c.in_ok-changed.changed c.args.row.now c.unwrap-planned.result _ _ _ _ _ _ _ _
    c.in_ok-changed.ensures (omega (arith, c.plan_sheet.auto.plan, c.deref_mut.ensures.len)) (omega (arith, c.plan_sheet.auto.sheet, c.deref_mut-3.ensures.len))
    planned
