use Rattle.std.proofs.Common.{arith}
use Rattle.level.specs.Levels.{hour_group}
use Rattle.level.specs.Parts.{num, den}
use Rattle.sheet_writer.proofs.Sheeted.{solved_plan, solved_is_ok}
use Rattle.sheet_writer.proofs.planned.plan_sheet.Goals as goal

pub unwrap-length-requires : goal.unwrap-length-requires
unwrap-length-requires c =
    let solved = rw c.unwrap-levels.ensures at c.plan_night.ensures in
    solved_is_ok solved c.args.sheet.now c.write.new.sheet c.write.result (omega (arith, c.plan_night.auto.plan)) (omega arith)
    c.write.ensures.outcome

pub returns : goal.returns
returns c =
    let v = c.unwrap-levels.result in
    let solved = rw c.unwrap-levels.ensures at c.plan_night.ensures in
    let accepted = rw c.unwrap-length.ensures at c.write.ensures.accepted in
    record {
      solved = solved;
      wrote = rw c.unwrap-length.ensures at c.write.ensures.outcome;
      accepted = accepted (num v.levels) (den v.levels) (hour_group v) (solved_plan solved);
    }
