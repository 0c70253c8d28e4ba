use Rattle.std.proofs.Common.{◌≡◌, ℕ, ◌+◌, ◌<◌, true, get_or, ◌∙◌, arith}
use Rattle.fraction.proofs.Sums.{sum_none, sum_more, sum_step}
use Rattle.even.specs.DayOf.{day_of}
use Rattle.night.specs.Night.{tasks_of}
use Rattle.night.specs.Task.{may}
use Rattle.sheet.specs.Layout.{listed}
use Rattle.sheet.specs.Sheet.{row}
use Rattle.sheet_writer.specs.Written.{Kept}
use Rattle.sheet_writer.proofs.Puts.{kept_none, kept_join}
use Rattle.sheet_writer.proofs.Writes.{tasks_more}
use Rattle.sheet_writer.proofs.writer.Content.put_tasks.Goals as goal

pub loop-j-init : goal.loop-j-init
loop-j-init c =
    record {
      place = omega (arith, sum_none (row (day_of c.args.self.now.night.now)));
      says = record { groups = λ j l. absurd (omega arith); amounts = λ j s l. absurd (omega arith) };
      kept = kept_none _ _ _;
    }

pub put_task-at-requires-clause-within : goal.put_task-at-requires-clause-within
put_task-at-requires-clause-within c =
    let y = day_of c.args.self.now.night.now in
    let l : c.loop-j.j < y.tasks = rw c.tasks-task-items.ensures at c.loop-j-test.true in
    rw (c.row.ensures.long, c.tasks-task-items.ensures)
    (omega (arith, c.loop-j.invariant.place, c.requires, sum_step c.loop-j.j y.tasks (row y) l))

pub loop-j-preserved : goal.loop-j-preserved
loop-j-preserved c =
    let night = c.args.self.now.night.now in
    let y = day_of night in
    let j = c.loop-j.j in
    let b = c.put_task-at.new.b in
    let end : c.put_task-at.result ≡ c.loop-j.at + row y j = rw (c.row.ensures.long, c.tasks-task-items.ensures) at c.put_task-at.ensures.end in
    let kept : Kept c.loop-j.at (c.loop-j.at + row y j) c.loop-j.b b = rw (c.row.ensures.long, c.tasks-task-items.ensures) at c.put_task-at.ensures.kept in
    let amounts : (s : ℕ) → s < y.hours → may (tasks_of night) j s ≡ true → listed b (c.loop-j.at + 1) (may (tasks_of night) j) s ≡ get_or c.row.result.now s 0 =
    rw (c.row.ensures.long, c.tasks-task-items.ensures) at c.put_task-at.ensures.amounts in
    record {
      place = omega (arith, end, c.loop-j.invariant.place, sum_more j (row y));
      says =
          tasks_more c.loop-j.invariant.says c.loop-j.invariant.place kept c.put_task-at.ensures.group
          (λ s l m. amounts s l m ∙ c.row.ensures.each s l);
      kept = rw end (kept_join c.loop-j.invariant.kept kept (omega (arith, c.loop-j.invariant.place)) (omega arith) (omega arith));
    }
