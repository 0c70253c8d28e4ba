use Rattle.std.proofs.Common.{◌≡◌, ◌+◌}
use Rattle.fraction.specs.Sum.{sum}
use Rattle.even.specs.DayOf.{day_of}
use Rattle.night.specs.Night.{hours_of, tasks_of}
use Rattle.sheet.specs.Sheet.{row}
use Rattle.sheet_writer.specs.Written.{Kept, TasksPut}
use Rattle.sheet_writer.proofs.writer.Content.put_tasks.Given as goal

abbrev pub invariant-loop-j : goal.invariant-loop-j
invariant-loop-j l =
    record {
      place : l.at ≡ l.p + sum l.j (row (day_of l.self.night.now));
      says : TasksPut l.j (hours_of l.self.night.now) l.p (tasks_of l.self.night.now) l.self.of.now l.self.plan.now l.b;
      kept : Kept l.p l.at l.initial.b l.b;
    }
