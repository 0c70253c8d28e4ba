use Rattle.std.proofs.Common.{◌≡◌, ◌+◌, ◌*◌, ap, ◌∙◌, arith, get_or-set_same}
use Rattle.fraction.specs.Sum.{sum}
use Rattle.even.specs.DayOf.{day_of}
use Rattle.night.specs.Format.{width}
use Rattle.night.specs.Night.{hours_of, tasks_of}
use Rattle.sheet.specs.Sheet.{row}
use Rattle.sheet_writer.specs.Written.{GroupsPut, Kept, TasksPut}
use Rattle.sheet_writer.proofs.Puts.{kept_set}
use Rattle.sheet_writer.proofs.Writes.{says_by}
use Rattle.sheet_writer.proofs.writer.Content.put.Goals as goal

pub returns-clause-says : goal.returns-clause-says
returns-clause-says c =
    let content = c.args.self.now in
    let n = hours_of content.night.now in
    let ts = tasks_of content.night.now in
    let y = day_of content.night.now in
    let p = n * 9 + 1 + content.found * width n in
    let b = c.put_loads.new.b in
    let hours = c.hours-hours.ensures in
    let bytes : c.row_bytes.result ≡ width n = c.row_bytes.ensures ∙ ap width hours in
    let groups : GroupsPut content.found n (n * 9 + 1) content.groups.now c.put_groups.new.b = rw hours at c.put_groups.ensures.says in
    let groups_kept : Kept (n * 9 + 1) p _ c.put_groups.new.b = rw hours at c.put_groups.ensures.kept in
    let tasks : TasksPut y.tasks n p ts content.of.now content.plan.now c.put_tasks.new.b = rw (hours, bytes) at c.put_tasks.ensures.says in
    let tasks_kept : Kept p (p + sum y.tasks (row y)) c.put_groups.new.b c.put_tasks.new.b = rw (hours, bytes) at c.put_tasks.ensures.kept in
    says_by n ts content.loads.now content.groups.now content.found _ content.of.now content.plan.now b _ c.put_groups.new.b c.put_tasks.new.b
    c.put_loads.ensures.says (kept_set b (n * 9) content.found)
    (get_or-set_same b (n * 9) content.found 0 (omega (arith, c.requires))) groups groups_kept tasks tasks_kept
