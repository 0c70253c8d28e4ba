use Rattle.std.proofs.Common.{string_bytes, rules}
use Rattle.text.proofs.Writing.{task_whole}
use Rattle.text.proofs.writer.write_task.Goals as goal

pub returns : goal.returns
returns c =
    task_whole c.args.hours c.args.name.now c.args.task (string_bytes c.args.out.now)
    (string_bytes c.write_label.new.out) (string_bytes c.write.new.self) (string_bytes c.write_hours.new.out) _
    c.in_ok-write_label.ensures (search rules) c.in_ok-write_hours.ensures (search rules)
