use Rattle.std.proofs.Common.{◌++◌, get_or, string_bytes, sym, ap, ◌∙◌, arith, below_more}
use Rattle.night.specs.Task.{blank_task}
use Rattle.text.specs.Written.{task_text, plain}
use Rattle.text.proofs.Writing.{lines_none, lines_more}
use Rattle.text.proofs.writer.write_tasks.Goals as goal

pub loop-j-init : goal.loop-j-init
loop-j-init c = (lines_none _ _ _ _, λ k l. absurd (omega arith))

pub loop-j-preserved : goal.loop-j-preserved
loop-j-preserved c =
    let j = c.loop-j.j in (
      lines_more c.args.hours c.args.tasks.now c.args.names.now j (string_bytes c.args.out.now) _ _ c.loop-j.invariant.0
          (c.in_ok-write_task.ensures
          ∙ ap (λ m. string_bytes c.loop-j.out ++ task_text c.args.hours m (get_or c.args.tasks.now j blank_task)) c.name_of-name.ensures),
      below_more _ _ c.loop-j.invariant.1 (sym (c.if-not-is_plain.ensures ∙ ap plain c.name_of-name.ensures)),
    )
