use Rattle.std.proofs.Common.{string_bytes}
use Rattle.lines.proofs.Texts.{Rows}
use Rattle.lines.proofs.text.add_tasks.Given as goal

abbrev pub invariant-loop-task : goal.invariant-loop-task
invariant-loop-task l =
    Rows l.hours l.parts l.amounts l.task (string_bytes l.initial.text) (string_bytes l.text)
