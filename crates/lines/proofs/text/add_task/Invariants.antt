use Rattle.std.proofs.Common.{get_or, string_bytes}
use Rattle.lines.proofs.Texts.{Row}
use Rattle.lines.proofs.text.add_task.Given as goal

abbrev pub invariant-loop-hour : goal.invariant-loop-hour
invariant-loop-hour l =
    Row l.task l.parts (λ s. get_or l.row s 0) l.hour (string_bytes l.initial.text) (string_bytes l.text)
