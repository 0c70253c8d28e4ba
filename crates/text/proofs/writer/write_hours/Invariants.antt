use Rattle.std.proofs.Common.{◌≡◌, ◌++◌, string_bytes}
use Rattle.sets.specs.Hours.{has}
use Rattle.text.specs.Written.{hours_text}
use Rattle.text.proofs.writer.write_hours.Given as goal

abbrev pub invariant-loop-k : goal.invariant-loop-k
invariant-loop-k l = string_bytes l.out ≡ string_bytes l.initial.out ++ hours_text (has l.hours) l.k
