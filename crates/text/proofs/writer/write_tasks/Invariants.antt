use Rattle.std.proofs.Common.{◌≡◌, ℕ, ◌<◌, true, ◌++◌, string_bytes}
use Rattle.text.specs.Written.{lines_text, name_at, plain}
use Rattle.text.proofs.writer.write_tasks.Given as goal

abbrev pub invariant-loop-j : goal.invariant-loop-j
invariant-loop-j l =
    (string_bytes l.out ≡ string_bytes l.initial.out ++ lines_text l.hours l.tasks l.names l.j)
    × ((k : ℕ) → k < l.j → plain (name_at l.names k) ≡ true)
