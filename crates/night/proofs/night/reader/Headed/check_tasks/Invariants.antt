use Rattle.std.proofs.Common.{ℕ, ◌<◌}
use Rattle.night.specs.Format.{task_in}
use Rattle.night.specs.Task.{Fits}
use Rattle.night.proofs.night.reader.Headed.check_tasks.Given as goal

abbrev pub invariant-loop-j : goal.invariant-loop-j
invariant-loop-j l = (i : ℕ) → i < l.j → Fits l.self.hours (task_in l.self.bytes.now i)
