use Rattle.std.proofs.Common.{ℕ, ◌<◌}
use Rattle.even.specs.DayOf.{day}
use Rattle.sheet.specs.Verdict.{Level}
use Rattle.sheet.proofs.layout.Laid.levels.Given as goal

abbrev pub invariant-loop-j : goal.invariant-loop-j
invariant-loop-j l = (j s t : ℕ) → j < l.j → s < l.self.hours → t < l.self.hours → Level (day l.self.hours l.self.tasks.now) l.self.bytes.now j s t
