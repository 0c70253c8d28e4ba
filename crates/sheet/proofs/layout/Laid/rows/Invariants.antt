use Rattle.std.proofs.Common.{ℕ, ◌<◌}
use Rattle.even.specs.DayOf.{day}
use Rattle.sheet.specs.Verdict.{Adds}
use Rattle.sheet.proofs.layout.Laid.rows.Given as goal

abbrev pub invariant-loop-j : goal.invariant-loop-j
invariant-loop-j l = (j : ℕ) → j < l.j → Adds (day l.self.hours l.self.tasks.now) l.self.bytes.now j
