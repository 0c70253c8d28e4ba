use Rattle.even.specs.DayOf.{day}
use Rattle.sheet.proofs.ByHour.{Through}
use Rattle.sheet.proofs.layout.Laid.loads.Given as goal

abbrev pub invariant-loop-s : goal.invariant-loop-s
invariant-loop-s l = Through (day l.self.hours l.self.tasks.now) l.self.bytes.now l.s l.at
