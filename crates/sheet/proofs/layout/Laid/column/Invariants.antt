use Rattle.sheet.proofs.Columns.{Column}
use Rattle.sheet.proofs.layout.Laid.column.Given as goal

abbrev pub invariant-loop-j : goal.invariant-loop-j
invariant-loop-j l = Column l.self.tasks.now l.self.bytes.now l.overs l.initial.at l.s l.j l.tally l.at
