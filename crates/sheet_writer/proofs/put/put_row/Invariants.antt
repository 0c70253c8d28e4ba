use Rattle.sets.specs.Hours.{has}
use Rattle.sheet_writer.proofs.Puts.{RowPut}
use Rattle.sheet_writer.proofs.put.put_row.Given as goal

abbrev pub invariant-loop-s : goal.invariant-loop-s
invariant-loop-s l = RowPut l.s l.p (has l.set) l.row l.at l.initial.b l.b
