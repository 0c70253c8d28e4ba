use Rattle.std.proofs.Common.{vec_items}
use Rattle.text.specs.Lines.{lines, lines_left}
use Rattle.text.specs.Told.{told}
use Rattle.text.proofs.Passing.{Upto}
use Rattle.text.proofs.changes.read_all.Given as goal

abbrev pub invariant-loop-line : goal.invariant-loop-line
invariant-loop-line l =
    Upto (lines l.text) (lines_left l.line-iterator.0) (vec_items l.changes) (told l.initial.report.mistakes) l.report
