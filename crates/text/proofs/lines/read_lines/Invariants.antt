use Rattle.text.specs.Lines.{lines, lines_left}
use Rattle.text.proofs.Going.{Sofar}
use Rattle.text.proofs.lines.read_lines.Given as goal

abbrev pub invariant-loop-line : goal.invariant-loop-line
invariant-loop-line l = Sofar (lines l.text) (lines_left l.line-iterator.0) l.reading
