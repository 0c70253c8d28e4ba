use Rattle.std.proofs.Common.{◌≡◌, ◌++◌, string_bytes}
use Rattle.lines.specs.Lines.{concat}
use Rattle.picture.specs.Columns.{column_at}
use Rattle.picture.proofs.columns.write_columns.Given as goal

abbrev pub invariant-loop-s : goal.invariant-loop-s
invariant-loop-s l =
    string_bytes l.out
    ≡ string_bytes l.initial.out
    ++ concat l.s (column_at l.chart.drawn l.chart.frame.column l.chart.most.num l.chart.most.den)
