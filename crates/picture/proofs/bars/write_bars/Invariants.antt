use Rattle.std.proofs.Common.{◌≡◌, ◌++◌, string_bytes}
use Rattle.lines.specs.Lines.{concat}
use Rattle.picture.specs.Bars.{bar_at}
use Rattle.picture.proofs.bars.write_bars.Given as goal

abbrev pub invariant-loop-s : goal.invariant-loop-s
invariant-loop-s l =
    string_bytes l.out ≡ string_bytes l.initial.out ++ concat l.s (bar_at l.drawn l.most.num l.most.den)
