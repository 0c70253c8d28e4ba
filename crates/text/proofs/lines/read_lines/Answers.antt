use Rattle.std.proofs.Common.{◌+◌, ◌^◌, ◌≤◌, eqb, length, ap, subst, arith, rules}
use Rattle.text.specs.Lines.{lines}
use Rattle.text.proofs.Going.{Sofar, next_line}
use Rattle.text.proofs.Pieces.{pieces_few}
use Rattle.text.proofs.lines.read_lines.Goals as goal

pub overflow_add-reading : goal.overflow_add-reading
overflow_add-reading c =
    let small : c.loop-line.reading.report.line + 1 ≤ 2 ^ 20 + 1 =
    omega (arith, c.loop-line.invariant.place, ap length c.in-Some.ensures.steps, pieces_few (λ b. eqb b 10) c.args.text.now, c.requires) in
    search rules

pub loop-line-preserved : goal.loop-line-preserved
loop-line-preserved c =
    next_line (subst (λ ls. Sofar (lines c.args.text.now) ls c.loop-line.reading) c.in-Some.ensures.steps c.loop-line.invariant)
    c.in_ok-read_line.ensures
