use Rattle.std.proofs.Common.{◌+◌, ◌^◌, ◌≤◌, eqb, length, vec_items, ap, subst, arith, rules}
use Rattle.text.specs.Lines.{lines}
use Rattle.text.specs.Told.{told}
use Rattle.text.proofs.Passing.{Upto, next_change}
use Rattle.text.proofs.Pieces.{pieces_few}
use Rattle.text.proofs.changes.read_all.Goals as goal

pub overflow_add-report : goal.overflow_add-report
overflow_add-report c =
    let small : c.loop-line.report.line + 1 ≤ 2 ^ 20 + 1 =
    omega (arith, c.loop-line.invariant.place, ap length c.in-Some.ensures.steps, pieces_few (λ b. eqb b 10) c.args.text.now, c.requires.short) in
    search rules

pub loop-line-preserved : goal.loop-line-preserved
loop-line-preserved c =
    next_change
    (subst (λ ls. Upto (lines c.args.text.now) ls (vec_items c.loop-line.changes) (told c.args.report.now.mistakes) c.loop-line.report) c.in-Some.ensures.steps c.loop-line.invariant)
    c.in_ok-add_change.ensures
