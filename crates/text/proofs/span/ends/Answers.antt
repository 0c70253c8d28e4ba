use Rattle.std.proofs.Common.{rules}
use Rattle.text.proofs.Spans.{halves}
use Rattle.text.proofs.span.ends.Goals as goal

pub returns : goal.returns
returns c = λ n.
    simp (c.number.ensures, c.number-2.ensures)
    (halves n c.args.word c.split_once.result c.unwrap_or.result c.split_once.ensures (search rules))
