use Rattle.std.proofs.Common.{sym, arith}
use Rattle.text.proofs.Spans.{within}
use Rattle.text.proofs.span.read_span.Goals as goal

pub returns : goal.returns
returns c =
    simp (c.ends.ensures c.args.hours, c.in-Some-Some.is-0, c.in-Some-Some.is-1)
    (sym (within _ _ _ (omega arith) (omega arith)))
