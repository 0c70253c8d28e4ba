use Rattle.std.proofs.Common.{eqb, length, ap, inl, arith}
use Rattle.text.proofs.Pieces.{pieces_few}
use Rattle.text.proofs.unread.count_lines.Goals as goal

pub count-requires-clause-fits : goal.count-requires-clause-fits
count-requires-clause-fits c =
    inl (omega (arith, ap length c.of.ensures, pieces_few (λ b. eqb b 10) c.args.text.now, c.requires))
