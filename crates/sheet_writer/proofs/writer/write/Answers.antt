use Rattle.std.proofs.Common.{arith, get_or-take}
use Rattle.sheet_writer.proofs.Writes.{says_same}
use Rattle.sheet_writer.proofs.Accepts.{wrote_accepted}
use Rattle.sheet_writer.proofs.writer.write.Goals as goal

pub returns-clause-outcome : goal.returns-clause-outcome
returns-clause-outcome c =
    record {
      long = c.len-len.ensures;
      room = omega arith;
      says = says_same c.put.ensures.says (λ i l. get_or-take _ c.put.new.sheet i 0 (omega (arith, c.len-len.ensures)));
      behind = λ i l. c.put.ensures.kept.behind i (omega (arith, c.len-len.ensures));
    }

pub returns-clause-accepted : goal.returns-clause-accepted
returns-clause-accepted c = λ num den at p. wrote_accepted (returns-clause-outcome c) p
