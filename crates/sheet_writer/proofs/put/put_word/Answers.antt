use Rattle.std.proofs.Common.{arith}
use Rattle.sheet_writer.proofs.Puts.{word_of}
use Rattle.sheet_writer.proofs.put.put_word.Goals as goal

pub returns-clause-says : goal.returns-clause-says
returns-clause-says c =
    word_of c.put_bytes.new.b c.to_le_bytes.result c.args.p c.args.n (omega arith) c.to_le_bytes.ensures
    c.put_bytes.ensures.says
