use Rattle.std.proofs.Common.{◌+◌, ◌∙◌, arith, get_or-set_other}
use Rattle.sheet_writer.proofs.Puts.{word_same}
use Rattle.sheet_writer.proofs.writer.put_load.Goals as goal

pub returns-clause-num : goal.returns-clause-num
returns-clause-num c =
    word_same c.put_word.new.b _ c.args.p (λ i l h. get_or-set_other c.put_word.new.b (c.args.p + 8) i _ 0 (omega arith))
    ∙ (c.put_word.ensures.says ∙ c.num.ensures)
