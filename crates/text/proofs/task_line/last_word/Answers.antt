use Rattle.std.proofs.Common.{refl}
use Rattle.text.proofs.Pieces.{last_read}
use Rattle.text.proofs.task_line.last_word.Goals as goal

pub returns : goal.returns
returns c = last_read (record { 0 = c.args.text }) _ _ _ c.last.ensures.ran c.unwrap_or.ensures refl
