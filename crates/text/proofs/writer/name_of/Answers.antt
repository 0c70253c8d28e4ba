use Rattle.std.proofs.Common.{rules}
use Rattle.text.proofs.Writing.{name_read}
use Rattle.text.proofs.writer.name_of.Goals as goal

pub returns : goal.returns
returns c = name_read _ _ c.get.result _ c.get.ensures.lookup.3 (search rules)
