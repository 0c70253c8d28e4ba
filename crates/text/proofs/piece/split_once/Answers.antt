use Rattle.std.proofs.Common.{◌+◌, add-one, rules}
use Rattle.std.proofs.lemmas.List.{take_rest}
use Rattle.text.proofs.Pieces.{never, parted}
use Rattle.text.proofs.piece.split_once.Goals as goal

pub returns-in_err-i : goal.returns-in_err-i
returns-in_err-i c = search (rules, never)

pub returns : goal.returns
returns c = rw (take_rest c.args.bytes.now (c.in_ok-i.i + 1), add-one) (parted _ _ _ (search rules))
