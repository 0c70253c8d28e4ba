use Rattle.std.proofs.Common.{arith}
use Rattle.night.proofs.Digits.{little_padded, little_small}
use Rattle.night.proofs.bytes.read_little.Goals as goal

pub returns-clause-value : goal.returns-clause-value
returns-clause-value c = little_padded _ _ _ _ c.min-len.ensures c.copy_from_slice.ensures.after c.from_le_bytes.ensures

pub returns-clause-small : goal.returns-clause-small
returns-clause-small c =
    rw (little_padded c.args.bytes.now _ _ c.from_le_bytes.result c.min-len.ensures c.copy_from_slice.ensures.after c.from_le_bytes.ensures)
    (little_small c.args.bytes.now (λ i. let f = c.type_inv.bytes i in omega arith))
