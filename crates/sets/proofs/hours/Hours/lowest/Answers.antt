use Rattle.std.proofs.Common.{sym, ◌∙◌, arith}
use Rattle.fraction.specs.Sum.{any}
use Rattle.std.proofs.lemmas.Bool.{not-true, eqb-false}
use Rattle.sets.specs.Hours.{has}
use Rattle.sets.proofs.Members.{empty_bits, lowest_bits}
use Rattle.sets.proofs.hours.Hours.lowest.Goals as goal

pub returns-then-is_empty : goal.returns-then-is_empty
returns-then-is_empty c =
    not-true (any 128 (has c.args.self)) (sym c.is_empty.ensures ∙ c.if-is_empty.true)

pub returns : goal.returns
returns c =
    let some =
    eqb-false c.args.self.bits 0
    (empty_bits c.args.self (omega arith) ∙ sym c.is_empty.ensures ∙ c.if-is_empty.false) in
    lowest_bits c.args.self (omega arith) (omega (arith, some))
