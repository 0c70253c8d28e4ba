use Rattle.std.proofs.Common.{◌/◌, ◌%◌, length, get_or, ap, sym, ◌∙◌, arith, get_or-take, length-take}
use Rattle.sets.specs.Bit.{bit}
use Rattle.sets.proofs.Members.{has_bit}
use Rattle.sheet_writer.proofs.Puts.{bit_in_bytes}
use Rattle.sheet_writer.proofs.put.put_bits.Goals as goal

pub returns-clause-says : goal.returns-clause-says
returns-clause-says c s l =
    let short = c.requires.short in
    let long = ap length c.to_le_bytes.ensures in
    ap (λ x. bit x (s % 8))
    (c.put_bytes.ensures.says (s / 8) (simp length-take (omega arith))
    ∙ get_or-take c.row_bytes.result c.to_le_bytes.result (s / 8) 0 (omega arith)
    ∙ ap (λ x. get_or x (s / 8) 0) c.to_le_bytes.ensures)
    ∙ bit_in_bytes c.bits.result s (omega arith)
    ∙ ap (λ n. bit n s) c.bits.ensures
    ∙ sym (has_bit c.args.set s (omega arith))
