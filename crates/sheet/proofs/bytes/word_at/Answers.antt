use Rattle.std.proofs.Common.{◌+◌, ◌-◌, ap, ◌∙◌, arith}
use Rattle.sheet.specs.Layout.{written}
use Rattle.sheet.specs.Sheet.{word}
use Rattle.sheet.proofs.Chunks.{chunk_written}
use Rattle.sheet.proofs.bytes.word_at.Goals as goal

pub returns : goal.returns
returns c =
    c.from_le_bytes.ensures
    ∙ (ap (λ ws. written ws 0) c.as_chunks.ensures.front
    ∙ (chunk_written c.args.b.now c.args.p (c.args.p + 8 - c.args.p) 0 (omega (arith, c.requires)) (omega arith) ∙ ap (λ q. word c.args.b.now q) (omega arith)))
