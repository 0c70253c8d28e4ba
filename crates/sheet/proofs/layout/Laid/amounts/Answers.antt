use Rattle.std.proofs.Common.{refl, arith}
use Rattle.sheet.proofs.Amounts.{amounts_end, amounts_in, amounts_made}
use Rattle.sheet.proofs.layout.Laid.amounts.Goals as goal

pub overflow_add-self : goal.overflow_add-self
overflow_add-self c =
    omega
    (arith, amounts_end c.args.self.now.laid c.args.j c.requires, amounts_in c.args.self.now.laid c.args.j c.requires)

pub slice_bounds-as_chunks-count : goal.slice_bounds-as_chunks-count
slice_bounds-as_chunks-count c = omega (arith, amounts_end c.args.self.now.laid c.args.j c.requires)

pub slice_bounds-as_chunks-start : goal.slice_bounds-as_chunks-start
slice_bounds-as_chunks-start c = omega (arith, amounts_end c.args.self.now.laid c.args.j c.requires)

pub slice_bounds-as_chunks-end : goal.slice_bounds-as_chunks-end
slice_bounds-as_chunks-end c = amounts_in c.args.self.now.laid c.args.j c.requires

pub returns : goal.returns
returns c = amounts_made c.args.self.now.laid c.args.j c.requires _ _ _ refl refl c.as_chunks.ensures.front c.as_chunks.ensures.front_len
