use Rattle.std.proofs.Common.{◌+◌, ◌<◌, ◌≤◌, length, sym, arith, length-set}
use Rattle.std.proofs.lemmas.Bool.{not-true, not-false}
use Rattle.fraction.specs.Sum.{size}
use Rattle.fraction.proofs.Sums.{size_le}
use Rattle.sets.specs.Hours.{has}
use Rattle.flow.specs.Lent.{layer}
use Rattle.flow.proofs.Rounds.{layered_more, larger, next_size, stuck}
use Rattle.flow.proofs.filling.Filling.look.Goals as goal

pub returns-then-is_empty : goal.returns-then-is_empty
returns-then-is_empty c = (
  omega arith,
  c.loop-depth.invariant.2,
  stuck c.loop-depth.invariant.2 c.in-Continue.ensures c.args.self.now.sound.marks.low c.minus.result c.minus.ensures (not-true _ (sym c.if-is_empty.ensures)),
)

-- the next layer is larger
grows : (c : goal.Else-is_empty) → c.loop-depth.depth + 1 ≤ size 96 (has c.in-Continue.next)
grows c =
    omega
    (arith, c.loop-depth.invariant.1, larger c.loop-depth.invariant.2 c.in-Continue.ensures c.args.self.now.sound.marks.low c.minus.result c.minus.ensures (not-false _ (sym c.if-is_empty.ensures)))

-- and there are at most 96 hours
short : (c : goal.Else-is_empty) → c.loop-depth.depth + 1 ≤ 96
short c = omega (arith, grows c, size_le 96 (has c.in-Continue.next))

pub bounds-layers-depth-in-Continue : goal.bounds-layers-depth-in-Continue
bounds-layers-depth-in-Continue c = omega (arith, short c)

pub loop-depth-preserved : goal.loop-depth-preserved
loop-depth-preserved c =
    let l : c.loop-depth.depth + 1 < length c.loop-depth.layers = omega (arith, c.loop-depth.invariant.0, short c) in (
      simp length-set c.loop-depth.invariant.0,
      omega (arith, grows c, next_size c.loop-depth.invariant.2 c.in-Continue.ensures c.args.self.now.sound.marks.low l),
      layered_more c.loop-depth.invariant.2 c.in-Continue.ensures c.args.self.now.sound.marks.low l,
    )

pub unreachable-requires : goal.unreachable-requires
unreachable-requires c =
    omega (arith, c.loop-depth.invariant.1, size_le 96 (layer c.loop-depth.layers c.loop-depth.depth))
