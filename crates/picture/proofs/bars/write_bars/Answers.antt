use Rattle.std.proofs.Common.{◌≡◌, arith}
use Rattle.night.specs.Night.{hours_of}
use Rattle.lines.proofs.Concats.{concat_none, concat_more}
use Rattle.picture.proofs.Drawing.{line_is}
use Rattle.picture.proofs.bars.write_bars.Goals as goal

pub loop-s-init : goal.loop-s-init
loop-s-init c = concat_none _ _

pub loop-s-preserved : goal.loop-s-preserved
loop-s-preserved c =
    concat_more _ _ _ _ _ _ c.loop-s.invariant c.in_ok-write_bar.ensures
    (line_is c.args.drawn c.args.most.num c.args.most.den c.loop-s.s _ _ _ _ _ c.mark_in-mark.ensures c.group.ensures c.load-load.ensures.0
    c.load-load.ensures.1 c.bar.ensures.value)

pub returns : goal.returns
returns c =
    let e : c.loop-s.s ≡ hours_of c.args.drawn.night.now = omega (arith, c.hours-s-end.ensures) in
    rw e at c.loop-s.invariant
