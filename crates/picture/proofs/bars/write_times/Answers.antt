use Rattle.std.proofs.Common.{refl}
use Rattle.lines.proofs.Concats.{concat_none, concat_more}
use Rattle.picture.proofs.bars.write_times.Goals as goal

pub loop-init : goal.loop-init
loop-init c = concat_none _ _

pub loop-preserved : goal.loop-preserved
loop-preserved c = concat_more _ _ _ _ _ _ c.loop.invariant c.in_ok-write.ensures.bytes refl
