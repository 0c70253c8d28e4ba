use Rattle.text.proofs.Writing.{hours_none, hours_more}
use Rattle.text.proofs.writer.write_hours.Goals as goal

pub loop-k-init : goal.loop-k-init
loop-k-init c = hours_none _ _

pub loop-k-preserved : goal.loop-k-preserved
loop-k-preserved c = hours_more _ c.loop-k.k _ _ _ c.loop-k.invariant c.in_ok-write_hour.ensures
