use Rattle.flow.proofs.Betters.{improves_then}
use Rattle.flow.proofs.filling.Filling.+drain.Goals as goal

pub loop-preserved : goal.loop-preserved
loop-preserved t c =
    (c.if-got-ask.array_long, improves_then c.loop.invariant.1 (improves_then c.drain-got-in-loop.ensures.improves c.slide.ensures))
