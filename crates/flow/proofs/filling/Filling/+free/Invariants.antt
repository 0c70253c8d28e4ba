use Rattle.flow.proofs.filling.Filling.+free.Given as goal

abbrev pub decreases-free : goal.decreases-free
decreases-free l = l.d
