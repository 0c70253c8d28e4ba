use Rattle.std.proofs.Common.{refl}
use Rattle.flow.proofs.Cuts.{at_most, fills, dense, strict}
use Rattle.flow.proofs.cut.laws.Goals as goal

pub returns : goal.returns
returns c = record { bound = at_most; full = fills; over = dense; under = strict; count = refl }
