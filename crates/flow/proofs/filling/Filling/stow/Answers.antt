use Rattle.flow.proofs.Betters.{ships_improves}
use Rattle.flow.proofs.filling.Filling.stow.Goals as goal

pub returns-then-d-gt0 : goal.returns-then-d-gt0
returns-then-d-gt0 c = ships_improves c.requires.task c.requires.hour c.ship.ensures c.if-d-gt0.true
