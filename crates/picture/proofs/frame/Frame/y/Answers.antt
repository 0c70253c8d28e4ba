use Rattle.std.proofs.Common.{refl, mul-le-mul, arith}
use Rattle.picture.proofs.frame.Frame.y.Goals as goal

pub returns : goal.returns
returns c = record { value = refl; within = omega (arith, mul-le-mul c.requires c.args.self.low) }
