use Rattle.std.proofs.lemmas.Slice.Eq.{bytes_eq-Decides}
use Rattle.sheet.proofs.Words.{same_value}
use Rattle.sheet.proofs.limbs.same.Goals as goal

pub returns : goal.returns
returns c = same_value c.args.a.now c.args.b.now c.fits-a c.fits-b _ c.told-a c.told-b (rw c.eq.ensures (bytes_eq-Decides c.args.a.now c.args.b.now))
