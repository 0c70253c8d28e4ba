use Rattle.std.proofs.lemmas.Iterator.{YieldsList-from_slice}
use Rattle.std.proofs.lemmas.Iterator.Consumers.{reduce_from_yields_List, YieldsList-from_copied}
use Rattle.picture.proofs.Drawing.{larger, largest_is}
use Rattle.picture.proofs.length.largest.Goals as goal

pub returns : goal.returns
returns c =
    largest_is _ _ c.zero.result _ c.zero.ensures.0
    (reduce_from_yields_List larger _ _ c.max.ensures.ran (YieldsList-from_copied (YieldsList-from_slice c.args.loads.now cc)))
    c.unwrap_or.ensures
