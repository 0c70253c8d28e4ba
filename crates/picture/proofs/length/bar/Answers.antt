use Rattle.std.proofs.Common.{rules}
use Rattle.picture.proofs.Lengths.{bar_none, bar_some}
use Rattle.picture.proofs.length.bar.Goals as goal

pub returns-then-all-eq0 : goal.returns-then-all-eq0
returns-then-all-eq0 c = bar_none _ _ _ _ _ c.args.load.some (search rules)

pub returns : goal.returns
returns c = bar_some _ _ _ _ _ c.args.most.some (search rules) _ (search rules)
