use Rattle.std.proofs.Common.{◌∙◌, ap, arith, unwrap_or}
use Rattle.picture.proofs.Drawing.{load_is}
use Rattle.picture.proofs.drawn.Drawn.load.Goals as goal

pub returns : goal.returns
returns c =
    let none = c.zero.result in
    load_is c.args.self.loads.now c.args.s none _ c.zero.ensures.0 c.zero.ensures.1
    (c.unwrap_or.ensures ∙ (ap (λ o. unwrap_or o none) c.copied.ensures ∙ c.get.ensures.lookup.4 (omega arith) none))
