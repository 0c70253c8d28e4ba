use Rattle.std.proofs.Common.{◌∙◌, rules, tests}
use Rattle.std.proofs.lemmas.Iterator.{YieldsList-from_slice}
use Rattle.std.proofs.lemmas.Iterator.Search.{position_from_yields_List}
use Rattle.sets.specs.Hours.{has}
use Rattle.picture.proofs.Drawing.{group_is}
use Rattle.picture.proofs.drawn.Drawn.group.Goals as goal

pub returns : goal.returns
returns c =
    position_from_yields_List (λ h. has h c.args.s) _ _ c.position.result c.position.ensures.ran
    (YieldsList-from_slice c.args.self.groups.now cc) (λ x b q k. search (rules, tests))
    ∙ group_is c.args.self.groups.now c.args.s
