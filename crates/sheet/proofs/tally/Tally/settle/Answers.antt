use Rattle.std.proofs.Common.{◌≡◌, ◌+◌, ◌*◌, ◌/◌, refl, ap, ◌∙◌, arith}
use Rattle.even.specs.Whole.{whole}
use Rattle.sheet.specs.Limbs.{value}
use Rattle.sheet.proofs.Words.{whole_words, no_carry}
use Rattle.sheet.proofs.tally.Tally.settle.Goals as goal

pub returns : goal.returns
returns c =
    let share : value c.divided-share.result ≡ whole / c.args.self.now.over =
    c.divided-share.ensures ∙ ap (λ w. w / c.args.self.now.over) whole_words in
    let e = no_carry _ _ _ (c.add_times.ensures ∙ ap (λ v. value c.args.self.now.sum + c.args.self.now.run * v) share) c.requires in
    record { same = omega arith; none = refl }
