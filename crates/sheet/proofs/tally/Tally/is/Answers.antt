use Rattle.std.proofs.Common.{◌≡◌, ◌*◌, ◌/◌, eqb, ap, ◌∙◌, arith}
use Rattle.even.specs.Whole.{whole}
use Rattle.sheet.specs.Limbs.{value}
use Rattle.sheet.specs.Tally.{parts}
use Rattle.sheet.proofs.Words.{whole_words, whole_fits, no_carry, times_fits, seven_eight, value_zeros}
use Rattle.sheet.proofs.tally.Tally.is.Goals as goal

pub settle-requires : goal.settle-requires
settle-requires c = omega (arith, seven_eight)

pub returns : goal.returns
returns c =
    let sum : value c.settle.new.self.sum ≡ parts c.args.self =
    omega (arith, ap (λ r. r * (whole / c.settle.new.self.over)) c.settle.ensures.none) in
    let left : value c.add_times.new.to ≡ parts c.args.self * c.args.den =
    no_carry _ c.add_times.result _ (omega (arith, value_zeros, ap (λ v. c.args.den * v) sum))
    (omega (arith, times_fits c.args.den (parts c.args.self) (omega arith) c.requires)) in
    let right : value c.add_times-2.new.to ≡ c.args.num * whole =
    no_carry _ c.add_times-2.result _ (omega (arith, value_zeros, ap (λ v. c.args.num * v) whole_words))
    (times_fits c.args.num whole (omega arith) whole_fits) in
    c.same.ensures ∙ (ap (λ v. eqb v (value c.add_times-2.new.to)) left ∙ ap (λ v. eqb (parts c.args.self * c.args.den) v) right)
