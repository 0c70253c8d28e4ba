use Rattle.std.proofs.Common.{◌-◌, ◌*◌, ap, arith}
use native.Mathlib.Nat.{sub-zero}
use Rattle.std.proofs.lemmas.List.{length-take-le}
use Rattle.std.proofs.lemmas.Bool.{some_since}
use Rattle.std.proofs.lemmas.Bool.Decides.{nat_tests}
use Rattle.level.proofs.Ships.{poured}
use Rattle.level.proofs.ship.pour.Goals as goal

pub unwrap-requires : goal.unwrap-requires
unwrap-requires c =
    let a = length-take-le c.args.k c.args.may.now (omega (arith, c.requires.few, c.requires.rows)) in
    let b = length-take-le c.args.k c.args.supply.now (omega (arith, c.requires.few, c.requires.supplies)) in
    let m = ap (λ v. v * 96) b in
    let r = c.requires.room in
    let f = c.requires.few in
    some_since c.fill.result _ _ c.fill.ensures.filled (λ e. grind (arith, nat_tests))

pub returns : goal.returns
returns c =
    let b = length-take-le c.args.k c.args.supply.now (omega (arith, c.requires.few, c.requires.supplies)) in
    record {
      poured =
          poured c.args.k (c.args.k - 0) (sub-zero c.args.k) c.args.may.now c.args.supply.now c.args.hours c.args.p
          c.fill.new.net c.fill.new.work c.fill.result c.unwrap.result _ (omega (arith, c.requires.few, c.requires.supplies))
          c.unwrap.ensures c.fill.ensures.filled;
      behind = λ i l. c.fill.ensures.rest i (omega (arith, ap (λ v. v * 96) b));
    }
