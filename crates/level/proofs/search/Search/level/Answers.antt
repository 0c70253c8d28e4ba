use Rattle.std.proofs.Common.{◌≡◌, ℕ, ◌*◌, ◌<◌, Bool, true, cond, IfSome, ap, ◌∙◌, subst, arith}
use Rattle.std.proofs.lemmas.Bool.Decides.{nat_tests}
use Rattle.fraction.specs.Fraction.{Reduced}
use Rattle.fraction.specs.Sum.{size}
use Rattle.fraction.proofs.Sums.{sum_tail, size_le}
use Rattle.level.specs.Parts.{top_hours}
use Rattle.level.proofs.search.Search.level.Goals as goal

-- a set of hours below 96 has as many below 128
counted : (p : ℕ → Bool) → ((s : ℕ) → p s ≡ true → s < 96) → size 128 p ≡ size 96 p
counted p low =
    sum_tail 96 128 (λ s. cond {A = ℕ} (p s) 1 0) (omega arith) (λ s a b. let k = low s in grind (arith, nat_tests))

pub unwrap-requires : goal.unwrap-requires
unwrap-requires c =
    let p = top_hours c.args.self.now.parts in
    let e = counted p c.requires.top.low in
    let k = size_le 96 p in
    let some = c.requires.top.some in
    let f = c.count.ensures in
    let g = c.weigh.ensures.small in
    c.reduced.ensures.test ∙ grind (arith, nat_tests)

pub returns : goal.returns
returns c =
    let p = top_hours c.args.self.now.parts in
    let e = counted p c.requires.top.low in
    let k = size_le 96 p in
    let g : Reduced c.weigh.result c.count.result c.unwrap.result.num c.unwrap.result.den =
    subst (λ o. IfSome o (λ x. Reduced c.weigh.result c.count.result x.num x.den)) c.unwrap.ensures
    c.reduced.ensures.value in
    let w = c.weigh.ensures.value in
    let n = c.count.ensures in
    record {
      value =
          omega
          (arith, g.equal, ap (λ v. v * c.unwrap.result.den) w, ap (λ v. v * c.unwrap.result.num) (n ∙ e));
      small = omega (arith, g.below_le, n, e, k);
    }
