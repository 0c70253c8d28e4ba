use Rattle.std.proofs.Common.{◌≡◌, length, get_or, ap, arith}
use Rattle.fraction.specs.Sum.{sum}
use Rattle.flow.specs.Lent.{left}
use Rattle.flow.proofs.Betters.{keeps_then, ships_keeps}
use Rattle.flow.proofs.Ends.{shipped_less}
use Rattle.flow.proofs.filling.Filling.step.Goals as goal

pub ship-requires : goal.ship-requires
ship-requires c =
    let at = c.in-Some.ensures.member in
    let in_both = c.common.ensures c.in-Some.u in
    let e = c.free-got.ensures in
    let same = e.keeps.same.may in
    let stays : left c.free-got.new.self.net.now c.args.j ≡ left c.args.self.now.net.now c.args.j = ap (λ x. get_or x c.args.j 0) e.freed.lefts in
    record {
      task = rw same c.requires.waits.task_in;
      hour = c.requires.ways.low c.args.d (omega arith) c.in-Some.u (grind arith);
      allowed = rw same (grind arith);
      some = e.some;
      waits = omega (arith, e.freed.most, stays);
      roomy = e.freed.ready;
    }

pub returns : goal.returns
returns c =
    let m = length c.args.self.now.may.now in
    let at = c.in-Some.ensures.member in
    let in_both = c.common.ensures c.in-Some.u in
    let low = c.requires.ways.low c.args.d (omega arith) c.in-Some.u (grind arith) in
    let e = c.free-got.ensures in
    let g = c.ship.ensures in
    let same = e.keeps.same.may in
    let stays : sum m (left c.free-got.new.self.net.now) ≡ sum m (left c.args.self.now.net.now) = ap (λ x. sum m (λ i. get_or x i 0)) e.freed.lefts in
    record {
      less = rw (g.same.may, same) (omega (arith, stays, shipped_less m c.requires.waits.task_in e.some g.shipped));
      keeps = keeps_then e.keeps (ships_keeps (rw same c.requires.waits.task_in) low g);
    }
