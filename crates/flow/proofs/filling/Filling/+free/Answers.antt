use Rattle.std.proofs.Common.{◌≡◌, ◌-◌, ◌<◌, false, sym, arith}
use Rattle.std.proofs.lemmas.Bool.{both_ways}
use Rattle.flow.specs.Lent.{layer}
use Rattle.flow.proofs.Betters.{keeps_then, shifts_keeps}
use Rattle.flow.proofs.Paths.{below_within, below_out, some_step, freed_up, freed_more, mark_flow}
use Rattle.flow.proofs.filling.Filling.+free.Goals as goal

pub returns-then-contains : goal.returns-then-contains
returns-then-contains t c =
    record {
      some = c.free.ensures.some;
      freed = freed_up (below_out c.requires.ways (omega arith)) c.free.ensures.freed;
      keeps = c.free.ensures.keeps;
    }

pub unreachable-requires : goal.unreachable-requires
unreachable-requires t c =
    some_step c.requires.ways (omega arith) c.args.t c.requires.member (sym c.if-contains.ensures) c.in_default.ensures

pub shift-requires : goal.shift-requires
shift-requires t c =
    let j = c.in-Some.j in
    let at = c.args.t in
    let u = c.in-Some.u in
    let step = c.in-Some.ensures in
    let out : layer c.args.layers.now (c.args.d - 1) at ≡ false = sym c.if-contains.ensures in
    let lt : at < 96 = c.requires.ways.low c.args.d (omega arith) at c.requires.member in
    let e = c.free-got.ensures in
    let same = e.keeps.same.may in
    record {
      task = rw same step.task_in;
      start = lt;
      end = c.requires.ways.low (c.args.d - 1) (omega arith) u step.nearer;
      apart = λ a. both_ways _ out (rw a step.nearer);
      allowed = rw same step.allowed;
      some = e.some;
      flows =
          omega
          (arith, e.freed.most, e.freed.kept j at lt out, mark_flow c.args.self.now.net.now c.args.self.now.work.now j at step.flows, c.min-ask.ensures);
      roomy = e.freed.ready;
    }

pub returns : goal.returns
returns t c =
    let at = c.args.t in
    let u = c.in-Some.u in
    let step = c.in-Some.ensures in
    let out : layer c.args.layers.now (c.args.d - 1) at ≡ false = sym c.if-contains.ensures in
    let lt : at < 96 = c.requires.ways.low c.args.d (omega arith) at c.requires.member in
    let lu : u < 96 = c.requires.ways.low (c.args.d - 1) (omega arith) u step.nearer in
    let pos : 0 < c.args.d = omega arith in
    let e = c.free-got.ensures in
    let same = e.keeps.same.may in
    record {
      some = e.some;
      freed =
          freed_more (below_out c.requires.ways pos) e.freed c.shift.ensures.shifted lt (λ a. both_ways _ out (rw a step.nearer))
          c.requires.member (below_within c.requires.ways pos u step.nearer) c.args.want (omega (arith, e.freed.most, c.min-ask.ensures));
      keeps = keeps_then e.keeps (shifts_keeps (rw same step.task_in) lt lu c.shift.ensures);
    }
