use Rattle.std.proofs.Common.{◌≡◌, ◌+◌, ◌*◌, refl, ap, ◌∙◌, subst, mul-le-mul_left, arith}
use Rattle.level.specs.Parts.{Held}
use Rattle.level.proofs.States.{held_top, state_few}
use Rattle.level.proofs.walk.walk.Goals as goal

pub flows-init : goal.flows-init
flows-init c =
    let w = c.groups.invariant.0 in
    let l = c.groups-test.true in
    let k =
    state_few c.args.tasks.now c.groups.search.parts c.groups.plan c.args.hours w.held l c.requires.short.low
    c.requires.short.few in (
      record { held = w.held; count = w.count; most = w.most; plans = λ i g. refl; works = λ i g. refl },
      refl,
      refl,
      l,
      omega arith,
      c.groups.invariant.1,
      omega (arith, c.groups.invariant.2),
    )

pub unreachable-requires : goal.unreachable-requires
unreachable-requires c =
    let w = c.flows.invariant in
    let s = (held_top c.args.tasks.now c.flows.search.parts c.flows.plan w.0.held w.3).some in
    let k = w.4 in
    let t = c.flows-test.false in
    omega arith

pub groups-preserved-then-longest-i : goal.groups-preserved-then-longest-i
groups-preserved-then-longest-i c =
    let w = c.flows.invariant in
    let same = w.5 in
    let e = c.if-step.ensures in
    let p = c.step.new.self.parts in
    let found = c.flows.search.parts.found in
    let i = c.flows.i in
    let more = mul-le-mul_left {m = c.flows.longest} {n = i} found c.if-longest-i.true in
    let next : p.found ≡ found + 1 = e.stepped.0 in
    let product = ap (λ v. v * (i + 1)) next in (
      record {
        held = subst (λ ts. Held ts p c.step.new.plan) same e.held;
        count = omega (arith, w.0.count, e.stepped.0, e.stepped.1);
        most = omega (arith, c.flows-test.true);
        plans = λ k l. e.plan k (rw same l) ∙ (w.0.plans k l ∙ c.groups.invariant.0.plans k l);
        works = λ k l. e.work k (rw same l) ∙ (w.0.works k l ∙ c.groups.invariant.0.works k l);
      },
      e.tasks ∙ same,
      omega (arith, more, product, w.6),
    )
