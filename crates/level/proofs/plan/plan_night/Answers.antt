use Rattle.std.proofs.Common.{◌*◌, length, sym, ap, subst, arith}
use Rattle.night.specs.Night.{hours_of, tasks_of}
use Rattle.level.specs.Walk.{Within, Walking}
use Rattle.level.proofs.Solved.{night_within, solved}
use Rattle.level.proofs.plan.plan_night.Goals as goal

pub walk-walked-requires : goal.walk-walked-requires
walk-walked-requires c =
    let e = ap (λ ts. length ts * 96) c.tasks.ensures in
    record {
      short = subst (λ n. Within n c.tasks.result.now) (sym c.hours.ensures) (subst (λ ts. Within (hours_of c.args.night.now) ts) (sym c.tasks.ensures) (night_within c.args.night.now));
      plan = omega (arith, e, c.length_needed-need.ensures, c.if-plan-need.false);
      work = omega (arith, e, c.length_needed-need.ensures, c.if-work-need.false);
    }

pub returns : goal.returns
returns c =
    let r = c.walk-walked.result in
    solved c.args.night.now r.parts c.loads-all.result r.flows r.longest c.args.plan.now c.walk-walked.new.plan
    c.args.work.now c.walk-walked.new.work
    (omega (arith, c.length_needed-need.ensures, c.if-plan-need.false)) (omega (arith, c.length_needed-need.ensures, c.if-work-need.false))
    (subst (λ n. Walking n (tasks_of c.args.night.now) r.parts r.flows r.longest c.args.plan.now c.walk-walked.new.plan c.args.work.now c.walk-walked.new.work) c.hours.ensures
    (subst (λ ts. Walking c.hours.result ts r.parts r.flows r.longest c.args.plan.now c.walk-walked.new.plan c.args.work.now c.walk-walked.new.work) c.tasks.ensures
    c.walk-walked.ensures.walked))
    c.walk-walked.ensures.done c.walk-walked.ensures.shared c.loads-all.ensures (omega arith)
