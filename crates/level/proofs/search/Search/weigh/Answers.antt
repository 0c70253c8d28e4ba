use Rattle.std.proofs.Common.{◌+◌, cond, length, sym, ◌∙◌, arith}
use Rattle.std.proofs.lemmas.Bool.Decides.{nat_tests}
use Rattle.fraction.proofs.Sums.{sum_none, sum_more}
use Rattle.night.specs.Task.{units}
use Rattle.level.specs.Parts.{top_tasks}
use Rattle.level.proofs.Crews.{part_past, rest_all, rest_found, rest_none}
use Rattle.level.proofs.search.Search.weigh.Goals as goal

pub tasks-init : goal.tasks-init
tasks-init c =
    let p = c.args.self.now.parts in (
      0,
      rw c.into_iter-j-iterator.ensures.into_iter_gives (rest_all (c.args.self.now.crews.each p.top (omega arith) c.requires.top.waits)),
      sym (sum_none (λ j. cond (top_tasks p j) (units c.args.self.now.tasks.now j) 0)),
      omega arith,
    )

pub tasks-preserved : goal.tasks-preserved
tasks-preserved c =
    let p = top_tasks c.args.self.now.parts in
    let ts = c.args.self.now.tasks.now in
    let i = c.tasks.invariant in
    let j = c.in-Some.j in
    let f = rest_found i.1 j c.in-Some.ensures.steps in
    let y = f.member in
    let past = part_past i.0 j p (units ts) f.reached f.between in
    let e = sum_more j (λ k. cond (p k) (units ts k) 0) in
    let all = i.2 in
    let small = i.3 in
    let reached = f.reached in
    let light = c.args.self.now.ready.light j f.below in
    (j + 1, f.rest, grind (arith, nat_tests), omega arith)

pub returns : goal.returns
returns c =
    let ts = c.args.self.now.tasks.now in
    let i = c.tasks.invariant in
    let l = i.1.reached in
    let small = i.3 in
    let few = c.args.self.now.ready.few in
    let past =
    part_past i.0 (length ts) (top_tasks c.args.self.now.parts) (units ts) l (rest_none i.1 _ c.in-None.ensures.steps) in
    record { value = i.2 ∙ sym past; small = omega arith }
