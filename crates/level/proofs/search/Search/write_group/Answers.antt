use Rattle.std.proofs.Common.{rules, ◌≡◌, ◌+◌, cond, sym, ap, ◌∙◌, arith}
use Rattle.std.proofs.lemmas.Bool.Decides.{nat_tests}
use Rattle.fraction.specs.Sum.{size}
use Rattle.fraction.proofs.Sums.{size_le, sum_none, sum_more}
use Rattle.flow.specs.Lent.{cell}
use Rattle.level.specs.Parts.{top_tasks}
use Rattle.level.specs.TaskSet.{holds}
use Rattle.level.proofs.Crews.{part_past, rest_all, rest_found}
use Rattle.level.proofs.Written.{written_none, written_put, written_past}
use Rattle.level.proofs.search.Search.write_group.Goals as goal

pub tasks-init : goal.tasks-init
tasks-init c =
    let p = c.args.self.now.parts in
    let crew = rest_all (c.args.self.now.crews.each p.top (omega arith) c.requires.top.waits) in (
      0,
      rw c.into_iter-i-iterator.ensures.into_iter_gives
          (rw c.enumerate-i-items.ensures.source (rw c.into_iter.ensures.into_iter_gives crew)),
      rw c.into_iter-i-iterator.ensures.into_iter_gives (omega (arith, c.enumerate-i-items.ensures.count)),
      rw c.into_iter-i-iterator.ensures.into_iter_gives
          (c.enumerate-i-items.ensures.count ∙ sym (sum_none (λ j. cond (top_tasks p j) 1 0))),
      written_none,
    )

-- so the count of the walk fits
pub tasks-init-derived : goal.tasks-init-derived
tasks-init-derived c =
    let few = size_le 256 (holds c.into_iter-i-iterator.result.iter.rest) in
    let start = c.enumerate-i-items.ensures.count in
    rw c.into_iter-i-iterator.ensures.into_iter_gives (search rules)

pub tasks-preserved : goal.tasks-preserved
unfolding cell
tasks-preserved c =
    let p = top_tasks c.args.self.now.parts in
    let v = c.tasks.invariant in
    let j = c.in-Some.j in
    let n = c.in-Some.ensures.steps in
    let f = rest_found v.1 j n.0 in
    let past = part_past v.0 j p (λ k. 1) f.reached f.between in
    let e = sum_more j (λ k. cond (p k) 1 0) in
    let y = f.member in
    let at : c.in-Some.i ≡ size j p = n.1 ∙ (v.3 ∙ sym past) in
    let i = n.1 in
    let count = n.2 in (
      j + 1,
      f.rest,
      omega (arith, v.2, f.reached),
      grind (arith, nat_tests),
      written_put (written_past v.4 j f.reached f.between) c.place.new.plan y
          (λ s g. c.place.ensures.within s g ∙ ap (λ x. cell c.args.net.now.marks c.args.work.now x s) at)
          c.place.ensures.before c.place.ensures.after,
    )
