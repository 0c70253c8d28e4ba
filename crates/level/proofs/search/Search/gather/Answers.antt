use Rattle.std.proofs.Common.{◌≡◌, ◌+◌, cond, length, sym, ◌∙◌, arith}
use Rattle.std.proofs.lemmas.Bool.Decides.{nat_tests}
use Rattle.fraction.specs.Sum.{size}
use Rattle.fraction.proofs.Sums.{sum_none, sum_more}
use Rattle.level.specs.Parts.{top_tasks}
use Rattle.level.proofs.Crews.{manned_put, manned_past, part_past, rest_all, rest_found, rest_none}
use Rattle.level.proofs.search.Search.gather.Goals as goal

pub tasks-init : goal.tasks-init
tasks-init c =
    let p = c.args.self.now.parts in (
      0,
      rw c.into_iter-j-iterator.ensures.into_iter_gives (rest_all (c.args.self.now.crews.each p.top (omega arith) c.requires.top.waits)),
      omega arith,
      sym (sum_none (λ j. cond (top_tasks p j) 1 0)),
      record { allowed = λ j l. absurd (omega arith); supplied = λ j l. absurd (omega arith) },
    )

pub tasks-preserved : goal.tasks-preserved
tasks-preserved c =
    let p = top_tasks c.args.self.now.parts in
    let i = c.tasks.invariant in
    let j = c.in-Some.j in
    let f = rest_found i.1 j c.in-Some.ensures.steps in
    let past = part_past i.0 j p (λ k. 1) f.reached f.between in
    let e = sum_more j (λ k. cond (p k) 1 0) in
    let y = f.member in
    let few = c.args.self.now.ready.few in
    let l = f.below in
    let r = f.reached in
    let at : c.tasks.k ≡ size j p = i.3 ∙ sym past in (
      j + 1,
      f.rest,
      omega (arith, i.2),
      grind (arith, nat_tests),
      manned_put (manned_past i.4 j f.between) c.tasks.k at (omega (arith, i.2)) (omega (arith, i.2)) y,
    )

pub returns : goal.returns
returns c =
    let p = top_tasks c.args.self.now.parts in
    let n = length c.args.self.now.tasks.now in
    let i = c.tasks.invariant in
    let none = rest_none i.1 _ c.in-None.ensures.steps in
    record {
      all = i.3 ∙ sym (part_past i.0 n p (λ j. 1) i.1.reached none);
      manned = manned_past i.4 n none;
    }
