use Rattle.std.proofs.Common.{length, get_or, take, replicate, subst, arith}
use Rattle.fraction.proofs.Sums.{size_le}
use Rattle.sets.specs.Hours.{blank}
use Rattle.flow.specs.Lent.{permits, within, flow}
use Rattle.flow.specs.Outcome.{Outcome}
use Rattle.level.specs.Crew.{Manned}
use Rattle.level.specs.Parts.{top_tasks}
use Rattle.level.proofs.Ships.{shipped}
use Rattle.level.proofs.search.Search.ship.Goals as goal

pub pour-requires-clause-few : goal.pour-requires-clause-few
pour-requires-clause-few c =
    let b = size_le (length c.args.self.now.tasks.now) (top_tasks c.args.self.now.parts) in
    omega (arith, c.gather-k.ensures.all, b, c.args.self.now.ready.few)

pub pour-requires-clause-room : goal.pour-requires-clause-room
pour-requires-clause-room c =
    let b = size_le (length c.args.self.now.tasks.now) (top_tasks c.args.self.now.parts) in
    omega (arith, c.gather-k.ensures.all, b, c.requires.room)

pub returns : goal.returns
returns c =
    let ts = c.args.self.now.tasks.now in
    let p = c.args.self.now.parts in
    let crew = c.gather-k.new.crew in
    record {
      shipped =
          shipped ts (top_tasks p) (get_or p.hours p.top blank) c.args.level c.gather-k.result crew.may crew.supply
          c.pour.new.net c.pour.new.work c.pour.result c.requires.level
          (subst (λ q. Manned ts (top_tasks p) q (length ts) crew.may crew.supply) c.den.ensures c.gather-k.ensures.manned)
          c.gather-k.ensures.all
          (subst
          (λ v.
          Outcome c.gather-k.result (permits (take c.gather-k.result crew.may))
          (λ i. get_or (take c.gather-k.result crew.supply) i 0) (within (get_or p.hours p.top blank) (replicate 96 v))
          (flow c.pour.new.net c.pour.new.work) c.pour.result)
          c.num.ensures c.pour.ensures.poured);
      behind = λ k l.
          let a = c.gather-k.ensures.all in
          let b = size_le (length ts) (top_tasks p) in
          c.pour.ensures.behind k (omega arith);
    }
