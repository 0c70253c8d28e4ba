use Rattle.std.proofs.Common.{refl, arith}
use Rattle.level.proofs.Crewed.{crews_split}
use Rattle.level.proofs.States.{held_top, split_below, split_fewer, step_split, step_take}
use Rattle.level.proofs.search.Search.step.Goals as goal

pub level-level-requires : goal.level-level-requires
level-level-requires c = record { top = held_top _ _ _ c.requires.held c.requires.waits }

pub ship-requires-clause-top : goal.ship-requires-clause-top
ship-requires-clause-top c = held_top _ _ _ c.requires.held c.requires.waits

pub write_group-requires-clause-top : goal.write_group-requires-clause-top
write_group-requires-clause-top c = held_top _ _ _ c.requires.held c.requires.waits

pub take-requires-clause-top : goal.take-requires-clause-top
take-requires-clause-top c = held_top _ _ _ c.requires.held c.requires.waits

pub split-requires : goal.split-requires
split-requires c =
    record {
      ready = c.args.self.now.ready;
      crews = c.args.self.now.crews;
      top = held_top _ _ _ c.requires.held c.requires.waits;
      below = let a = split_below c.requires.held c.requires.waits c.in-Cut.ensures.shipped in omega arith;
    }

pub invariant_of-self-in-Cut : goal.invariant_of-self-in-Cut
invariant_of-self-in-Cut c =
    record {
      ready = c.args.self.now.ready;
      crews =
          let below = split_below c.requires.held c.requires.waits c.in-Cut.ensures.shipped in
          let t = c.split.ensures.split.top in
          crews_split c.args.self.now.crews c.requires.waits
          (λ j l e. let a = c.requires.held.stack.tasks j l (omega arith) in omega arith) c.split.ensures.split;
    }

pub returns-in-Whole : goal.returns-in-Whole
returns-in-Whole c =
    record {
      tasks = refl;
      held =
          step_take c.args.self.now.tasks.now c.args.self.now.parts c.take.new.parts c.args.plan.now c.write_group.new.plan
          c.level-level.result _ c.requires.held c.requires.waits c.in-Whole.ensures.shipped
          c.level-level.ensures.small c.take.ensures.taken c.write_group.ensures;
      stepped = (c.take.ensures.taken.found, c.take.ensures.taken.top);
      plan = λ k l. c.write_group.ensures.rest k l;
      work = λ k l. c.in-Whole.ensures.behind k l;
    }

pub returns-in-Cut : goal.returns-in-Cut
returns-in-Cut c =
    record {
      tasks = refl;
      held =
          step_split c.args.self.now.tasks.now c.args.self.now.parts c.split.new.parts c.args.plan.now _ _ _ _ c.requires.held
          c.requires.waits c.in-Cut.ensures.shipped c.split.ensures.split;
      stepped = (
        c.split.ensures.split.found,
        c.split.ensures.split.top,
        split_fewer c.requires.held c.requires.waits c.in-Cut.ensures.shipped _ c.split.ensures.split.dense,
      );
      plan = λ k l. refl;
      work = λ k l. c.in-Cut.ensures.behind k l;
    }
