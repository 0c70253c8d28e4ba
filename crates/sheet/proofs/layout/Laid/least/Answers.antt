use Rattle.std.proofs.Common.{sym}
use Rattle.sheet.proofs.Least.{best_first, best_lower, best_stays, best_least}
use Rattle.sheet.proofs.layout.Laid.least.Goals as goal

pub loop-t-init : goal.loop-t-init
loop-t-init c = rw c.into_iter-t-iterator.ensures.into_iter_gives (best_first _ _ _ c.requires.member)

pub is_lower-requires-clause-first : goal.is_lower-requires-clause-first
is_lower-requires-clause-first c = c.requires.inside _ (c.loop-t.invariant.member _ c.in-Some.ensures.steps.0.member)

pub is_lower-requires-clause-second : goal.is_lower-requires-clause-second
is_lower-requires-clause-second c = c.requires.inside _ c.loop-t.invariant.is

pub loop-t-preserved-then-is_lower : goal.loop-t-preserved-then-is_lower
loop-t-preserved-then-is_lower c =
    best_lower _ _ _ _ _ _ _ c.loop-t.invariant c.in-Some.ensures.steps (c.requires.over _ (c.requires.inside _ c.loop-t.invariant.is)) (sym c.if-is_lower.ensures)

pub loop-t-preserved : goal.loop-t-preserved
loop-t-preserved c = best_stays _ _ _ _ _ _ _ c.loop-t.invariant c.in-Some.ensures.steps (sym c.if-is_lower.ensures)

pub returns : goal.returns
returns c =
    record {
      is = c.loop-t.invariant.is;
      least = best_least _ _ _ _ c.loop-t.invariant c.in-None.ensures.steps.0;
    }
