use Rattle.std.proofs.Common.{◌≡◌, ◌+◌, ◌-◌, ◌*◌, ◌<◌, ◌≤◌}
use Rattle.fraction.specs.Sum.{size}
use Rattle.level.specs.Parts.{top_hours}
use Rattle.level.specs.Walk.{Walking}
use Rattle.level.proofs.walk.walk.Given as goal

abbrev pub invariant-groups : goal.invariant-groups
invariant-groups l =
    Walking l.hours l.tasks l.search.parts l.flows l.longest l.initial.plan l.plan l.initial.work l.work
    × (l.search.tasks.now ≡ l.tasks) × (l.flows ≤ l.search.parts.found * l.longest)

abbrev pub decreases-groups : goal.decreases-groups
decreases-groups l = 96 - l.search.parts.found

abbrev pub invariant-flows : goal.invariant-flows
invariant-flows l =
    Walking l.hours l.tasks l.search.parts l.flows l.longest l.initial.plan l.plan l.initial.work l.work
    × (l.longest ≡ l.initial.longest) × (l.search.parts.found ≡ l.initial.search.parts.found) × (l.search.parts.top < 96)
    × (l.i + size 96 (top_hours l.search.parts) ≤ l.hours) × (l.search.tasks.now ≡ l.tasks)
    × (l.flows ≤ l.search.parts.found * l.longest + l.i)
