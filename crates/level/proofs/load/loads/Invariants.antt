use Rattle.std.proofs.Common.{◌≡◌, ℕ, ◌<◌, ◌≤◌, not, ◌&&◌, ltb, length, get_or, take, drop}
use Rattle.sets.specs.Hours.{has}
use Rattle.level.specs.Load.{Same, group_at, level_at}
use Rattle.level.specs.Parts.{nought}
use Rattle.level.proofs.load.loads.Given as goal

abbrev pub invariant-groups : goal.invariant-groups
invariant-groups l =
    let g = length l.yielded in
    ((s : ℕ) → s < 96 → Same (get_or l.all s nought) (level_at g l.parts.hours l.parts.levels s))
    × ((s : ℕ) → has l.idle s ≡ (ltb s 96 && not (ltb (group_at g l.parts.hours s) g)))
    × (l.hours-iterator.a.rest.now ≡ drop g (take l.parts.found l.parts.hours))
    × (l.hours-iterator.b.rest.now ≡ drop g l.parts.levels) × (g ≤ l.parts.found)
