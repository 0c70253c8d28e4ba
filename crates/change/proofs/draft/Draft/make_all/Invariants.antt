use Rattle.std.proofs.Common.{◌≡◌, vec_items}
use Rattle.change.specs.Row.{Made}
use Rattle.change.proofs.draft.Draft.make_all.Given as goal

abbrev pub invariant-loop-i : goal.invariant-loop-i
invariant-loop-i l =
    (l.self.hours ≡ l.initial.self.hours)
    × Made l.initial.self.hours (vec_items l.initial.self.tasks) l.row l.i (vec_items l.self.tasks)
