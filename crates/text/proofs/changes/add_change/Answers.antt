use Rattle.std.proofs.Common.{rules}
use Rattle.text.proofs.Passing.{passed_change}
use Rattle.text.proofs.changes.add_change.Goals as goal

pub returns-in_ok-push : goal.returns-in_ok-push
returns-in_ok-push c =
    passed_change _ c.content_of-text.result.now _ _ _ _ _ _ c.content_of-text.ensures (search rules)
    c.in_ok-change.ensures.told c.in-Some.is c.in_ok-change.ensures.read c.in_ok-push.ensures.items
