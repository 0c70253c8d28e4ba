use Rattle.std.proofs.Common.{◌*◌, length, arith}
use Rattle.std.proofs.lemmas.Bool.{and_from, le-leb}
use Rattle.fraction.specs.Limits.{max_hours}
use Rattle.lines.proofs.Texts.{text_both}
use Rattle.lines.proofs.text.plan_text.Goals as goal

pub returns : goal.returns
returns c d =
    let told = c.in_ok-add_tasks.ensures in
    let narrow = le-leb (length c.args.loads.now) max_hours (omega arith) in
    let rows = le-leb (length c.args.parts.now * max_hours) (length c.args.amounts.now) (omega arith) in (
      and_from _ _ narrow (and_from _ _ rows told.0),
      text_both _ _ _ _ _ c.new-text.ensures.bytes (c.in_ok-add_hours.ensures d) told.1,
    )
