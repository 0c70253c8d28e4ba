use Rattle.std.proofs.Common.{◌≡◌, length, ap, arith}
use Rattle.std.proofs.lemmas.List.{get_or_read}
use Rattle.fraction.specs.declared.exact.Fraction.{Fraction}
use Rattle.lines.specs.Lines.{hour_line, ended}
use Rattle.lines.proofs.Concats.{concat_none, concat_more}
use Rattle.lines.proofs.text.add_hours.Goals as goal

pub loop-hour-init : goal.loop-hour-init
loop-hour-init c d = concat_none _ _

pub loop-hour-preserved : goal.loop-hour-preserved
loop-hour-preserved c d =
    concat_more _ _ _ _ _ _ (c.loop-hour.invariant d) c.in_ok-writeln.ensures.bytes
    (ap (λ (x : Fraction). ended (hour_line c.loop-hour.hour x.num x.den))
    (get_or_read _ _ _ c.loop-hour-test.true c.index-loads-hour.is d))

pub returns : goal.returns
returns c d =
    let e : c.loop-hour.hour ≡ length c.args.loads.now = omega arith in rw e at (c.loop-hour.invariant d)
