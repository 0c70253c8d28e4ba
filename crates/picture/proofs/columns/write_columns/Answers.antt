use Rattle.std.proofs.Common.{◌≡◌, arith}
use Rattle.lines.proofs.Concats.{concat_none, concat_more}
use Rattle.picture.proofs.Drawing.{column_is}
use Rattle.picture.proofs.columns.write_columns.Goals as goal

pub loop-s-init : goal.loop-s-init
loop-s-init c = concat_none _ _

pub loop-s-preserved : goal.loop-s-preserved
loop-s-preserved c =
    let chart = c.args.chart in
    let area = c.bar_area.ensures in
    concat_more _ _ _ _ _ _ c.loop-s.invariant c.in_ok-write_column.ensures
    (column_is chart.drawn chart.frame.column chart.most.num chart.most.den c.loop-s.s _ _ _ _ _ _ _ _ area.place.0
    area.place.1 area.place.2 c.fill_of-fill.ensures c.group.ensures c.load-load.ensures.0 c.load-load.ensures.1 area.high)

pub returns : goal.returns
returns c =
    let e : c.loop-s.s ≡ c.args.chart.frame.hours = omega arith in
    rw e at c.loop-s.invariant
