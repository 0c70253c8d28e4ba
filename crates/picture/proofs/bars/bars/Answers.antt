use Rattle.std.proofs.Common.{◌++◌, ap, ◌∙◌}
use Rattle.picture.specs.Bars.{hour_bars}
use Rattle.picture.proofs.bars.bars.Goals as goal

pub returns : goal.returns
returns c =
    record {
      num = c.largest.result.num;
      den = c.largest.result.den;
      largest = c.largest.ensures;
      whole =
          c.in_ok-write_bars.ensures
          ∙ ap (λ x. x ++ hour_bars c.args.drawn c.largest.result.num c.largest.result.den) c.in_ok-out.ensures.ok;
    }
