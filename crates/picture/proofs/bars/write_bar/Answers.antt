use Rattle.std.proofs.Common.{string_bytes, codes, decimal}
use Rattle.picture.specs.Bars.{pad}
use Rattle.picture.proofs.Drawing.{three_parts}
use Rattle.picture.proofs.bars.write_bar.Goals as goal

pub returns : goal.returns
returns c =
    three_parts (string_bytes c.args.out.now) _ _ _ _ (pad c.args.hour) (decimal c.args.hour) (codes " |") _ _
    c.pad_of-pad.ensures c.in_ok-write.ensures.bytes c.in_ok-write_times.ensures c.in_ok-writeln.ensures.bytes
