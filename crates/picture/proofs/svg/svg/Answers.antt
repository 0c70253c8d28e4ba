use Rattle.std.proofs.Common.{◌≡◌, ◌*◌, ◌++◌, string_bytes, ap, ◌∙◌, mul-le-mul_left, arith}
use Rattle.night.specs.Night.{hours_of}
use Rattle.lines.specs.Lines.{concat}
use Rattle.picture.specs.declared.drawn.Drawn.{Drawn}
use Rattle.picture.specs.Columns.{column_at, columns_text}
use Rattle.picture.specs.Svg.{svg_text}
use Rattle.picture.proofs.svg.svg.Goals as goal

pub returns : goal.returns
returns c =
    let frame = c.new-chart.result.frame in
    let most = c.new-chart.result.most in
    let facts = c.new-chart.ensures in
    let hours = hours_of c.args.drawn.night.now in
    let column = column_at c.new-chart.result.drawn frame.column most.num most.den in
    let bars : string_bytes c.write_columns.new.out ≡ columns_text c.args.drawn frame.column most.num most.den =
    c.in_ok-write_columns.ensures
    ∙ (ap (λ x. x ++ concat frame.hours column) c.new-bars.ensures.bytes ∙ (ap (λ h. concat h column) facts.hours
    ∙ ap (λ (d : Drawn). concat hours (column_at d frame.column most.num most.den)) facts.same)) in
    record {
      width = c.width-width.result;
      height = c.in_ok-height.height;
      column = frame.column;
      num = most.num;
      den = most.den;
      behind = string_bytes c.write_behind.new.out;
      after = string_bytes c.write_after.new.out;
      whole =
          c.in_ok-text.ensures.ok
          ∙ ap (λ b. svg_text c.width-width.result c.in_ok-height.height b)
          (c.in_ok-body.ensures.ok
          ∙ ap (λ b. string_bytes c.write_behind.new.out ++ (b ++ string_bytes c.write_after.new.out)) bars);
      largest = facts.largest;
      broad = frame.wide;
      wide = let same = ap (λ h. h * frame.column) facts.hours in omega (arith, same, c.width-width.ensures);
      high = omega (arith, facts.tasks, mul-le-mul_left frame.tasks frame.high, c.in_ok-height.ensures);
    }
