use Rattle.std.proofs.Common.{◌++◌, string_bytes, ap, ◌∙◌}
use Rattle.std.proofs.lemmas.List.{append_assoc}
use Rattle.picture.specs.Columns.{place_text, look_text}
use Rattle.picture.proofs.columns.write_column.Goals as goal

pub returns : goal.returns
returns c =
    let area = c.args.area in
    let place = place_text area.x area.y area.wide area.high in
    let look = look_text c.args.s c.args.fill c.args.load.num c.args.load.den in
    c.in_ok-writeln.ensures.bytes
    ∙ (ap (λ x. x ++ look) c.in_ok-write.ensures.bytes ∙ append_assoc (string_bytes c.args.out.now) place look)
