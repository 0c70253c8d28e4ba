use Rattle.std.proofs.lemmas.Option.{MatchOption-at_some}
use Rattle.text.proofs.Clean.{read_night, says_night, surely_made}
use Rattle.text.proofs.reader.read_text.Goals as goal

pub unwrap-night-requires : goal.unwrap-night-requires
unwrap-night-requires c =
    surely_made _ _ c.new.ensures (read_night _ _ _ c.in_ok-hours.ensures c.in_ok-accept.ensures c.unwrap.ensures)

pub returns : goal.returns
returns c =
    let night = MatchOption-at_some _ _ _ c.unwrap-night.ensures c.new.ensures in
    says_night _ _ _ _ c.in_ok-reject.ensures c.in_ok-hours.ensures c.in_ok-accept.ensures c.unwrap.ensures night.0 night.1
