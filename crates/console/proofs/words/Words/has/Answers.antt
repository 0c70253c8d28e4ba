use Rattle.std.proofs.Common.{ap, ◌∙◌}
use Rattle.std.specs.List.{list_any}
use Rattle.console.proofs.Spoken.{spoken}
use Rattle.console.proofs.words.Words.has.Goals as goal

pub returns : goal.returns
returns c = spoken _ _ _ (c.is_among.ensures ∙ ap (list_any _) c.as_slice.ensures.value)
