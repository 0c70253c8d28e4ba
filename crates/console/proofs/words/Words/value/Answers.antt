use Rattle.std.proofs.Common.{ap, ◌∙◌, rules}
use Rattle.std.specs.List.{find}
use Rattle.console.proofs.Spoken.{value_found}
use Rattle.console.proofs.words.Words.value.Goals as goal

pub returns-in_err-setting : goal.returns-in_err-setting
returns-in_err-setting c =
    let found = value_found _ c.args.option.now c.first_named.result (c.first_named.ensures ∙ ap (find _) c.as_slice.ensures.value) in
    search rules

pub returns : goal.returns
returns c =
    let found = value_found _ c.args.option.now c.first_named.result (c.first_named.ensures ∙ ap (find _) c.as_slice.ensures.value) in
    search rules
