use Rattle.std.proofs.Common.{◌≡◌, ◌∷◌, rules}
use Rattle.std.specs.Char.{is_ascii_whitespace}
use Rattle.text.specs.Piece.{words}
use Rattle.text.proofs.Pieces.{place_within, words_none, words_some}
use Rattle.text.proofs.piece.WordsIterator.next.Goals as goal

pub returns-then-is_empty-clause-steps : goal.returns-then-is_empty-clause-steps
returns-then-is_empty-clause-steps c =
    let none = words_none _ _ c.trim_ascii_start-text.ensures.value (search rules) in (none, none)

pub split_at-requires : goal.split_at-requires
split_at-requires c =
    place_within is_ascii_whitespace c.trim_ascii_start-text.result.now c.unwrap_or-end.result (search rules)

pub returns-clause-steps : goal.returns-clause-steps
returns-clause-steps c =
    words_some _ c.trim_ascii_start-text.result.now _ _ c.unwrap_or-end.result
    c.trim_ascii_start-text.ensures.value (search rules) (search rules) c.split_at.ensures.front c.split_at.ensures.back

pub returns-clause-goes : goal.returns-clause-goes
returns-clause-goes c =
    let step : words c.args.self.now.0.now ≡ c.split_at.result.0.now ∷ words c.split_at.result.1.now =
    words_some _ c.trim_ascii_start-text.result.now _ _ c.unwrap_or-end.result
    c.trim_ascii_start-text.ensures.value (search rules) (search rules) c.split_at.ensures.front c.split_at.ensures.back in
    search rules
