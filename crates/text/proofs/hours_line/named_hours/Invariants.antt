use Rattle.std.proofs.Common.{◌≡◌, ℕ, ◌||◌, ◌++◌}
use Rattle.sets.specs.Hours.{has}
use Rattle.text.specs.Piece.{words}
use Rattle.text.specs.Span.{covers, wrong_spans}
use Rattle.text.specs.Told.{told}
use Rattle.text.proofs.hours_line.named_hours.Given as goal

abbrev pub invariant-loop-word : goal.invariant-loop-word
invariant-loop-word l =
    ((k : ℕ) → (has l.set k || covers l.hours (words l.word-iterator.0.now) k) ≡ covers l.hours (words l.text) k)
    × (l.report.line ≡ l.initial.report.line)
    × (told l.report.mistakes ++ wrong_spans l.hours l.initial.report.line (words l.word-iterator.0.now)
    ≡ told l.initial.report.mistakes ++ wrong_spans l.hours l.initial.report.line (words l.text))
