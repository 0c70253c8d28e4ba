use Rattle.std.proofs.Common.{◌≡◌, ◌++◌, get_or, string_bytes}
use Rattle.fraction.specs.declared.exact.Fraction.{Fraction}
use Rattle.lines.specs.Text.{hours_text}
use Rattle.lines.proofs.text.add_hours.Given as goal

abbrev pub invariant-loop-hour : goal.invariant-loop-hour
invariant-loop-hour l =
    (d : Fraction) →
    string_bytes l.text
    ≡ string_bytes l.initial.text ++ hours_text l.hour (λ s. (get_or l.loads s d).num) (λ s. (get_or l.loads s d).den)
