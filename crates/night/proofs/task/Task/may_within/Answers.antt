use Rattle.std.proofs.Common.{◌≡◌, true, false, sym, ◌∙◌, arith}
use Rattle.fraction.specs.Sum.{any}
use Rattle.std.proofs.lemmas.Bool.{both_ways, not-true, not-false}
use Rattle.sets.specs.Hours.{has}
use Rattle.night.proofs.Rows.{row_good, has_within, any_some_word}
use Rattle.night.proofs.task.Task.may_within.Goals as goal

pub returns-then-not-is_empty : goal.returns-then-not-is_empty
returns-then-not-is_empty c =
    let some : any 128 (has c.args.self.hours) ≡ true =
    not-false (any 128 (has c.args.self.hours)) (sym c.is_empty.ensures ∙ c.if-not-is_empty.true) in (
      λ t. row_good c.args.self.hours c.args.n (omega arith) some (c.within.ensures.0 t),
      λ g. c.within.ensures.1 (λ k m. has_within c.args.self.hours c.args.n k g.1 m),
    )

pub returns-else-not-is_empty : goal.returns-else-not-is_empty
returns-else-not-is_empty c =
    let none : any 128 (has c.args.self.hours) ≡ false =
    not-true (any 128 (has c.args.self.hours)) (sym c.is_empty.ensures ∙ c.if-not-is_empty.false) in (
      λ t. absurd (both_ways c.is_empty.result (not-true c.is_empty.result t) c.if-not-is_empty.false),
      λ g. absurd (both_ways (any 128 (has c.args.self.hours)) none (any_some_word c.args.self.hours c.args.n g.0)),
    )
