use Rattle.std.proofs.Common.{◌≡◌, drop}
use Rattle.text.specs.Number.{digits_on, numeral}
use Rattle.text.proofs.number.number.Given as goal

abbrev pub invariant-loop-b : goal.invariant-loop-b
invariant-loop-b l = digits_on l.n (drop l.b-index l.word) ≡ numeral l.word
