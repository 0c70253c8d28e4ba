use Rattle.std.proofs.Common.{rules}
use Rattle.text.proofs.Numbers.{digit_none, digit_more, digit_all}
use Rattle.text.proofs.number.number.Goals as goal

pub returns-then-not-is_ascii_digit : goal.returns-then-not-is_ascii_digit
returns-then-not-is_ascii_digit c =
    digit_none _ c.loop-b.n c.loop-b.b-index (search rules) c.loop-b.invariant (search rules)

pub loop-b-preserved : goal.loop-b-preserved
loop-b-preserved c =
    digit_more _ c.loop-b.n _ c.loop-b.b-index (search rules) c.loop-b.invariant (search rules) (search rules)

pub returns : goal.returns
returns c = digit_all _ c.loop-b.n c.loop-b.b-index (search rules) c.loop-b.invariant
