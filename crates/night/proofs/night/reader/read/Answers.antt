use Rattle.std.proofs.Common.{◌≡◌}
use Rattle.night.proofs.Reading.{read_says, read_sound}
use Rattle.night.proofs.night.reader.read.Goals as goal

pub invariant_of-result : goal.invariant_of-result
invariant_of-result c =
    let s = read_sound _ _ _ _ c.in_ok-headed.headed.headed c.in_ok-tasks.ensures c.in_ok-check.ensures in
    record { some = s.some; short = s.short; few = s.few; each = s.each }

pub returns : goal.returns
returns c =
    let same : c.in_ok-headed.headed.bytes.now ≡ c.args.bytes.now = c.in_ok-headed.ensures in
    rw (← same)
    (c.in_ok-check.ensures, read_says _ _ _ _ c.in_ok-headed.headed.headed c.in_ok-tasks.ensures)
