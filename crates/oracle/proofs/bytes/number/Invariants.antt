use Rattle.std.proofs.Common.{◌≡◌, ◌+◌, ◌-◌, ◌^◌, ◌<◌}
use Rattle.oracle.specs.Little.{little}
use Rattle.oracle.proofs.bytes.number.Given as goal

abbrev pub invariant-loop-i : goal.invariant-loop-i
invariant-loop-i l =
    (l.at + l.width < 2 ^ 64 → l.n ≡ little l.bytes (l.at + l.i) (l.w - l.i)) × (l.n < 256 ^ (l.w - l.i))
