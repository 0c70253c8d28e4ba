use Rattle.std.proofs.Common.{◌≡◌, ◌/◌, ◌^◌, ◌++◌, vec_items}
use Rattle.night.specs.Bytes.{digits}
use Rattle.night.proofs.bytes.push_little.Given as goal

abbrev pub invariant-loop : goal.invariant-loop
invariant-loop l =
    (vec_items l.out ≡ vec_items l.initial.out ++ digits l.counter l.n) × (l.rest ≡ l.n / 256 ^ l.counter)
