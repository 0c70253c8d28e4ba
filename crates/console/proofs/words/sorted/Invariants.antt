use Rattle.std.proofs.Common.{◌≡◌, ◌+◌, ◌*◌, length, vec_len}
use Rattle.console.proofs.words.sorted.Given as goal

abbrev pub invariant-loop-word : goal.invariant-loop-word
invariant-loop-word l =
    vec_len l.out.plain + vec_len l.out.switches + 2 * vec_len l.out.settings + length l.rest.rest.items ≡ vec_len l.fn.words

abbrev pub decreases-loop-word : goal.decreases-loop-word
decreases-loop-word l = length l.rest.rest.items
