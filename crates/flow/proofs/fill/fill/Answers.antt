use Rattle.std.proofs.Common.{◌≡◌, ℕ, ◌+◌, ◌≤◌, List, length, get_or, refl, ap, ◌∙◌, arith}
use Rattle.std.proofs.lemmas.Bool.Decides.{nat_tests}
use Rattle.fraction.specs.Sum.{sum}
use Rattle.fraction.proofs.Sums.{sum_same}
use Rattle.flow.specs.Lent.{permits, cell, left, room, within, Empty}
use Rattle.flow.specs.Outcome.{Outcome}
use Rattle.flow.proofs.Betters.{keeps_then, improves_keeps}
use Rattle.flow.proofs.Outcomes.{used_low, used_within, empty_row, empty_column, empty_sound, settled_outcome}
use Rattle.flow.proofs.fill.fill.Goals as goal
use Rattle.flow.proofs.fill.fill.Goals.{After-clear}

-- what holds of two values holds of equal ones
carry : {A B : Type 0} {a a' : A} {b b' : B} (P : A → B → Type 0) → a ≡ a' → b ≡ b' → P a' b' → P a b
carry P e d p = rw (e, d) p

empty : (c : After-clear) → length c.args.may.now ≡ length c.args.supply.now → Empty (length c.args.may.now) c.args.supply.now c.clear.new.net
empty c same = rw same c.clear.ensures.empty

rooms : (c : After-clear) (s : ℕ) → room c.clear.new.net s ≡ within c.common-hours.result c.args.capacity s
rooms c s = ap (λ x. get_or x s 0) c.clear.ensures.rooms ∙ c.ready.ensures.rooms s

pub invariant_of-filling-clause-low : goal.invariant_of-filling-clause-low
invariant_of-filling-clause-low c =
    used_low c.args.hours c.below.result c.common-hours.result c.below.ensures c.common-hours.ensures

pub invariant_of-filling-clause-shut : goal.invariant_of-filling-clause-shut
invariant_of-filling-clause-shut c =
    record {
      none = λ s l h.
          let at = (goal.at.invariant_of-filling-clause-shut c).After-clear in
          let r : within c.common-hours.result c.args.capacity s ≡ 0 = rw h refl in
          omega (arith, rooms at s, r, empty_column (empty at (omega arith)) c.args.work.now s);
    }

pub invariant_of-filling-clause-sound : goal.invariant_of-filling-clause-sound
invariant_of-filling-clause-sound c =
    empty_sound (empty (goal.at.invariant_of-filling-clause-sound c).After-clear (omega arith)) c.args.work.now (permits c.args.may.now)
    (λ s l. let e : room c.clear.new.net s ≡ room c.ready.new.net s = ap (λ x. get_or x s 0) c.clear.ensures.rooms in omega (arith, e, c.ready.ensures.fits s))

pub returns : goal.returns
returns c =
    let m = length c.args.supply.now in
    let work = c.args.work.now in
    let same : length c.args.may.now ≡ m = omega arith in
    let at = (goal.at.returns c).After-clear in
    let all = empty at same in
    let hour = used_within c.args.hours c.below.result c.common-hours.result c.below.ensures c.common-hours.ensures c.args.capacity in
    let packed = c.pack.ensures in
    let end = c.settle-end.ensures in
    let kept = keeps_then (improves_keeps packed) end.keeps in
    let sound = rw kept.same.may at c.settle-end.new.self.sound in
    let settled = rw packed.same.may at end.settled in
    let net = kept.same.net in
    let cells = kept.same.work in
    record {
      filled = (
        grind (arith, nat_tests),
        carry (λ marks (cells : List ℕ). Outcome m (permits c.args.may.now) (λ j. get_or c.args.supply.now j 0) (within c.args.hours c.args.capacity) (cell marks cells) c.settle-end.result.filled)
            (grind arith) (grind arith)
            (rw same at
            (settled_outcome c.args.may.now (λ j. get_or c.args.supply.now j 0) (within c.args.hours c.args.capacity)
            (λ j l. omega (arith, all.all j l, empty_row all work j l))
            (λ s l. omega (arith, rooms at s, hour s l, empty_column all work s))
            sound kept.steady c.settle-end.result.filled settled)),
      );
      refused = tt;
      looks =
          let begun = sum_same m (left c.clear.new.net) (λ j. get_or c.args.supply.now j 0) (λ j l. c.clear.ensures.empty.all j l) in
          let less : sum m (left c.pack.new.self.net.now) ≤ sum m (left c.clear.new.net) = rw same at packed.better.less in
          let few : c.settle-end.result.looks ≤ 1 + sum m (left c.pack.new.self.net.now) = rw (packed.same.may, same) at end.looks in
          omega arith;
      rest = λ k l. let there = kept.steady.rest k (omega arith) in grind arith;
    }
