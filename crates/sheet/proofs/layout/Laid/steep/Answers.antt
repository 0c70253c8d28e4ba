use Rattle.std.proofs.Common.{get_or, sym, ◌∙◌, inl, inr, arith}
use Rattle.sets.specs.Hours.{has}
use Rattle.sets.proofs.Members.{none_any}
use Rattle.night.specs.Task.{blank_task}
use Rattle.sheet.proofs.Places.{hour_in}
use Rattle.sheet.proofs.Slopes.{flat_idle, flat_low, flat_empty}
use Rattle.sheet.proofs.Steeps.{looks_first, looks_comes, looks_end, looks_out, some_of}
use Rattle.sheet.proofs.layout.Laid.steep.Goals as goal
use Rattle.sheet.proofs.layout.Laid.steep.Goals.{else-from_le_bytes-ne0-via-then-from_le_bytes-ne0+else-is_lower, else-from_le_bytes-ne0-via-else-from_le_bytes-ne0}

pub returns-in_err-first : goal.returns-in_err-first
returns-in_err-first c = let none = flat_empty _ _ _ _ (none_any _ c.in_err-first.ensures) in rw c.from_residual.ensures none

pub least-low-requires-clause-inside : goal.least-low-requires-clause-inside
least-low-requires-clause-inside c = hour_in c.args.self.now.sound c.args.j c.requires.task

pub loop-s-init : goal.loop-s-init
loop-s-init c =
    let all = looks_first _ _ _ (has (get_or c.args.self.now.tasks.now c.args.j blank_task).hours) _ c.amounts.ensures.long c.amounts.ensures.each in
    rw c.into_iter-s-iterator.ensures.into_iter_gives
    (rw c.zip-s-items.ensures.first (rw c.into_iter.ensures.into_iter_gives (rw c.zip-s-items.ensures.second.0 all)))

pub is_lower-requires : goal.is_lower-requires
is_lower-requires c =
    let steps = c.in-Some.ensures.steps in
    let comes = looks_comes _ _ _ _ _ _ _ _ _ _ (rw steps.1 at c.loop-s.invariant) steps.0 in
    let low = hour_in c.args.self.now.sound c.args.j c.requires.task _ c.least-low.ensures.is in
    let first = hour_in c.args.self.now.sound c.args.j c.requires.task _ c.in_ok-first.ensures.member in
    let here = hour_in c.args.self.now.sound c.args.j c.requires.task _ comes.member in
    record { first = omega (arith, low, first, here); second = omega (arith, low, first, here) }

pub first_lower-requires : goal.first_lower-requires
first_lower-requires c =
    let steps = c.in-Some.ensures.steps in
    let comes = looks_comes _ _ _ _ _ _ _ _ _ _ (rw steps.1 at c.loop-s.invariant) steps.0 in
    record { within = hour_in c.args.self.now.sound c.args.j c.requires.task _ comes.member; end = hour_in c.args.self.now.sound c.args.j c.requires.task _ c.least-low.ensures.is; member = c.least-low.ensures.is; lower = sym c.if-is_lower.ensures }

pub returns-then-is_lower : goal.returns-then-is_lower
returns-then-is_lower c =
    let steps = c.in-Some.ensures.steps in
    let comes = looks_comes _ _ _ _ _ _ _ _ _ _ (rw steps.1 at c.loop-s.invariant) steps.0 in
    record {
      hour = hour_in c.args.self.now.sound c.args.j c.requires.task _ comes.member;
      other = hour_in c.args.self.now.sound c.args.j c.requires.task _ c.first_lower.ensures.is;
      flat = comes.flat;
      done = some_of _ _ c.if-from_le_bytes-ne0.true (c.from_le_bytes.ensures ∙ comes.amount);
      member = c.first_lower.ensures.is;
      less = c.first_lower.ensures.lower;
      before = c.first_lower.ensures.before;
    }

pub loop-s-preserved : goal.loop-s-preserved
loop-s-preserved c =
    let steps = c.in-Some.ensures.steps in
    let comes = looks_comes _ _ _ _ _ _ _ _ _ _ (rw steps.1 at c.loop-s.invariant) steps.0 in
    comes.looks
    (elim c.else-from_le_bytes-ne0.branch [
      | else-from_le_bytes-ne0-via-then-from_le_bytes-ne0+else-is_lower w ↦
          flat_low _ _ _ _ _ _ comes.flat (c.requires.over _ (hour_in c.args.self.now.sound c.args.j c.requires.task _ c.least-low.ensures.is)) (λ t l h. c.least-low.ensures.least t h) (sym w.if-is_lower.ensures)
      | else-from_le_bytes-ne0-via-else-from_le_bytes-ne0 w ↦
          flat_idle _ _ _ _ _ comes.flat (sym comes.amount ∙ (sym c.from_le_bytes.ensures ∙ w.if-from_le_bytes-ne0.false))
    ])

pub returns : goal.returns
returns c =
    elim c.in-None.ensures.steps [
      | inl s ↦ looks_end _ _ _ _ _ _ c.loop-s.invariant s.1.0
      | inr s ↦ looks_out _ _ _ _ _ _ c.loop-s.invariant s.1.0
    ]
