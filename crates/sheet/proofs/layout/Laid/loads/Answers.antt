use Rattle.std.proofs.Common.{sym, refl, ◌∙◌, inl, inr, arith}
use Rattle.even.specs.DayOf.{day}
use Rattle.sheet.proofs.Places.{loads_in}
use Rattle.sheet.proofs.ByHour.{through_none, through_within, through_load, through_more, loaded_by, loaded_not}
use Rattle.sheet.proofs.layout.Laid.loads.Goals as goal

pub loop-s-init : goal.loop-s-init
loop-s-init c = through_none c.args.self.now.laid

pub column-tally-requires : goal.column-tally-requires
column-tally-requires c =
    record { within = through_within _ _ c.loop-s.invariant c.args.self.now.laid.sized c.loop-s-test.true }

pub is_load-requires : goal.is_load-requires
is_load-requires c =
    record {
      within =
          omega
          (arith, loads_in (day c.args.self.now.hours c.args.self.now.tasks.now) c.args.self.now.bytes.now c.args.self.now.laid.sized, c.loop-s-test.true);
      small = c.column-tally.ensures.small;
    }

pub loop-s-preserved : goal.loop-s-preserved
loop-s-preserved c =
    let e = c.column-tally.ensures.sum ∙ through_load _ _ c.loop-s.invariant c.requires in
    through_more _ _ c.loop-s.invariant c.column-tally.array_long
    (loaded_by _ _ c.loop-s.s _ e (sym c.if-not-is_load.ensures)) c.column-tally.ensures.next

pub returns-then-not-is_load : goal.returns-then-not-is_load
returns-then-not-is_load c =
    let e = c.column-tally.ensures.sum ∙ through_load _ _ c.loop-s.invariant c.requires in
    inr
    (inl (
      refl,
      record {
        sized = c.args.self.now.laid.sized;
        hour = c.loop-s-test.true;
        before = c.loop-s.invariant.before;
        wrong = loaded_not _ _ c.loop-s.s _ e (sym c.if-not-is_load.ensures);
      },
    ))
