use Rattle.std.proofs.Common.{◌≡◌, ◌*◌, ◌<◌, ◌≤◌, get_or, sym, refl, ap, ◌∙◌, inl, inr, arith, below_more}
use Rattle.fraction.proofs.Sums.{size_le}
use Rattle.even.specs.DayOf.{day}
use Rattle.sheet.specs.Sheet.{over}
use Rattle.sheet.proofs.Amounts.{amounts_sum}
use Rattle.sheet.proofs.Steeps.{some_of}
use Rattle.sheet.proofs.ByTask.{over_there, over_hour, adds_by, adds_back, over_wrong}
use Rattle.sheet.proofs.layout.Laid.rows.Goals as goal
use Rattle.sheet.proofs.layout.Laid.rows.Goals.{then-over-eq0-via-then-over-eq0, then-over-eq0-via-else-over-eq0+then-total-task}

pub total-requires : goal.total-requires
total-requires c =
    let y = day c.args.self.now.hours c.args.self.now.tasks.now in
    omega (arith, c.amounts.ensures.long, size_le y.hours (y.may c.loop-j.j), c.args.self.now.sound.short)

pub returns-then-over-eq0 : goal.returns-then-over-eq0
returns-then-over-eq0 c =
    let y = day c.args.self.now.hours c.args.self.now.tasks.now in
    let b = c.args.self.now.bytes.now in
    let j = c.loop-j.j in
    let e : get_or c.args.overs.now j 0 ≡ over y b j = c.requires.overs.each j c.loop-j-test.true in
    inr
    (inr
    (inl (
      refl,
      record {
        sized = c.args.self.now.laid.sized;
        loads = c.requires.loads;
        task = c.loop-j-test.true;
        before = c.loop-j.invariant;
        wrong =
            elim c.then-over-eq0.branch [
              | then-over-eq0-via-then-over-eq0 w ↦ over_wrong _ _ j c.requires.loads (sym e ∙ w.if-over-eq0.true)
              | then-over-eq0-via-else-over-eq0+then-total-task w ↦
                  (λ a.
                  w.if-total-task.true
                  (w.total.ensures
                  ∙ (amounts_sum w.amounts.ensures
                  ∙ (adds_back y b j (some_of _ _ w.if-over-eq0.false e) (omega (arith, e, c.fits-overs j)) (y.work j) a.all
                  ∙ ap (λ v. y.work j * v) (sym e)))))
            ];
      },
    )))

pub loop-j-preserved : goal.loop-j-preserved
loop-j-preserved c =
    let y = day c.args.self.now.hours c.args.self.now.tasks.now in
    let b = c.args.self.now.bytes.now in
    let j = c.loop-j.j in
    let e : get_or c.args.overs.now j 0 ≡ over y b j = c.requires.overs.each j c.loop-j-test.true in
    let sum = c.total.ensures ∙ amounts_sum c.amounts.ensures in
    let some : 0 < over y b j = omega arith in
    let small : over y b j ≤ 255 = omega (arith, c.fits-overs j) in
    below_more _ _ c.loop-j.invariant
    (record {
      there = over_there y b j some small;
      some = over_hour y b j some small;
      all = adds_by y b j some small (y.work j) (sym sum ∙ (c.if-total-task.false ∙ ap (λ v. y.work j * v) e));
    })
