use Rattle.std.proofs.Common.{◌≡◌, length, sym, refl, ap, ◌∙◌, arith}
use Rattle.fraction.specs.Sum.{sum}
use Rattle.sheet.specs.Layout.{lies}
use Rattle.sheet.specs.Tally.{parts}
use Rattle.sheet.proofs.Words.{seven_eight}
use Rattle.sheet.proofs.Columns.{column_none, column_skip, column_take, column_room, column_small}
use Rattle.sheet.proofs.layout.Laid.column.Goals as goal

pub loop-j-init : goal.loop-j-init
loop-j-init c = column_none c.new-tally.result c.told-at c.new-tally.ensures

pub returns : goal.returns
returns c =
    let e : c.loop-j.j ≡ length c.args.self.now.tasks.now = omega arith in
    let sum : parts c.loop-j.tally ≡ sum (length c.args.self.now.tasks.now) (lies c.args.self.now.tasks.now c.args.self.now.bytes.now c.args.overs.now c.args.at.now c.args.s) =
    c.loop-j.invariant.sum ∙ ap (λ n. sum n (lies c.args.self.now.tasks.now c.args.self.now.bytes.now c.args.overs.now c.args.at.now c.args.s)) e in
    record {
      sum = sum;
      small = omega (arith, sum, column_small c.args.self.now.tasks.now c.args.self.now.bytes.now c.args.overs.now c.args.at.now c.args.s _ c.args.self.now.sound.few c.args.self.now.small);
      next = λ j l. c.loop-j.invariant.next j (omega arith);
    }

pub loop-j-preserved-then-not-contains : goal.loop-j-preserved-then-not-contains
loop-j-preserved-then-not-contains c = column_skip c.loop-j.invariant (sym c.if-not-contains.ensures)

pub add-requires : goal.add-requires
add-requires c =
    omega
    (arith, seven_eight, column_room c.loop-j.invariant _ _ (omega (arith, c.args.self.now.sound.few)) c.args.self.now.small (sym c.if-not-contains.ensures) refl c.word_at.ensures)

pub loop-j-preserved : goal.loop-j-preserved
loop-j-preserved c =
    column_take c.loop-j.invariant c.add.new.self _ _ (omega (arith, c.args.self.now.sound.few)) (sym c.if-not-contains.ensures) refl c.word_at.ensures c.add.ensures
