use Rattle.std.proofs.Common.{length, sym, arith}
use Rattle.sheet_writer.proofs.Puts.{row_none, row_room, row_skip, row_more}
use Rattle.sheet_writer.proofs.put.put_row.Goals as goal
use Rattle.sheet_writer.proofs.put.put_row.Goals.{then-contains, else-contains}

pub loop-s-init : goal.loop-s-init
loop-s-init c = row_none _ _ _ _

pub put_word-requires : goal.put_word-requires
put_word-requires c =
    omega (arith, c.requires, row_room (length c.args.row.now) c.loop-s.invariant c.loop-s-test.true (sym c.if-contains.ensures))

pub overflow_add-at : goal.overflow_add-at
overflow_add-at c =
    omega (arith, c.requires, row_room (length c.args.row.now) c.loop-s.invariant c.loop-s-test.true (sym c.if-contains.ensures))

pub loop-s-preserved : goal.loop-s-preserved
loop-s-preserved c =
    elim c.if-contains.branch [
      | then-contains w ↦
          rw (w.b-is, w.at-is) (row_more c.loop-s.invariant (sym w.if-contains.ensures) w.put_word.ensures.says w.put_word.ensures.kept)
      | else-contains w ↦ rw (w.b-is, w.at-is) (row_skip c.loop-s.invariant (sym w.if-contains.ensures))
    ]
