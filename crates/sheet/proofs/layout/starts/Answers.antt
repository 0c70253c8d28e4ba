use Rattle.std.proofs.Common.{◌≡◌, ◌+◌, ◌*◌, refl, ◌∙◌, inl, inr, arith, length-set, get_or-set_other, get_or-set_same}
use lib.ListN.{get_or-replicate}
use Rattle.std.proofs.lemmas.Bool.{cases_eq}
use Rattle.fraction.specs.Sum.{sum}
use Rattle.fraction.proofs.Sums.{sum_none, sum_more}
use Rattle.even.specs.DayOf.{day}
use Rattle.sheet.specs.Sheet.{row}
use Rattle.sheet.proofs.Places.{row_count, row_le, rows_le}
use Rattle.sheet.proofs.layout.starts.Goals as goal

pub loop-j-init : goal.loop-j-init
loop-j-init c =
    let y = day c.args.hours c.args.tasks.now in
    (refl, omega (arith, sum_none (row y)), λ k l. (let e : k ≡ 0 = omega arith in get_or-replicate 201 k c.args.from 0 (omega arith) ∙ (rw e (omega (arith, sum_none (row y))))))

-- the bytes of the task at hand
counted : (c : goal.After-count) → c.count.result * 8 + 1 ≡ row (day c.args.hours c.args.tasks.now) c.loop-j.j
counted c =
    omega
    (arith, c.count.ensures, row_count c.args.hours c.args.tasks.now c.loop-j.j c.requires.sound c.loop-j-test.true)

pub overflow_mul-at : goal.overflow_mul-at
overflow_mul-at c = omega (arith, counted c, row_le (day c.args.hours c.args.tasks.now) c.loop-j.j c.requires.sound.short)

pub overflow_add-at : goal.overflow_add-at
overflow_add-at c = omega (arith, counted c, row_le (day c.args.hours c.args.tasks.now) c.loop-j.j c.requires.sound.short)

pub overflow_add-at-in-loop-j : goal.overflow_add-at-in-loop-j
overflow_add-at-in-loop-j c =
    omega
    (arith, counted c, row_le (day c.args.hours c.args.tasks.now) c.loop-j.j c.requires.sound.short, rows_le (day c.args.hours c.args.tasks.now) c.loop-j.j c.requires.sound.short)

pub loop-j-preserved : goal.loop-j-preserved
loop-j-preserved c =
    let y = day c.args.hours c.args.tasks.now in
    let at : c.loop-j.at + (1 + c.count.result * 8) ≡ c.args.from + sum (c.loop-j.j + 1) (row y) =
    omega (arith, counted c, sum_more c.loop-j.j (row y)) in (
      simp length-set (omega arith),
      at,
      λ k l.
          elim (cases_eq k (c.loop-j.j + 1)) [
            | inl e ↦ rw e (get_or-set_same c.loop-j.out (c.loop-j.j + 1) _ 0 (omega (arith, c.requires.sound.few)) ∙ at)
            | inr ne ↦ get_or-set_other _ _ k _ 0 ne ∙ c.loop-j.invariant.2 k (omega arith)
          ],
    )
