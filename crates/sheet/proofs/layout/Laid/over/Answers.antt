use Rattle.std.proofs.Common.{◌*◌, get_or, sym, ap, ◌∙◌, arith}
use Rattle.even.specs.DayOf.{day}
use Rattle.sheet.specs.Sheet.{den, first_of}
use Rattle.sheet.proofs.Places.{loads_in, task_in, group_end, first_at, over_missing, over_empty, over_some}
use Rattle.sheet.proofs.layout.Laid.over.Goals as goal

pub bounds-self-self : goal.bounds-self-self
bounds-self-self c =
    let y = day c.args.self.now.hours c.args.self.now.tasks.now in
    omega
    (arith, task_in y c.args.self.now.bytes.now c.args.self.now.laid.sized c.args.j c.requires, c.args.self.now.laid.each c.args.j (omega (arith, c.requires)))

pub bounds-self-self-2 : goal.bounds-self-self-2
bounds-self-self-2 c =
    loads_in (day c.args.self.now.hours c.args.self.now.tasks.now) c.args.self.now.bytes.now c.args.self.now.laid.sized

pub returns-then-group-self : goal.returns-then-group-self
returns-then-group-self c =
    let y = day c.args.self.now.hours c.args.self.now.tasks.now in
    let e = ap (λ p. get_or c.args.self.now.bytes.now p 0) (c.args.self.now.laid.each c.args.j (omega (arith, c.requires))) in
    sym (over_missing y c.args.self.now.bytes.now c.args.j (omega (arith, e, c.if-group-self.true)))

pub first_bit-requires-clause-n_in_bounds : goal.first_bit-requires-clause-n_in_bounds
first_bit-requires-clause-n_in_bounds c =
    let y = day c.args.self.now.hours c.args.self.now.tasks.now in
    let g = get_or c.args.self.now.bytes.now (get_or c.args.self.now.starts c.args.j 0) 0 in
    omega
    (arith, group_end y c.args.self.now.bytes.now g y.tasks c.if-group-self.false, c.args.self.now.laid.sized, ap (λ w. g * w) c.row_bytes.ensures)

pub returns-in_err-s : goal.returns-in_err-s
returns-in_err-s c =
    let b = c.args.self.now.bytes.now in
    let y = day c.args.self.now.hours c.args.self.now.tasks.now in
    let e = ap (λ p. get_or b p 0) (c.args.self.now.laid.each c.args.j (omega (arith, c.requires))) in
    let f = sym c.in_err-s.ensures ∙ (first_at y b _ _ c.row_bytes.ensures ∙ ap (first_of y b) e) in
    let none = over_empty y b c.args.j (omega (arith, e, c.if-group-self.false)) (omega (arith, f)) in
    rw c.from_residual.ensures (sym none)

pub bounds-self-s : goal.bounds-self-s
bounds-self-s c =
    omega
    (arith, loads_in (day c.args.self.now.hours c.args.self.now.tasks.now) c.args.self.now.bytes.now c.args.self.now.laid.sized, c.in_ok-s.ensures.0)

pub returns : goal.returns
returns c =
    let b = c.args.self.now.bytes.now in
    let y = day c.args.self.now.hours c.args.self.now.tasks.now in
    let e = ap (λ p. get_or b p 0) (c.args.self.now.laid.each c.args.j (omega (arith, c.requires))) in
    let f = sym c.in_ok-s.ensures.1 ∙ (first_at y b _ _ c.row_bytes.ensures ∙ ap (first_of y b) e) in
    ap (den b) f ∙ sym (over_some y b c.args.j (omega (arith, e, c.if-group-self.false)) (omega (arith, f, c.in_ok-s.ensures.0)))
