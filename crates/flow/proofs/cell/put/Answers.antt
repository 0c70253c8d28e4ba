use Rattle.std.proofs.Common.{◌≡◌, ◌+◌, ◌-◌, ◌*◌, ◌<◌, true, false, length, get_or, set, sym, refl, inr, arith, get_or-set_other, get_or-set_same}
use Rattle.sets.specs.Hours.{has, blank}
use Rattle.flow.proofs.Cells.{cell_marked, cell_bare, cell_same, write_other, marks_write, insert_at, insert_alone, alone_other, alone_from, room_at, room_other}
use Rattle.flow.proofs.cell.put.Goals as goal

pub overflow_add-work : goal.overflow_add-work
overflow_add-work c =
    omega (arith, cell_marked c.args.net.now.marks c.args.work.now c.args.j c.args.s (sym c.if-contains.ensures))

pub returns-then-contains : goal.returns-then-contains
returns-then-contains c =
    let j = c.args.j in
    let s = c.args.s in
    let marks = c.args.net.now.marks in
    let work = c.args.work.now in
    let rooms = c.args.net.now.room in
    let lr : s < length rooms = omega arith in
    let v = get_or work (j * 96 + s) 0 + c.args.d in
    let h : has (get_or marks j blank) s ≡ true = sym c.if-contains.ensures in
    let old = cell_marked marks work j s h in
    let new = cell_marked marks (set work (j * 96 + s) v) j s h in
    let same = get_or-set_same work (j * 96 + s) v 0 c.requires.cells in
    record {
      grew =
          record {
            at = omega (arith, old, new, same);
            cells = λ i t lt ne. cell_same marks marks work (set work (j * 96 + s) v) i t refl (write_other marks work j s v c.requires.hours i t lt ne);
            there = omega (arith, room_at rooms s (get_or rooms s 0 - c.args.d) lr);
            rooms = λ t ne. room_other rooms s _ t ne;
            rest = λ k ne. get_or-set_other work (j * 96 + s) k v 0 ne;
          };
      lefts = refl;
      marks = λ m w. marks_write m marks marks work j s v c.requires.hours c.requires.cells w (λ i t on. inr on) (λ on. omega arith);
    }

pub returns-else-contains : goal.returns-else-contains
returns-else-contains c =
    let j = c.args.j in
    let s = c.args.s in
    let marks = c.args.net.now.marks in
    let work = c.args.work.now in
    let rooms = c.args.net.now.room in
    let lr : s < length rooms = omega arith in
    let v = c.args.d in
    let x = c.insert.result in
    let marks' = set marks j x in
    let lj : j < length marks = omega arith in
    let alone = insert_alone marks j s x lj c.requires.hours c.insert.ensures in
    let h : has (get_or marks j blank) s ≡ false = sym c.if-contains.ensures in
    let old = cell_bare marks work j s h in
    let new = cell_marked marks' (set work (j * 96 + s) v) j s (insert_at marks j s x lj c.requires.hours c.insert.ensures) in
    let same = get_or-set_same work (j * 96 + s) v 0 c.requires.cells in
    record {
      grew =
          record {
            at = omega (arith, old, new, same);
            cells = λ i t lt ne. cell_same marks marks' work (set work (j * 96 + s) v) i t (alone_other marks j s x lj c.requires.hours alone i t ne) (write_other marks work j s v c.requires.hours i t lt ne);
            there = omega (arith, room_at rooms s (get_or rooms s 0 - c.args.d) lr);
            rooms = λ t ne. room_other rooms s _ t ne;
            rest = λ k ne. get_or-set_other work (j * 96 + s) k v 0 ne;
          };
      lefts = refl;
      marks =
          λ m w. marks_write m marks marks' work j s v c.requires.hours c.requires.cells w
          (alone_from marks j s x lj c.requires.hours alone)
          (λ on. c.requires.some);
    }
