use Rattle.std.proofs.Common.{◌≡◌, ◌+◌, ◌-◌, ◌*◌, ◌<◌, true, length, get_or, set, sym, refl, inr, arith, get_or-set_other, get_or-set_same}
use Rattle.sets.specs.Hours.{has, blank}
use Rattle.std.proofs.lemmas.Bool.{both_ways}
use Rattle.flow.proofs.Cells.{cell_marked, cell_bare, cell_some, cell_same, write_other, marks_write, remove_at, remove_alone, alone_other, alone_from, room_at, room_other}
use Rattle.flow.proofs.cell.take.Goals as goal

pub overflow_sub-work : goal.overflow_sub-work
overflow_sub-work c =
    let h = cell_some c.args.net.now.marks c.args.work.now c.args.j c.args.s (omega arith) in
    omega (arith, cell_marked c.args.net.now.marks c.args.work.now c.args.j c.args.s h)

pub returns-then-work-k-eq0 : goal.returns-then-work-k-eq0
returns-then-work-k-eq0 c =
    let j = c.args.j in
    let s = c.args.s in
    let marks = c.args.net.now.marks in
    let work = c.args.work.now in
    let rooms = c.args.net.now.room in
    let lr : s < length rooms = omega arith in
    let v = get_or work (j * 96 + s) 0 - c.args.d in
    let x = c.remove.result in
    let marks' = set marks j x in
    let lj : j < length marks = omega arith in
    let alone = remove_alone marks j s x lj c.requires.hours c.remove.ensures in
    let h : has (get_or marks j blank) s ≡ true = cell_some marks work j s (omega arith) in
    let old = cell_marked marks work j s h in
    let off = remove_at marks j s x lj c.requires.hours c.remove.ensures in
    let new = cell_bare marks' (set work (j * 96 + s) v) j s off in
    let same = get_or-set_same work (j * 96 + s) v 0 c.requires.cells in
    record {
      fell =
          record {
            at = omega (arith, old, new, same);
            cells = λ i t lt ne. sym (cell_same marks marks' work (set work (j * 96 + s) v) i t (alone_other marks j s x lj c.requires.hours alone i t ne) (write_other marks work j s v c.requires.hours i t lt ne));
            there = omega (arith, room_at rooms s (get_or rooms s 0 + c.args.d) lr);
            rooms = λ t ne. sym (room_other rooms s _ t ne);
            rest = λ k ne. sym (get_or-set_other work (j * 96 + s) k v 0 ne);
          };
      lefts = refl;
      marks =
          λ m w. marks_write m marks marks' work j s v c.requires.hours c.requires.cells w
          (alone_from marks j s x lj c.requires.hours alone)
          (λ on. absurd (both_ways _ off on));
    }

pub returns-else-work-k-eq0 : goal.returns-else-work-k-eq0
returns-else-work-k-eq0 c =
    let j = c.args.j in
    let s = c.args.s in
    let marks = c.args.net.now.marks in
    let work = c.args.work.now in
    let rooms = c.args.net.now.room in
    let lr : s < length rooms = omega arith in
    let v = get_or work (j * 96 + s) 0 - c.args.d in
    let h : has (get_or marks j blank) s ≡ true = cell_some marks work j s (omega arith) in
    let old = cell_marked marks work j s h in
    let new = cell_marked marks (set work (j * 96 + s) v) j s h in
    let same = get_or-set_same work (j * 96 + s) v 0 c.requires.cells in
    record {
      fell =
          record {
            at = omega (arith, old, new, same);
            cells = λ i t lt ne. sym (cell_same marks marks work (set work (j * 96 + s) v) i t refl (write_other marks work j s v c.requires.hours i t lt ne));
            there = omega (arith, room_at rooms s (get_or rooms s 0 + c.args.d) lr);
            rooms = λ t ne. sym (room_other rooms s _ t ne);
            rest = λ k ne. sym (get_or-set_other work (j * 96 + s) k v 0 ne);
          };
      lefts = refl;
      marks = λ m w. marks_write m marks marks work j s v c.requires.hours c.requires.cells w (λ i t on. inr on) (λ on. omega (arith, same));
    }
