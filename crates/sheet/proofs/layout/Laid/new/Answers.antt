use Rattle.std.proofs.Common.{◌≡◌, ℕ, ◌*◌, ◌<◌, ◌≤◌, length, get_or, sym, refl, ◌∙◌, inl, le_refl, arith}
use Rattle.std.proofs.lemmas.Nat.{mul-le}
use Rattle.even.specs.DayOf.{day}
use Rattle.sheet.specs.Sheet.{start}
use Rattle.sheet.proofs.Places.{start_none, start_from, start_mono}
use Rattle.sheet.proofs.layout.Laid.new.Goals as goal

pub returns-then-bytes-hours : goal.returns-then-bytes-hours
returns-then-bytes-hours c =
    let y = day c.args.hours c.args.tasks.now in
    let b = c.args.bytes.now in
    let l : length b < start y b y.tasks =
    omega (arith, c.if-bytes-hours.true, start_none y b, start_mono y b 0 y.tasks (omega arith)) in
    inl (refl, record { wrong = λ e. omega arith; place = omega arith })

pub starts-starts-requires : goal.starts-starts-requires
starts-starts-requires c =
    record {
      sound = c.requires;
      near =
          omega
          (arith, c.requires.short, mul-le (get_or c.args.bytes.now (c.args.hours * 9) 0) c.row_bytes.result 255 12 (omega (arith, c.type_inv.bytes (c.args.hours * 9))) (omega (arith, c.requires.short)));
    }

pub returns-then-bytes-end : goal.returns-then-bytes-end
returns-then-bytes-end c =
    let y = day c.args.hours c.args.tasks.now in
    let e = c.starts-starts.ensures.each y.tasks (le_refl _) ∙ start_from y c.args.bytes.now y.tasks _ c.row_bytes.ensures in
    inl (refl, record { wrong = λ h. c.if-bytes-end.true (h ∙ sym e); place = omega (arith, c.min.ensures, e) })

pub invariant_of-result : goal.invariant_of-result
invariant_of-result c =
    let y = day c.args.hours c.args.tasks.now in
    let e : (j : ℕ) → j ≤ y.tasks → get_or c.starts-starts.result j 0 ≡ start y c.args.bytes.now j = λ j l. c.starts-starts.ensures.each j l ∙ start_from y c.args.bytes.now j _ c.row_bytes.ensures in
    record {
      sound = c.requires;
      laid = record { sized = c.if-bytes-end.false ∙ e y.tasks (le_refl _); long = c.starts-starts.ensures.long; each = e };
      small = λ i. omega (arith, c.type_inv.bytes i);
    }
