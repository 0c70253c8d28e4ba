use Rattle.std.proofs.Common.{◌≡◌, ℕ, ◌+◌, ◌*◌, ◌/◌, ◌%◌, ◌<◌, get_or, take, ap, ◌∙◌, arith, get_or-take, length-take}
use Rattle.sets.specs.Bit.{bit}
use Rattle.sets.specs.Hours.{blank, has}
use Rattle.sets.specs.declared.hours.Hours.{Hours}
use Rattle.night.specs.Format.{width}
use Rattle.night.specs.Night.{hours_of}
use Rattle.sheet_writer.specs.Written.{Kept}
use Rattle.sheet_writer.proofs.Puts.{kept_join}
use Rattle.sheet_writer.proofs.Writes.{groups_more}
use Rattle.sheet_writer.proofs.writer.Content.put_groups.Goals as goal

pub loop-g-preserved : goal.loop-g-preserved
loop-g-preserved c =
    let n = hours_of c.args.self.now.night.now in
    let p = c.args.p + c.loop-g.g * width n in
    let b = c.put_bits.new.b in
    let groups = c.args.self.now.groups.now in
    let l : c.loop-g.g < c.args.self.now.found = let t = simp length-take at c.loop-g-test.true in omega (arith, t) in
    let kept : Kept p (p + width n) c.loop-g.b b =
    rw (c.row_bytes-bytes.ensures, c.hours-hours.ensures) at c.put_bits.ensures.kept in
    let says : (s : ℕ) → s < n → bit (get_or b (p + s / 8) 0) (s % 8) ≡ has (get_or (take c.args.self.now.found groups) c.loop-g.g blank) s =
    rw (c.row_bytes-bytes.ensures, c.hours-hours.ensures) at c.put_bits.ensures.says in (
      groups_more c.loop-g.g n c.args.p groups c.loop-g.b b c.loop-g.invariant.0 kept
          (λ s m. says s m ∙ ap (λ (h : Hours). has h s) (get_or-take _ groups _ blank l)),
      kept_join c.loop-g.invariant.1 kept (omega arith) (omega arith) (omega arith),
    )
