use Rattle.std.proofs.lemmas.Result.{err_from_is_err_and}
use Rattle.std.proofs.lemmas.Str.{IsUtf8-past_char}
use Rattle.std.proofs.Common.{string_bytes}
use Rattle.std.specs.Str.Iter.{chars_rest}
use Rattle.picture.specs.Escape.{escaped}
use Rattle.picture.proofs.Escaping.{escaped_more, escaped_all, escaped_clean}
use Rattle.picture.proofs.escape.escape.Goals as goal

pub loop-c-preserved : goal.loop-c-preserved
loop-c-preserved c =
    let inv = c.loop-c.invariant in
    let step = c.in-Some.ensures.steps.0 in (
      IsUtf8-past_char (chars_rest c.loop-c.c-iterator) (chars_rest c.next.new.self) c.in-Some.c inv.0 step,
      escaped_more (string_bytes c.loop-c.out) (string_bytes c.write_char.new.out)
          (chars_rest c.loop-c.c-iterator) (chars_rest c.next.new.self) (escaped c.args.text.now) c.in-Some.c
          inv.0 step inv.1 c.in_ok-write_char.ensures,
    )

pub returns-in_err-write_char : goal.returns-in_err-write_char
returns-in_err-write_char c =
    let p = err_from_is_err_and c.from_residual.result c.from_residual.ensures.1 in rw p.1 tt

pub returns : goal.returns
returns c =
    let e = escaped_all (string_bytes c.loop-c.out) (chars_rest c.loop-c.c-iterator) (escaped c.args.text.now)
    c.in-None.ensures.steps.0.0 c.loop-c.invariant.1 in
    record { value = e; clean = escaped_clean _ _ e }
