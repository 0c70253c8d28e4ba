use Rattle.std.proofs.Common.{rules, MatchResult}
use Rattle.even.specs.DayOf.{day_of}
use Rattle.sheet.specs.Verdict.{Accepted, Refused, code}
use Rattle.sheet.proofs.Verdicts.{verdict_all, verdict_best}
use Rattle.sheet.proofs.checker.check.Goals as goal

pub returns : goal.returns
returns c =
    let v : MatchResult c.check_tasks.result (λ x. Accepted (day_of c.args.night.now) c.args.sheet.now) (λ e. Refused (day_of c.args.night.now) c.args.sheet.now (code e)) = search rules in
    record {
      outcome = v;
      all = verdict_all _ _ _ v;
      best = verdict_best _ _ _ v;
    }
