-- Laws of mistakes.
use Rattle.std.proofs.Common.{◌≡◌, ℕ, List, ◌++◌, ◌∙◌}
use Rattle.std.proofs.lemmas.List.{append_assoc}
use Rattle.text.specs.declared.report.Report.{Report}
use Rattle.text.specs.Told.{Told, told, Blamed}

-- a list of mistakes that is done in two parts
pub told_on : (before now all x rest : List Told) → before ++ (x ++ rest) ≡ all → now ≡ before ++ x → now ++ rest ≡ all
told_on before now all x rest e h = rw h (append_assoc before x rest ∙ e)

pub blamed_two :
    (x : List Told) (y : ℕ → List Told) {a b c : Report} → Blamed a b x → Blamed b c (y b.line) → Blamed a c (x ++ y a.line)
blamed_two x y {a = a} p q = record {
  line = q.line ∙ p.line;
  told = q.told ∙ rw (p.line, p.told) (append_assoc (told a.mistakes) x (y a.line));
}
