-- In which form a night is written. Assumes nothing: these are definitions.
use Rattle.std.specs.Prelude.{List, String, codes}
use Rattle.std.specs.declared.alloc.Global.{Global}
use Rattle.console.specs.declared.nights.Form.{Form}
use Rattle.console.specs.declared.nights.Form.TheVariants.{Bytes, Text}
use Rattle.console.specs.Spoken.{Spoken}

-- the switches of a command line ask for a form: for a text by one word, else for bytes
abbrev pub AsksFor : List (String Global) → Form → Type 0
AsksFor switches Text = Spoken switches (codes "--text")
AsksFor switches Bytes = Spoken switches (codes "--text") → ⊥
