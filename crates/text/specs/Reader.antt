-- Reading a night that people wrote. Assumes nothing: these are definitions.
use Rattle.std.specs.Prelude.{◌≡◌, ℕ, List, [], Some, None, vec_items}
use Rattle.night.specs.Night.{hours_of, tasks_of}
use Rattle.text.specs.declared.reader.TextNight.{TextNight}
use Rattle.text.specs.Lines.{lines, last_hours, entries, wrong_text, Listed}
use Rattle.text.specs.Unread.{Fit}

-- the text is one of a night, and this is the night
pub record Says (bs : List ℕ) (t : TextNight) : Type 0 where
  pub fit : Fit bs
  pub clean : wrong_text bs ≡ []
  pub hours : last_hours None (lines bs) ≡ Some (hours_of t.night)
  pub listed : Listed (hours_of t.night) (entries None (lines bs)) (tasks_of t.night) (vec_items t.names)
