-- The words of a command line, sorted by kind. Assumes nothing: these are definitions.
use Rattle.std.specs.Prelude.{◌≡◌, ℕ, ◌+◌, ◌*◌, ◌<◌, List, length, vec_len, string_bytes, String}
use Rattle.std.specs.List.{HoldsAt}
use Rattle.std.specs.declared.alloc.Global.{Global}
use Rattle.console.specs.declared.words.Setting.{Setting}
use Rattle.console.specs.declared.words.Words.{Words}

-- word i is this text
abbrev pub Word : List (String Global) → ℕ → List ℕ → Type 0
Word words i text = HoldsAt (λ w. string_bytes w ≡ text) words i

-- a text stands among the words
abbrev pub Spoken : List (String Global) → List ℕ → Type 0
Spoken words text = (i : ℕ) × (i < length words) × HoldsAt (λ w. string_bytes w ≡ text) words i

-- option i has this name
abbrev pub Named : List Setting → ℕ → List ℕ → Type 0
Named settings i name = HoldsAt (λ s. string_bytes s.name ≡ name) settings i

-- the value of the first option of a name
pub record Valued (settings : List Setting) (name value : List ℕ) : Type 0 where
  pub at : ℕ
  pub there : at < length settings
  pub named : Named settings at name
  pub before : (k : ℕ) → k < at → Named settings k name → ⊥
  pub is : HoldsAt (λ s. string_bytes s.value ≡ value) settings at

-- no option has the name
abbrev pub Unvalued : List Setting → List ℕ → Type 0
Unvalued settings name = (k : ℕ) → k < length settings → Named settings k name → ⊥

-- n words sorted: no word is lost, and each option has its value beside it
pub record Sorted (n : ℕ) (w : Words) : Type 0 where
  pub all : vec_len w.plain + vec_len w.switches + 2 * vec_len w.settings ≡ n
