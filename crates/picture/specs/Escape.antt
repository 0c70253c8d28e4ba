-- Text within XML. Assumes nothing: these are definitions.
use Rattle.std.specs.Prelude.{◌≡◌, ℕ, ◌<◌, Bool, false, cond, ◌||◌, List, length, codes, ◌==◌, nat_lt, slice_index}
use Rattle.std.proofs.Math.Utf8.{encode}
use Rattle.std.specs.List.{flat_map}
use Rattle.std.specs.Str.{chars}

-- a character that XML does not take
abbrev pub forbidden : ℕ → Bool
forbidden c = nat_lt c 32 || (c == 65534 || c == 65535)

-- a character as XML wants it; U+FFFD for one that it does not take
abbrev pub entity : ℕ → List ℕ
entity c =
    cond (c == 38) (codes "&amp;")
    (cond (c == 60) (codes "&lt;")
    (cond (c == 62) (codes "&gt;") (cond (c == 34) (codes "&quot;") (cond (c == 39) (codes "&#39;")
    (cond (forbidden c) (encode 65533) (encode c))))))

-- a text as XML wants it, character by character
abbrev pub escaped : List ℕ → List ℕ
escaped bs = flat_map entity (chars bs)

-- a byte that would begin or end something: one of < > " '
abbrev pub raw : ℕ → Bool
raw b = (b == 60 || b == 62) || (b == 34 || b == 39)

-- no such byte stands in the text
abbrev pub Clean : List ℕ → Type 0
Clean bs = (i : ℕ) → i < length bs → raw (slice_index bs i) ≡ false

-- a text as XML wants it: nothing in it begins or ends something
pub record Escapes (bs out : List ℕ) : Type 0 where
  pub value : out ≡ escaped bs
  pub clean : Clean out
