-- Laws of text within XML.
use Rattle.std.proofs.Common.{◌≡◌, ℕ, zero, suc, ◌-◌, ◌≤◌, Bool, true, false, not, ◌&&◌, eqb, List, [], ◌∷◌, ◌++◌, length, get_or, codes, IsUtf8, sym, refl, ap, ◌∙◌, inl, inr, arith, length-append}
use lib.Utf8.{encode}
use Rattle.std.proofs.lemmas.List.{append_assoc, append-nil, get_or_append_left, get_or-append_right}
use Rattle.std.proofs.lemmas.Bool.{cases_Bool, cases_lt, ne_eqb, and_parts, not-true}
use Rattle.std.proofs.lemmas.Str.{chars-nil, chars_past_char, inside_one}
use Rattle.std.specs.List.{flat_map}
use Rattle.std.specs.Str.{chars}
use Rattle.picture.specs.Escape.{forbidden, entity, escaped, raw, Clean}

-- a character more
pub escaped_more :
    (out now bs rest all : List ℕ) (c : ℕ) → IsUtf8 bs → bs ≡ encode c ++ rest → out ++ flat_map entity (chars bs) ≡ all →
    now ≡ out ++ entity c → now ++ flat_map entity (chars rest) ≡ all
escaped_more out now bs rest all c u e h m =
    rw m (append_assoc out (entity c) (flat_map entity (chars rest)) ∙ (sym (ap (λ cs. out ++ flat_map entity cs) (chars_past_char bs rest c u e)) ∙ h))

-- the end of the text
pub escaped_all : (out bs all : List ℕ) → length bs ≡ 0 → out ++ flat_map entity (chars bs) ≡ all → out ≡ all
escaped_all out [] all z h = sym (ap (λ cs. out ++ flat_map entity cs) chars-nil ∙ append-nil out) ∙ h
escaped_all out (b ∷ bs) all z h = absurd (omega arith)

quiet : List ℕ → Bool
quiet [] = true
quiet (b ∷ bs) = not (raw b) && quiet bs

quiet_clean : (bs : List ℕ) → quiet bs ≡ true → Clean bs
unfolding quiet
quiet_clean [] e i l = absurd (omega arith)
quiet_clean (b ∷ bs) e zero l = not-true (raw b) (and_parts (not (raw b)) (quiet bs) e).0
quiet_clean (b ∷ bs) e (suc i) l = quiet_clean bs (and_parts (not (raw b)) (quiet bs) e).1 i (omega arith)

clean_append : (xs ys : List ℕ) → Clean xs → Clean ys → Clean (xs ++ ys)
clean_append xs ys f g i l =
    let whole = length-append xs ys in
    elim (cases_lt i (length xs)) [
      | inl m ↦ rw (get_or_append_left xs ys 0 i m) (f i m)
      | inr m ↦ rw (get_or-append_right xs ys (length xs) i 0 refl m) (g (i - length xs) (omega arith))
    ]

high_quiet : (b : ℕ) → 128 ≤ b → raw b ≡ false
high_quiet b h = rw (ne_eqb b 60 (λ e. omega arith), ne_eqb b 62 (λ e. omega arith), ne_eqb b 34 (λ e. omega arith), ne_eqb b 39 (λ e. omega arith))

clean_encode : (c : ℕ) → raw c ≡ false → Clean (encode c)
clean_encode c q i l =
    elim (cases_lt (get_or (encode c) i 0) 128) [
      | inl m ↦
          let same : c ≡ get_or (encode c) i 0 = inside_one c [] (encode c) i (sym (append-nil (encode c))) l m in
          sym (ap raw same) ∙ q
      | inr m ↦ high_quiet _ m
    ]

clean_entity : (c : ℕ) → Clean (entity c)
unfolding quiet
clean_entity c =
    elim (cases_Bool (eqb c 38)) [
      | inl e ↦ rw e (quiet_clean (codes "&amp;") refl)
      | inr a ↦ elim (cases_Bool (eqb c 60)) [
        | inl e ↦ rw (a, e) (quiet_clean (codes "&lt;") refl)
        | inr b ↦ elim (cases_Bool (eqb c 62)) [
          | inl e ↦ rw (a, b, e) (quiet_clean (codes "&gt;") refl)
          | inr d ↦ elim (cases_Bool (eqb c 34)) [
            | inl e ↦ rw (a, b, d, e) (quiet_clean (codes "&quot;") refl)
            | inr f ↦ elim (cases_Bool (eqb c 39)) [
              | inl e ↦ rw (a, b, d, f, e) (quiet_clean (codes "&#39;") refl)
              | inr g ↦ elim (cases_Bool (forbidden c)) [
                | inl e ↦ rw (a, b, d, f, g, e) (clean_encode 65533 refl)
                | inr h ↦ rw (a, b, d, f, g, h) (clean_encode c (rw (b, d, f, g)))
              ]
            ]
          ]
        ]
      ]
    ]

clean_joined : (cs : List ℕ) → Clean (flat_map entity cs)
clean_joined [] i l = absurd (omega arith)
clean_joined (c ∷ cs) i l = clean_append (entity c) (flat_map entity cs) (clean_entity c) (clean_joined cs) i l

-- a text as XML wants it has no byte that would begin or end something
pub escaped_clean : (bs out : List ℕ) → out ≡ escaped bs → Clean out
escaped_clean bs out e = rw e (clean_joined (chars bs))
