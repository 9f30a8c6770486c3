-- A text's bytes and its characters.
use Rattle.std.proofs.Common.{◌≡◌, ℕ, ◌+◌, List, [], ◌∷◌, ◌++◌, length, refl, arith, ap, sym, ◌∙◌, true, length-append}
use Rattle.std.specs.Str.{chars, IsUtf8}
use Rattle.std.specs.Char.{encode_utf8, len_utf8}
use Rattle.std.proofs.lemmas.Str.{encode_same, chars-encodes, chars-nil, length-encode, len_utf8_bounds}
use Rattle.std.proofs.lemmas.Bool.{and_parts}
use lib.Utf8.{scalars, encodes, encode, scalar}

-- the first character of characters' bytes
first_of_encodes : (cs r : List ℕ) (c : ℕ) → scalars cs ≡ true → encodes cs ≡ encode c ++ r → (chars (encodes cs) ≡ c ∷ chars r) × IsUtf8 r
first_of_encodes [] r c s e = absurd (omega (arith, ap length e, length-append (encode c) r, length-encode c, len_utf8_bounds c))
first_of_encodes (d ∷ ds) r c s e =
    let same = encode_same d c (encodes ds) r e in
    let more : scalars ds ≡ true = (and_parts (scalar d) (scalars ds) s).1 in
    (chars-encodes (d ∷ ds) s ∙ rw (same.0, ← same.1) (ap (λ x. c ∷ x) (sym (chars-encodes ds more))), (ds, (more, same.1)))

-- a text's first character, and that the rest is a text
pub first_character : (b r : List ℕ) (c : ℕ) → IsUtf8 b → b ≡ encode_utf8 c ++ r → (chars b ≡ c ∷ chars r) × IsUtf8 r × (length b ≡ len_utf8 c + length r)
first_character b r c u e =
    let first = first_of_encodes u.0 r c u.1.0 (u.1.1 ∙ e) in
    (ap chars (sym u.1.1) ∙ first.0, first.1, ap length e ∙ length-append (encode c) r ∙ rw length-encode refl)

-- no bytes are no characters
pub no_characters : (b : List ℕ) → length b ≡ 0 → chars b ≡ []
no_characters [] h = chars-nil
no_characters (x ∷ xs) h = absurd (omega (arith, h))
