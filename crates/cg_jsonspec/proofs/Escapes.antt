-- A string with its escapes is read back.
use Rattle.std.proofs.Common.{◌≡◌, ◌⊎◌, inl, inr, ℕ, ◌+◌, ◌*◌, ◌<◌, ◌≤◌, true, false, Some, List, [], ◌∷◌, ◌++◌, refl, sym, ap, ◌∙◌, subst, arith, append_assoc}
use Rattle.std.specs.Prelude.{◌/◌, ◌%◌, ◌==◌, encode_utf8}
use Rattle.std.specs.Char.{digit_char}
use Rattle.std.proofs.lemmas.Bool.{cases_eq, cases_lt}
use Rattle.std.proofs.lemmas.Bool.Decides.{nat_tests}
use Rattle.json.specs.Print.{escape_byte, escape}
use Rattle.cg_docspec.specs.Characters.{is_control}
use Rattle.cg_docspec.specs.Place.{Place, next_place, place_after}
use Rattle.cg_docspec.specs.Quoted.{Quoted, closes, as_is, escape as short_escape, unit, escaped, hex, hex_value, with_digit, IsUnit}
use lib.Utf8.{encodes, scalar, low_scalar}

-- ---- one character

-- behind the opening quote, from each place
abbrev pub ReadsString : List ℕ → List ℕ → List ℕ → Type 0
ReadsString s u r = (at : Place) → (behind : Place) × Quoted 34 at s u behind r

-- what stands for a character is read as the character, before any text
abbrev Takes : ℕ → Type 0
Takes c = (s u r : List ℕ) → ReadsString s u r → ReadsString (escape_byte c ++ s) (encode_utf8 c ++ u) r

-- a character that stands for itself
by_itself : (c : ℕ) → escape_byte c ≡ c ∷ [] → (c == 34) ≡ false → (c == 92) ≡ false → is_control c ≡ false → Takes c
by_itself c is quote slash control s u r h at =
    let more = h (next_place at c) in
    rw is (more.0, as_is quote slash control more.1)

-- \ and a letter
by_letter : (c l : ℕ) → escape_byte c ≡ 92 ∷ l ∷ [] → escaped l ≡ Some c → Takes c
by_letter c l is stands s u r h at =
    let more = h (next_place (next_place at 92) l) in
    rw is (more.0, short_escape refl stands more.1)

-- \u and four digits
by_unit : (c a b : ℕ) → escape_byte c ≡ 92 ∷ 117 ∷ 48 ∷ 48 ∷ a ∷ b ∷ [] → IsUnit (48 ∷ 48 ∷ a ∷ b ∷ []) c → scalar c ≡ true → Takes c
by_unit c a b is digits ok s u r h at =
    let more = h (place_after (next_place (next_place at 92) 117) (48 ∷ 48 ∷ a ∷ b ∷ [])) in
    rw is (more.0, unit (48 ∷ 48 ∷ a ∷ b ∷ []) refl refl digits ok more.1)

-- a hexadecimal digit's value
hex_digit : (d : ℕ) → d < 16 → hex (digit_char d) ≡ Some d
hex_digit d h = elim (cases_lt d 10) [
  | inl low ↦ grind (arith, nat_tests)
  | inr high ↦ grind (arith, nat_tests)
]

-- the value of four such digits, of which the first two are 0
two_digits : (a b x y : ℕ) → hex a ≡ Some x → hex b ≡ Some y → hex_value (Some 0) (48 ∷ 48 ∷ a ∷ b ∷ []) ≡ Some ((0 * 16 + x) * 16 + y)
two_digits a b x y e f = ap (λ o. hex_value (with_digit 0 o) (b ∷ [])) e ∙ ap (λ o. hex_value (with_digit (0 * 16 + x) o) []) f

-- the digits of a control character
unit_is : (c : ℕ) → c < 32 → IsUnit (48 ∷ 48 ∷ digit_char (c / 16) ∷ digit_char (c % 16) ∷ []) c
unit_is c h =
    let two = two_digits (digit_char (c / 16)) (digit_char (c % 16)) (c / 16) (c % 16) (hex_digit (c / 16) (omega arith)) (hex_digit (c % 16) (omega arith)) in
    (refl, two ∙ ap Some (omega arith))

-- ---- the seven characters that have a letter

takes_double_quote : Takes 34
unfolding escape_byte
takes_double_quote = by_letter 34 34 refl refl

takes_backslash : Takes 92
unfolding escape_byte
takes_backslash = by_letter 92 92 refl refl

takes_backspace : Takes 8
unfolding escape_byte
takes_backspace = by_letter 8 98 refl refl

takes_tab : Takes 9
unfolding escape_byte
takes_tab = by_letter 9 116 refl refl

takes_line_feed : Takes 10
unfolding escape_byte
takes_line_feed = by_letter 10 110 refl refl

takes_form_feed : Takes 12
unfolding escape_byte
takes_form_feed = by_letter 12 102 refl refl

takes_carriage_return : Takes 13
unfolding escape_byte
takes_carriage_return = by_letter 13 114 refl refl

-- ---- each character

-- no control character, no quote and no backslash
pub stays : (c : ℕ) → 32 ≤ c → (c ≡ 34 → ⊥) → (c ≡ 92 → ⊥) → escape_byte c ≡ c ∷ []
unfolding escape_byte
stays c high quote slash = grind (arith, nat_tests)

-- it is read as itself
takes_plain : (c : ℕ) → 32 ≤ c → (c ≡ 34 → ⊥) → (c ≡ 92 → ⊥) → Takes c
takes_plain c high quote slash = by_itself c (stays c high quote slash) (grind (arith, nat_tests)) (grind (arith, nat_tests)) (grind (arith, nat_tests))

-- a control character without a letter
becomes_unit : (c : ℕ) → c < 32 → (c ≡ 8 → ⊥) → (c ≡ 9 → ⊥) → (c ≡ 10 → ⊥) → (c ≡ 12 → ⊥) → (c ≡ 13 → ⊥)
    → escape_byte c ≡ 92 ∷ 117 ∷ 48 ∷ 48 ∷ digit_char (c / 16) ∷ digit_char (c % 16) ∷ []
unfolding escape_byte
becomes_unit c low a b d e f = grind (arith, nat_tests)

-- each control character is read as itself
takes_control : (c : ℕ) → c < 32 → Takes c
takes_control c low = go (cases_eq c 8) (cases_eq c 9) (cases_eq c 10) (cases_eq c 12) (cases_eq c 13)
  where
    go : (c ≡ 8) ⊎ (c ≡ 8 → ⊥) → (c ≡ 9) ⊎ (c ≡ 9 → ⊥) → (c ≡ 10) ⊎ (c ≡ 10 → ⊥) → (c ≡ 12) ⊎ (c ≡ 12 → ⊥) → (c ≡ 13) ⊎ (c ≡ 13 → ⊥) → Takes c
    go (inl is) b d e f = subst Takes (sym is) takes_backspace
    go (inr a) (inl is) d e f = subst Takes (sym is) takes_tab
    go (inr a) (inr b) (inl is) e f = subst Takes (sym is) takes_line_feed
    go (inr a) (inr b) (inr d) (inl is) f = subst Takes (sym is) takes_form_feed
    go (inr a) (inr b) (inr d) (inr e) (inl is) = subst Takes (sym is) takes_carriage_return
    go (inr a) (inr b) (inr d) (inr e) (inr f) =
        by_unit c (digit_char (c / 16)) (digit_char (c % 16)) (becomes_unit c low a b d e f) (unit_is c low) (low_scalar c (omega arith))

-- and so is each character
takes : (c : ℕ) → Takes c
takes c = go (cases_lt c 32) (cases_eq c 34) (cases_eq c 92)
  where
    go : (c < 32) ⊎ (32 ≤ c) → (c ≡ 34) ⊎ (c ≡ 34 → ⊥) → (c ≡ 92) ⊎ (c ≡ 92 → ⊥) → Takes c
    go (inl low) a b = takes_control c low
    go (inr high) (inl is) b = subst Takes (sym is) takes_double_quote
    go (inr high) (inr a) (inl is) = subst Takes (sym is) takes_backslash
    go (inr high) (inr a) (inr b) = takes_plain c high a b

-- ---- strings

-- a string's characters with their escapes, and the closing quote
escaped_reads : (cs r : List ℕ) → ReadsString (escape cs ++ 34 ∷ r) (encodes cs) r
escaped_reads [] r = λ at. (next_place at 34, closes refl)
escaped_reads (c ∷ cs) r = rw (append_assoc (escape_byte c) (escape cs) (34 ∷ r)) (takes c (escape cs ++ 34 ∷ r) (encodes cs) r (escaped_reads cs r))

-- behind the opening quote
pub quoted_reads : (cs r : List ℕ) → ReadsString ((escape cs ++ 34 ∷ []) ++ r) (encodes cs) r
quoted_reads cs r = rw (append_assoc (escape cs) (34 ∷ []) r) (escaped_reads cs r)
