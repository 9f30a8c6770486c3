-- Quoted strings and their escapes.
use Rattle.std.specs.Prelude.{ℕ, ◌+◌, ◌-◌, ◌*◌, ◌%◌, ◌≡◌, Bool, true, false, ◌&&◌, ◌||◌, ◌==◌, nat_lt, nat_le, if◌then◌else◌, List, [], ◌∷◌, ◌++◌, Option, Some, None, length, encode_utf8}
use lib.Utf8.{scalar}
use Rattle.cg_docspec.specs.Characters.{double_quote, single_quote, slash, backslash, small_u, is_control}
use Rattle.cg_docspec.specs.Place.{Place, next_place, place_after}

-- the character that \ and this one stand for
abbrev pub escaped : ℕ → Option ℕ
escaped c =
    if c == double_quote || c == single_quote || c == backslash || c == slash then Some c
    else if c == 98 then Some 8
    else if c == 102 then Some 12
    else if c == 110 then Some 10
    else if c == 114 then Some 13
    else if c == 116 then Some 9
    else None

-- a hexadecimal digit's value, in both cases
abbrev pub hex : ℕ → Option ℕ
hex c =
    if nat_le 48 c && nat_le c 57 then Some (c - 48)
    else if nat_le 97 c && nat_le c 102 then Some (c - 87)
    else if nat_le 65 c && nat_le c 70 then Some (c - 55)
    else None

-- v, and one digit more
abbrev pub with_digit : ℕ → Option ℕ → Option ℕ
with_digit v None = None
with_digit v (Some d) = Some (v * 16 + d)

-- the value of hexadecimal digits that stand behind the value v
abbrev pub hex_value : Option ℕ → List ℕ → Option ℕ
hex_value None s = None
hex_value (Some v) [] = Some v
hex_value (Some v) (c ∷ s) = hex_value (with_digit v (hex c)) s

-- what stands behind \u: four digits of this value
abbrev pub IsUnit : List ℕ → ℕ → Type 0
IsUnit x v = (length x ≡ 4) × (hex_value (Some 0) x ≡ Some v)

-- surrogates: U+D800 to U+DBFF are high, U+DC00 to U+DFFF are low
abbrev pub is_high : ℕ → Bool
is_high v = nat_le 55296 v && nat_lt v 56320

-- U+DC00 to U+DFFF
abbrev pub is_low : ℕ → Bool
is_low v = nat_le 56320 v && nat_lt v 57344

-- the character of a surrogate pair
abbrev pub paired : ℕ → ℕ → ℕ
paired high low = 65536 + high % 1024 * 1024 + low % 1024

-- Behind the opening quote q, to and with the closing one: the string. It has no line end. A surrogate pair gives one
-- character, and a surrogate alone is no scalar.
pub data Quoted (q : ℕ) : Place → List ℕ → List ℕ → Place → List ℕ → Type 0 where
  closes : {at : Place} {c : ℕ} {s : List ℕ} → (c == q) ≡ true → Quoted q at (c ∷ s) [] (next_place at c) s
  as_is : {at at' : Place} {c : ℕ} {s u r : List ℕ} → (c == q) ≡ false → (c == backslash) ≡ false → is_control c ≡ false →
      Quoted q (next_place at c) s u at' r → Quoted q at (c ∷ s) (encode_utf8 c ++ u) at' r
  escape : {at at' : Place} {c d v : ℕ} {s u r : List ℕ} → c ≡ backslash → escaped d ≡ Some v → Quoted q (next_place (next_place at c) d) s u at' r →
      Quoted q at (c ∷ d ∷ s) (encode_utf8 v ++ u) at' r
  unit : {at at' : Place} {c d v : ℕ} {s u r : List ℕ} (x : List ℕ) → c ≡ backslash → d ≡ small_u → IsUnit x v → scalar v ≡ true →
      Quoted q (place_after (next_place (next_place at c) d) x) s u at' r → Quoted q at (c ∷ d ∷ (x ++ s)) (encode_utf8 v ++ u) at' r
  pair : {at at' : Place} {c d e f v w : ℕ} {s u r : List ℕ} (x y : List ℕ) → c ≡ backslash → d ≡ small_u → IsUnit x v → is_high v ≡ true →
      e ≡ backslash → f ≡ small_u → IsUnit y w → is_low w ≡ true →
      Quoted q (place_after (next_place (next_place (place_after (next_place (next_place at c) d) x) e) f) y) s u at' r →
      Quoted q at (c ∷ d ∷ (x ++ (e ∷ f ∷ (y ++ s)))) (encode_utf8 (paired v w) ++ u) at' r
