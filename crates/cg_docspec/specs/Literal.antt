-- Literals: true, false, null, and numbers as in JSON.
use Rattle.std.specs.Prelude.{ℕ, ℤ, pos, ◌-ℤ◌, ◌+◌, ◌-◌, ◌*◌, ◌^◌, ◌<◌, ◌≤◌, ◌≡◌, Bool, true, false, ◌&&◌, ◌||◌, ◌==◌, if◌then◌else◌, List, [], ◌∷◌, ◌++◌, codes}
use Rattle.cg_docspec.specs.Characters.{plus, comma, minus, point, hash, zero_digit, capital_e, small_e, close_bracket, close_brace, is_space, is_digit}
use Rattle.cg_docspec.specs.Tree.{Kind, null, boolean, integer, string}
use Rattle.cg_docspec.specs.Gap.{at_line_end, at_comment}

-- digits and nothing else
abbrev pub are_digits : List ℕ → Bool
are_digits [] = true
are_digits (c ∷ s) = is_digit c && are_digits s

-- 0, or digits of which the first is not 0
pub data Whole : List ℕ → Type 0 where
  zero_alone : {c : ℕ} → c ≡ zero_digit → Whole (c ∷ [])
  without_zero : {c : ℕ} {s : List ℕ} → is_digit c ≡ true → (c == zero_digit) ≡ false → are_digits s ≡ true → Whole (c ∷ s)

-- nothing, or a point and digits
pub data Fraction : List ℕ → Type 0 where
  no_fraction : Fraction []
  fraction : {c d : ℕ} {s : List ℕ} → c ≡ point → is_digit d ≡ true → are_digits s ≡ true → Fraction (c ∷ d ∷ s)

-- an e or an E
abbrev pub is_e : ℕ → Bool
is_e c = c == small_e || c == capital_e

-- a plus or a minus
abbrev pub is_sign : ℕ → Bool
is_sign c = c == plus || c == minus

-- nothing, or an e, maybe a sign, and digits
pub data Exponent : List ℕ → Type 0 where
  no_exponent : Exponent []
  exponent : {c d : ℕ} {s : List ℕ} → is_e c ≡ true → is_digit d ≡ true → are_digits s ≡ true → Exponent (c ∷ d ∷ s)
  signed_exponent : {c p d : ℕ} {s : List ℕ} → is_e c ≡ true → is_sign p ≡ true → is_digit d ≡ true → are_digits s ≡ true → Exponent (c ∷ p ∷ d ∷ s)

-- -?(0|[1-9][0-9]*) with an optional fraction and exponent
pub data Number : List ℕ → Type 0 where
  number : (w f e : List ℕ) → Whole w → Fraction f → Exponent e → Number (w ++ (f ++ e))
  negative : {c : ℕ} (w f e : List ℕ) → c ≡ minus → Whole w → Fraction f → Exponent e → Number (c ∷ (w ++ (f ++ e)))

-- the value of digits that stand behind the value v
abbrev pub value_behind : ℕ → List ℕ → ℕ
value_behind v [] = v
value_behind v (c ∷ s) = value_behind (v * 10 + (c - zero_digit)) s

-- the value of digits
abbrev pub value_of : List ℕ → ℕ
value_of s = value_behind 0 s

-- an integer from -2^63 to 2^64 - 1
pub data Integer : List ℕ → ℤ → Type 0 where
  from_zero : {w : List ℕ} → Whole w → value_of w < 2 ^ 64 → Integer w (pos (value_of w))
  to_zero : {c : ℕ} {w : List ℕ} → c ≡ minus → Whole w → value_of w ≤ 2 ^ 63 → Integer (c ∷ w) (pos 0 -ℤ pos (value_of w))

-- What a literal says. A number that is no such integer is the string of its spelling.
pub data Literal : List ℕ → Kind → Type 0 where
  true_literal : {u : List ℕ} → u ≡ codes "true" → Literal u (boolean true)
  false_literal : {u : List ℕ} → u ≡ codes "false" → Literal u (boolean false)
  null_literal : {u : List ℕ} → u ≡ codes "null" → Literal u null
  integer_literal : {u : List ℕ} {n : ℤ} → Integer u n → Literal u (integer n)
  other_number : {u : List ℕ} → Number u → ((n : ℤ) → Integer u n → ⊥) → Literal u (string u)

-- , ] } or #
abbrev pub ends_literal : ℕ → Bool
ends_literal c = c == comma || c == close_bracket || c == close_brace || c == hash

-- The next character, after spaces and tabs, is , ] } # or begins // or /* or a line end or the text's end.
abbrev pub may_follow : List ℕ → Bool
may_follow [] = true
may_follow (c ∷ s) = if is_space c then may_follow s else ends_literal c || at_comment (c ∷ s) || at_line_end (c ∷ s)

-- no literal is taken where the text begins
abbrev pub NoLiteral : List ℕ → Type 0
NoLiteral s = (u r : List ℕ) (k : Kind) → s ≡ u ++ r → Literal u k → may_follow r ≡ true → ⊥
