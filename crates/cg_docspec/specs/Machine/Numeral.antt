-- Whether bytes are a literal, and which value they are.
use Rattle.std.specs.Prelude.{ℕ, ℤ, pos, ◌-ℤ◌, ◌+◌, ◌-◌, ◌*◌, ◌^◌, Bool, true, false, ◌&&◌, ◌||◌, ◌==◌, nat_lt, if◌then◌else◌, List, [], ◌∷◌, Option, Some, None, option_and_then, codes}
use Rattle.std.specs.Str.{bytes_eq}
use Rattle.cg_docspec.specs.Characters.{minus, point, zero_digit, is_digit}
use Rattle.cg_docspec.specs.Place.{Place}
use Rattle.cg_docspec.specs.Tree.{Tree, tree, Kind, null, boolean, integer, string}
use Rattle.cg_docspec.specs.Lines.{is_nil}
use Rattle.cg_docspec.specs.Literal.{is_e, is_sign}

-- what is left behind the digits
unfoldable pub skip_digits : List ℕ → List ℕ
skip_digits [] = []
skip_digits (c ∷ s) = if is_digit c then skip_digits s else c ∷ s

-- at least one digit, and nothing else
abbrev pub some_digits : List ℕ → Bool
some_digits [] = false
some_digits (c ∷ s) = is_digit c && is_nil (skip_digits s)

-- a sign or none, and digits
abbrev pub signed_digits : List ℕ → Bool
signed_digits [] = false
signed_digits (c ∷ s) = if is_sign c then some_digits s else some_digits (c ∷ s)

-- nothing, or an exponent
abbrev pub is_exponent : List ℕ → Bool
is_exponent [] = true
is_exponent (c ∷ s) = is_e c && signed_digits s

-- at least one digit, and an exponent
abbrev pub is_decimals : List ℕ → Bool
is_decimals [] = false
is_decimals (c ∷ s) = is_digit c && is_exponent (skip_digits s)

-- nothing, or a fraction, an exponent, or both
abbrev pub is_fraction : List ℕ → Bool
is_fraction [] = true
is_fraction (c ∷ s) = if c == point then is_decimals s else is_exponent (c ∷ s)

-- a number without a sign
abbrev pub is_unsigned : List ℕ → Bool
is_unsigned [] = false
is_unsigned (c ∷ s) = if c == zero_digit then is_fraction s else is_digit c && is_fraction (skip_digits s)

-- a number
abbrev pub is_number : List ℕ → Bool
is_number [] = false
is_number (c ∷ s) = if c == minus then is_unsigned s else is_unsigned (c ∷ s)

-- the value of digits behind the value v, if all are digits
unfoldable pub decimal : ℕ → List ℕ → Option ℕ
decimal v [] = Some v
decimal v (c ∷ s) = if is_digit c then decimal (v * 10 + (c - zero_digit)) s else None

-- an integer from -2^63 to 2^64 - 1
abbrev pub below_zero : ℕ → Option ℤ
below_zero n = if nat_lt (2 ^ 63) n then None else Some (pos 0 -ℤ pos n)

-- an integer up to 2^64 - 1
abbrev pub above_zero : ℕ → Option ℤ
above_zero n = if nat_lt n (2 ^ 64) then Some (pos n) else None

-- the integer that a number's spelling is, if it is one in range
abbrev pub integer_value : List ℕ → Option ℤ
integer_value [] = None
integer_value (c ∷ s) = if c == minus then option_and_then below_zero (decimal 0 s) else option_and_then above_zero (decimal 0 (c ∷ s))

-- an integer, or the string of its spelling
abbrev pub number_kind : Option ℤ → List ℕ → Kind
number_kind (Some n) u = integer n
number_kind None u = string u

-- true, false or null
abbrev pub is_word : List ℕ → Bool
is_word u = bytes_eq u (codes "true") || bytes_eq u (codes "false") || bytes_eq u (codes "null")

-- a literal
unfoldable pub is_literal : List ℕ → Bool
is_literal u = is_word u || is_number u

-- a value without quotes: a literal, or a string
unfoldable pub plain_kind : List ℕ → Kind
plain_kind u =
    if bytes_eq u (codes "true") then boolean true
    else if bytes_eq u (codes "false") then boolean false
    else if bytes_eq u (codes "null") then null
    else if is_number u then number_kind (integer_value u) u
    else string u

-- the same where it stands
abbrev pub plain_tree : List ℕ → Place → Tree
plain_tree u at = tree (plain_kind u) at
