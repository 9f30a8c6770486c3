-- The number that a string is, found character by character: an inner definition, which a law ties to `IsNumber`.
use Rattle.std.specs.Prelude.{ℕ, ◌+◌, ◌*◌, ◌≡◌, ◌≤◌, ◌^◌, Bool, true, false, ◌&&◌, ◌||◌, ◌==◌, nat_lt, if◌then◌else◌, List, [], ◌∷◌, Option, Some, None, Result, Ok, Err}
use Rattle.std.specs.Char.{digit_value}
use Rattle.cg_base.specs.declared.number.NumFault.{NumFault}
use Rattle.cg_base.specs.declared.number.NumFault.TheVariants.{NotNumber, TooWide}

-- The value of digits in a base, with a single `_` between two digits. The digits so far have the value n, and `ready`
-- says that a digit stands just before.
unfoldable pub digits_from : ℕ → Bool → ℕ → List ℕ → Option ℕ
digits_from base ready n [] = if ready then Some n else None
digits_from base ready n (c ∷ s) =
    if nat_lt (digit_value c) base then digits_from base true (n * base + digit_value c) s
    else if c == 95 && ready then digits_from base false n s
    else None

-- the value of digits in a base
abbrev pub digits_of : ℕ → List ℕ → Option ℕ
digits_of base s = digits_from base false 0 s

-- the number that a string is, behind its first two characters
abbrev pub marked : ℕ → ℕ → List ℕ → Option ℕ
marked c d s =
    if c == 48 && (d == 120 || d == 88) then digits_of 16 s
    else if c == 48 && (d == 98 || d == 66) then digits_of 2 s
    else digits_of 10 (c ∷ d ∷ s)

-- the number that a string is, if it is one
abbrev pub number_of : List ℕ → Option ℕ
number_of [] = digits_of 10 []
number_of (c ∷ []) = digits_of 10 (c ∷ [])
number_of (c ∷ d ∷ s) = marked c d s

-- what a reader answers where that is the number
abbrev pub Finds : Option ℕ → Result ℕ NumFault → Type 0
Finds found (Ok n) = found ≡ Some n
Finds found (Err NotNumber) = found ≡ None
Finds found (Err TooWide) = (n : ℕ) × (found ≡ Some n) × (2 ^ 128 ≤ n)

-- what a reader keeps of a number: it, or that it needs more than 128 bits
abbrev pub StandsFor : Option ℕ → ℕ → Type 0
StandsFor (Some kept) n = kept ≡ n
StandsFor None n = 2 ^ 128 ≤ n
