-- The strings that are numbers, and their values.
pub mod Scan
use Rattle.std.specs.Prelude.{ℕ, ◌≡◌, ◌≤◌, ◌<◌, ◌^◌, ◌⊎◌, List, [], ◌∷◌, Result, Ok, Err}
use Rattle.std.specs.Char.{digit_value}
use Rattle.std.specs.Str.Parse.{digits_value}
use Rattle.cg_base.specs.declared.number.NumFault.{NumFault}
use Rattle.cg_base.specs.declared.number.NumFault.TheVariants.{NotNumber, TooWide}

-- the digit 0
abbrev pub zero_digit : ℕ
zero_digit = 48

-- the character between groups of digits, `_`
abbrev pub underscore : ℕ
underscore = 95

-- an x in either case
abbrev pub IsX : ℕ → Type 0
IsX c = (c ≡ 120) ⊎ (c ≡ 88)

-- a b in either case
abbrev pub IsB : ℕ → Type 0
IsB c = (c ≡ 98) ⊎ (c ≡ 66)

-- One digit of the base or more, with a single `_` allowed between two digits; and the digits alone.
pub data Digits (base : ℕ) : List ℕ → List ℕ → Type 0 where
  last : {c : ℕ} → digit_value c < base → Digits base (c ∷ []) (c ∷ [])
  next : {c : ℕ} {s ds : List ℕ} → digit_value c < base → Digits base s ds → Digits base (c ∷ s) (c ∷ ds)
  apart : {c u : ℕ} {s ds : List ℕ} → digit_value c < base → u ≡ underscore → Digits base s ds → Digits base (c ∷ u ∷ s) (c ∷ ds)

-- The string is this number: in decimal, in hexadecimal behind 0x or 0X, or in binary behind 0b or 0B.
pub data IsNumber : List ℕ → ℕ → Type 0 where
  decimal : {s ds : List ℕ} → Digits 10 s ds → IsNumber s (digits_value 10 ds)
  hexadecimal : {z x : ℕ} {s ds : List ℕ} → z ≡ zero_digit → IsX x → Digits 16 s ds → IsNumber (z ∷ x ∷ s) (digits_value 16 ds)
  binary : {z b : ℕ} {s ds : List ℕ} → z ≡ zero_digit → IsB b → Digits 2 s ds → IsNumber (z ∷ b ∷ s) (digits_value 2 ds)

-- What a reader answers: the number, that the string is none, or that the number needs more than 128 bits.
abbrev pub ReadsNumber : List ℕ → Result ℕ NumFault → Type 0
ReadsNumber s (Ok n) = IsNumber s n
ReadsNumber s (Err NotNumber) = (n : ℕ) → IsNumber s n → ⊥
ReadsNumber s (Err TooWide) = (n : ℕ) × IsNumber s n × (2 ^ 128 ≤ n)
