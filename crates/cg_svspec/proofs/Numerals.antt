-- The spellings of numbers: which characters they have, and that no two numbers share one.
use Rattle.std.proofs.Common.{◌≡◌, ℕ, zero, suc, ◌/◌, ◌%◌, ◌<◌, ◌≤◌, ◌^◌, ◌==◌, Bool, true, false, List, [], ◌∷◌, length, ap, sym, ◌∙◌, arith, if◌then◌else◌}
use Rattle.std.specs.Fmt.{decimal, digits, digits_onto, digit_glyph}
use Rattle.std.specs.Str.Parse.{digits_value}
use Rattle.std.proofs.lemmas.Bool.Decides.{nat_tests}
use Rattle.std.proofs.lemmas.Fmt.{decimal_is_IsNumeral, digits_is_IsNumeral}
use Rattle.std.proofs.Math.Pow.{pow_mono}
use Rattle.cg_svspec.specs.Characters.{is_digit, is_first, is_hexadecimal, is_mark, Each}

-- digits are of a kind where each glyph of the base is
glyphs : (p : ℕ → Bool) (base : ℕ) → 0 < base → ((d : ℕ) → d < base → p (digit_glyph false d) ≡ true) → (k n : ℕ) (behind : List ℕ) → Each p behind → Each p (digits_onto k base false n behind)
glyphs p base some good zero n behind each = each
glyphs p base some good (suc k) n behind each =
    let low : n % base < base = omega arith in
    let here : Each p (digit_glyph false (n % base) ∷ behind) = (good (n % base) low, each) in
    elim (n / base == 0) as (λ b. Each p (if◌then◌else◌ b (digit_glyph false (n % base) ∷ behind) (digits_onto k base false (n / base) (digit_glyph false (n % base) ∷ behind))))
    [ true ↦ here | false ↦ glyphs p base some good k (n / base) (digit_glyph false (n % base) ∷ behind) here ]

-- digits are written before what stands there
longer : (base k n : ℕ) (behind : List ℕ) → length behind ≤ length (digits_onto k base false n behind)
longer base zero n behind = omega arith
longer base (suc k) n behind =
    elim (n / base == 0) as (λ b. length behind ≤ length (if◌then◌else◌ b (digit_glyph false (n % base) ∷ behind) (digits_onto k base false (n / base) (digit_glyph false (n % base) ∷ behind))))
    [ true ↦ omega arith | false ↦ omega (arith, longer base k (n / base) (digit_glyph false (n % base) ∷ behind)) ]

-- a number has a digit
some_digit : (base k n : ℕ) (behind : List ℕ) → 0 < length (digits_onto (suc k) base false n behind)
some_digit base k n behind =
    elim (n / base == 0) as (λ b. 0 < length (if◌then◌else◌ b (digit_glyph false (n % base) ∷ behind) (digits_onto k base false (n / base) (digit_glyph false (n % base) ∷ behind))))
    [ true ↦ omega arith | false ↦ omega (arith, longer base k (n / base) (digit_glyph false (n % base) ∷ behind)) ]

-- each decimal glyph is a digit
decimal_glyph : (d : ℕ) → d < 10 → is_digit (digit_glyph false d) ≡ true
decimal_glyph d h = grind (arith, nat_tests)

-- each lower-case hexadecimal glyph is a hexadecimal digit
hexadecimal_glyph : (d : ℕ) → d < 16 → is_hexadecimal (digit_glyph false d) ≡ true
hexadecimal_glyph d h = grind (arith, nat_tests)

-- a decimal spelling has digits alone
pub decimal_digits : (n : ℕ) → Each is_digit (decimal n)
unfolding digits
decimal_digits n = glyphs is_digit 10 (omega arith) decimal_glyph 64 n [] tt

-- a hexadecimal spelling has hexadecimal digits alone
pub hexadecimal_digits : (n : ℕ) → Each is_hexadecimal (digits 16 false n)
unfolding digits
hexadecimal_digits n = glyphs is_hexadecimal 16 (omega arith) hexadecimal_glyph 64 n [] tt

-- a decimal spelling is not empty
pub decimal_some : (n : ℕ) → 0 < length (decimal n)
unfolding digits
decimal_some n = some_digit 10 63 n []

-- a character that begins a name is no digit
pub first_no_digit : (c : ℕ) → is_first c ≡ true → is_digit c ≡ true → ⊥
first_no_digit c a b = grind (arith, nat_tests)

-- a mark is no digit
pub mark_no_digit : (c : ℕ) → is_mark c ≡ true → is_digit c ≡ true → ⊥
mark_no_digit c a b = grind (arith, nat_tests)

-- a mark begins no name
pub mark_no_first : (c : ℕ) → is_mark c ≡ true → is_first c ≡ true → ⊥
mark_no_first c a b = grind (arith, nat_tests)

-- numbers of one decimal spelling are equal
pub decimal_same : (m n : ℕ) → m < 2 ^ 64 → n < 2 ^ 64 → decimal m ≡ decimal n → m ≡ n
decimal_same m n p q e = sym (decimal_is_IsNumeral m p).1 ∙ ap (digits_value 10) e ∙ (decimal_is_IsNumeral n q).1

-- a literal's value is within the digits that are written
pub literal_small : (v w : ℕ) → w ≤ 32 → v < 2 ^ w → v < 16 ^ 64
literal_small v w small h = omega (arith, pow_mono small)

-- numbers of one hexadecimal spelling are equal
pub hexadecimal_same : (m n : ℕ) → m < 16 ^ 64 → n < 16 ^ 64 → digits 16 false m ≡ digits 16 false n → m ≡ n
hexadecimal_same m n p q e =
    sym (digits_is_IsNumeral 16 false (omega arith) (omega arith) m p).1 ∙ ap (digits_value 16) e ∙ (digits_is_IsNumeral 16 false (omega arith) (omega arith) n q).1
