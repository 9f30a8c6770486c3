-- Where a text has scalars alone, a value without parts is sayable.
use Rattle.std.proofs.Common.{◌≡◌, ℕ, zero, suc, ◌<◌, ◌≤◌, List, [], ◌∷◌, ◌++◌, subst, arith, true}
use Rattle.std.specs.Prelude.{ℤ, pos, ◌-ℤ◌, ◌^◌, nat_le, IsUtf8}
use Rattle.std.proofs.lemmas.Bool.{and_parts}
use Rattle.std.proofs.lemmas.Bool.Decides.{nat_tests}
use Rattle.std.proofs.lemmas.Str.{IsUtf8-append, IsUtf8-encode, IsUtf8-nil, encode_ascii}
use lib.Utf8.{low_scalar}
use Rattle.cg_docspec.specs.Characters.{is_digit}
use Rattle.cg_docspec.specs.Place.{Place}
use Rattle.cg_docspec.specs.Tree.{Kind}
use Rattle.cg_docspec.specs.Literal.{are_digits, Whole, zero_alone, without_zero, Fraction, no_fraction, fraction, is_e, is_sign, Exponent, no_exponent, exponent, signed_exponent, Number, number, negative, value_of, Integer, from_zero, to_zero, Literal, true_literal, false_literal, null_literal, integer_literal, other_number}
use Rattle.cg_docspec.specs.Document.{Leaf, quoted, lines, literal, unquoted}
use Rattle.cg_jsonspec.specs.Said.{IsInRange, IsSayableKind}
use Rattle.cg_jsonspec.proofs.SayableGaps.{AreScalars, rest, behind, line_scalars}
use Rattle.cg_jsonspec.proofs.SayableStrings.{quoted_string, lines_scalars, lines_string, trimmed_string}

-- ---- numbers

-- a byte below 128 before a text that is UTF-8
before : (c : ℕ) (s : List ℕ) → c < 128 → IsUtf8 s → IsUtf8 (c ∷ s)
before c s small u = IsUtf8-append (c ∷ []) s (subst IsUtf8 (encode_ascii c small) (IsUtf8-encode c (low_scalar c (omega arith)))) u

-- a digit is such a byte
digit_small : (c : ℕ) → is_digit c ≡ true → c < 128
digit_small c e = grind (arith, nat_tests)

-- and so is the letter of an exponent
e_small : (c : ℕ) → is_e c ≡ true → c < 128
e_small c e = grind (arith, nat_tests)

-- and a sign
sign_small : (c : ℕ) → is_sign c ≡ true → c < 128
sign_small c e = grind (arith, nat_tests)

-- digits
digits_text : (s : List ℕ) → are_digits s ≡ true → IsUtf8 s
digits_text [] e = IsUtf8-nil
digits_text (c ∷ s) e = let parts = and_parts (is_digit c) (are_digits s) e in before c s (digit_small c parts.0) (digits_text s parts.1)

-- a whole part
whole_text : {w : List ℕ} → Whole w → IsUtf8 w
whole_text (zero_alone {c} e) = before c [] (omega (arith, e)) IsUtf8-nil
whole_text (without_zero {c} {s} e f g) = before c s (digit_small c e) (digits_text s g)

-- a fraction
fraction_text : {f : List ℕ} → Fraction f → IsUtf8 f
fraction_text no_fraction = IsUtf8-nil
fraction_text (fraction {c} {d} {s} e f g) = before c (d ∷ s) (omega (arith, e)) (before d s (digit_small d f) (digits_text s g))

-- an exponent
exponent_text : {e : List ℕ} → Exponent e → IsUtf8 e
exponent_text no_exponent = IsUtf8-nil
exponent_text (exponent {c} {d} {s} e f g) = before c (d ∷ s) (e_small c e) (before d s (digit_small d f) (digits_text s g))
exponent_text (signed_exponent {c} {p} {d} {s} e f g h) =
    before c (p ∷ d ∷ s) (e_small c e) (before p (d ∷ s) (sign_small p f) (before d s (digit_small d g) (digits_text s h)))

-- a number's spelling
number_text : {u : List ℕ} → Number u → IsUtf8 u
number_text (number w f e whole_part fraction_part exponent_part) = IsUtf8-append w (f ++ e) (whole_text whole_part) (IsUtf8-append f e (fraction_text fraction_part) (exponent_text exponent_part))
number_text (negative {c} w f e sign whole_part fraction_part exponent_part) =
    before c (w ++ (f ++ e)) (omega (arith, sign)) (IsUtf8-append w (f ++ e) (whole_text whole_part) (IsUtf8-append f e (fraction_text fraction_part) (exponent_text exponent_part)))

-- zero, or an integer below it
negated : (n : ℕ) → n ≤ 2 ^ 63 → IsInRange (pos 0 -ℤ pos n)
negated zero e = omega arith
negated (suc n) e = let one : nat_le 1 (suc n) ≡ true = grind (arith, nat_tests) in rw one (omega (arith, e))

-- an integer
integer_range : {u : List ℕ} {n : ℤ} → Integer u n → IsInRange n
integer_range (from_zero whole_part e) = e
integer_range (to_zero {c} {w} sign whole_part e) = negated (value_of w) e

-- ---- values without parts

-- a literal
literal_said : {u : List ℕ} {k : Kind} → Literal u k → IsSayableKind k
unfolding IsSayableKind
literal_said (true_literal e) = tt
literal_said (false_literal e) = tt
literal_said (null_literal e) = tt
literal_said (integer_literal i) = integer_range i
literal_said (other_number n e) = number_text n

-- a value without parts, and the text behind it
pub leaf_said : {at at' : Place} {s r : List ℕ} {k : Kind} → Leaf at s k at' r → AreScalars s → IsSayableKind k × AreScalars r
unfolding IsSayableKind
leaf_said (quoted {at} {at'} {c} {s} {u} {r} e f q) h = quoted_string q (rest c s h)
leaf_said (lines {at} {at'} {c} {d} {e} {s} {w} {r} ec ed ee l) h =
    let more = lines_scalars l (rest e s (rest d (e ∷ s) (rest c (d ∷ e ∷ s) h))) in
    (lines_string _ w more.0, more.1)
leaf_said (literal u r l e) h = (literal_said l, behind u r h)
leaf_said (unquoted {at} {at'} {c} {s} {w} {r} none e f g l) h = let more = line_scalars l h in (trimmed_string w more.0, more.1)
