-- A number's spelling, as `parse` reads it.
use Rattle.std.proofs.Common.{◌≡◌, ℕ, zero, suc, ◌+◌, ◌-◌, ◌*◌, ◌^◌, ◌<◌, ◌≤◌, ◌⊎◌, inl, inr, pos, negsuc, neg_ℤ, ◌-ℤ◌, true, false, ◌&&◌, List, [], ◌∷◌, Option, Some, None, nat_lt, nat_eq, nat_le, length, arith, refl, sym, ap, ◌∙◌}
use Rattle.std.specs.Prelude.{option_and_then, FitsSigned}
use Rattle.std.specs.Char.{digit_value}
use Rattle.std.specs.Str.Parse.{AllDigits, IsNumeral, digits_value_after, digits_value, without_leading_sign, signed_digits_value}
use Rattle.std.proofs.lemmas.Bool.{cond_both, cases_Bool, cases_eq, ne_eqb}
use Rattle.std.proofs.lemmas.Bool.Decides.{nat_tests}
use Rattle.std.proofs.lemmas.Int.{ints}
use mir.Syntax.{w128}
use Rattle.cg_docspec.specs.Machine.Numeral.{decimal, below_zero, above_zero, integer_value, is_number, is_unsigned}
use Rattle.cg_hjson.specs.Integers.{in_range}

-- digits have their value
decimal-digits : (v : ℕ) (s : List ℕ) → AllDigits 10 s → decimal v s ≡ Some (digits_value_after 10 v s)
unfolding decimal
decimal-digits v [] all = refl
decimal-digits v (c ∷ s) all =
    let digit : digit_value c < 10 = all.0 in
    let test : (nat_le 48 c && nat_le c 57) ≡ true = grind (arith, nat_tests) in
    let same : c - 48 ≡ digit_value c = grind (arith, nat_tests) in
    rw test (ap (λ d. decimal (v * 10 + d) s) same ∙ decimal-digits (v * 10 + digit_value c) s all.1)

-- what has a value is digits
digits-decimal : (v : ℕ) (s : List ℕ) (n : ℕ) → decimal v s ≡ Some n → AllDigits 10 s × (n ≡ digits_value_after 10 v s)
unfolding decimal
digits-decimal v [] n h = let same : v ≡ n = cc in (tt, sym same)
digits-decimal v (c ∷ s) n h =
    cond_both (nat_le 48 c && nat_le c 57) (decimal (v * 10 + (c - 48)) s) None (λ o. o ≡ Some n → AllDigits 10 (c ∷ s) × (n ≡ digits_value_after 10 v (c ∷ s)))
    (λ test h.
    let digit : digit_value c < 10 = grind (arith, nat_tests) in
    let same : c - 48 ≡ digit_value c = grind (arith, nat_tests) in
    let more = digits-decimal (v * 10 + (c - 48)) s n h in
    ((digit, more.0), more.1 ∙ ap (λ d. digits_value_after 10 (v * 10 + d) s) same))
    (λ test h. absurd cc)
    h

-- the range, for digits behind a minus
in_range-negative : (n : ℕ) → in_range (neg_ℤ (pos n)) ≡ below_zero n
in_range-negative zero = refl
in_range-negative (suc n) =
    let same : negsuc n ≡ pos 0 -ℤ pos (suc n) = omega (arith, ints) in
    cond_both (nat_lt n (2 ^ 63)) (Some (negsuc n)) None (λ o. o ≡ below_zero (suc n))
    (λ test. let other : nat_lt (2 ^ 63) (suc n) ≡ false = grind (arith, nat_tests) in rw other (ap Some same))
    (λ test. let other : nat_lt (2 ^ 63) (suc n) ≡ true = grind (arith, nat_tests) in rw other refl)

-- numbers of these ranges fit 128 bits
fits_negative : (n : ℕ) → n ≤ 2 ^ 63 → FitsSigned w128 (neg_ℤ (pos n))
fits_negative zero low = record { sfits = omega arith }
fits_negative (suc n) low = record { sfits = omega arith }

-- and those without a minus
fits_positive : (n : ℕ) → n < 2 ^ 64 → FitsSigned w128 (pos n)
fits_positive n low = record { sfits = omega arith }

-- a number without a sign is not empty
unsigned_some : (s : List ℕ) → is_unsigned s ≡ true → 0 < length s
unsigned_some [] h = absurd cc
unsigned_some (c ∷ s) h = omega arith

-- and begins with no plus
unsigned_first : (c : ℕ) (s : List ℕ) → is_unsigned (c ∷ s) ≡ true → (c ≡ 43) ⊎ (c ≡ 43 → ⊥) → nat_eq c 43 ≡ false
unsigned_first c s h (inl is) = let none : false ≡ true = rw is at h in absurd cc
unsigned_first c s h (inr differs) = ne_eqb c 43 differs

-- the bytes behind a minus are a number without a sign
behind_minus : (c : ℕ) (s : List ℕ) → nat_eq c 45 ≡ true → is_number (c ∷ s) ≡ true → is_unsigned s ≡ true
behind_minus c s minus h = rw minus at h

-- and without a minus all bytes are
without_minus : (c : ℕ) (s : List ℕ) → nat_eq c 45 ≡ false → is_number (c ∷ s) ≡ true → nat_eq c 43 ≡ false
without_minus c s minus h = unsigned_first c s (rw minus at h) (cases_eq c 43)

-- a spelling that `parse` reads is the integer that it says, if that is in range
parsed_with : (c : ℕ) (s : List ℕ) → is_number (c ∷ s) ≡ true → (nat_eq c 45 ≡ true) ⊎ (nat_eq c 45 ≡ false) → IsNumeral 10 (without_leading_sign (c ∷ s)) →
    in_range (signed_digits_value 10 (c ∷ s)) ≡ integer_value (c ∷ s)
parsed_with c s h (inl minus) numeral =
    let digits : IsNumeral 10 s = rw minus at numeral in
    rw minus (in_range-negative (digits_value 10 s) ∙ sym (ap (option_and_then below_zero) (decimal-digits 0 s digits.1)))
parsed_with c s h (inr none) numeral =
    let plus = without_minus c s none h in
    let digits : IsNumeral 10 (c ∷ s) = rw (none, plus) at numeral in
    rw (none, plus) (sym (ap (option_and_then above_zero) (decimal-digits 0 (c ∷ s) digits.1)))

-- the same of any bytes
pub parsed-digits : (u : List ℕ) → is_number u ≡ true → IsNumeral 10 (without_leading_sign u) → in_range (signed_digits_value 10 u) ≡ integer_value u
parsed-digits [] h numeral = absurd cc
parsed-digits (c ∷ s) h numeral = parsed_with c s h (cases_Bool (nat_eq c 45)) numeral

-- digits behind a minus that have no value in 128 bits are no integer in range
no_negative : (s : List ℕ) (o : Option ℕ) → decimal 0 s ≡ o → 0 < length s → (IsNumeral 10 s × FitsSigned w128 (neg_ℤ (pos (digits_value 10 s))) → ⊥) → option_and_then below_zero o ≡ None
no_negative s None h some none = refl
no_negative s (Some n) h some none =
    let digits = digits-decimal 0 s n h in
    cond_both (nat_lt (2 ^ 63) n) None (Some (pos 0 -ℤ pos n)) (λ o. o ≡ None)
    (λ test. refl)
    (λ test. let low : n ≤ 2 ^ 63 = grind (arith, nat_tests) in absurd (none ((some, digits.0), rw (← digits.1) (fits_negative n low))))

-- and those without a minus neither
no_positive : (s : List ℕ) (o : Option ℕ) → decimal 0 s ≡ o → 0 < length s → (IsNumeral 10 s × FitsSigned w128 (pos (digits_value 10 s)) → ⊥) → option_and_then above_zero o ≡ None
no_positive s None h some none = refl
no_positive s (Some n) h some none =
    let digits = digits-decimal 0 s n h in
    cond_both (nat_lt n (2 ^ 64)) (Some (pos n)) None (λ o. o ≡ None)
    (λ test. let low : n < 2 ^ 64 = grind (arith, nat_tests) in absurd (none ((some, digits.0), rw (← digits.1) (fits_positive n low))))
    (λ test. refl)

-- a spelling that `parse` does not read is no integer in range
other_with : (c : ℕ) (s : List ℕ) → is_number (c ∷ s) ≡ true → (nat_eq c 45 ≡ true) ⊎ (nat_eq c 45 ≡ false) →
    (IsNumeral 10 (without_leading_sign (c ∷ s)) × FitsSigned w128 (signed_digits_value 10 (c ∷ s)) → ⊥) → integer_value (c ∷ s) ≡ None
other_with c s h (inl minus) none =
    let none' : IsNumeral 10 s × FitsSigned w128 (neg_ℤ (pos (digits_value 10 s))) → ⊥ = rw minus at none in
    rw minus (no_negative s (decimal 0 s) refl (unsigned_some s (behind_minus c s minus h)) none')
other_with c s h (inr other) none =
    let plus = without_minus c s other h in
    let none' : IsNumeral 10 (c ∷ s) × FitsSigned w128 (pos (digits_value 10 (c ∷ s))) → ⊥ = rw (other, plus) at none in
    rw other (no_positive (c ∷ s) (decimal 0 (c ∷ s)) refl (omega arith) none')

-- the same of any bytes
pub parsed-other : (u : List ℕ) → is_number u ≡ true → (IsNumeral 10 (without_leading_sign u) × FitsSigned w128 (signed_digits_value 10 u) → ⊥) → integer_value u ≡ None
parsed-other [] h none = refl
parsed-other (c ∷ s) h none = other_with c s h (cases_Bool (nat_eq c 45)) none
