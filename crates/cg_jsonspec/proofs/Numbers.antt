-- Decimal numbers are integers of documents.
use Rattle.std.proofs.Common.{◌≡◌, ℕ, suc, inl, inr, ◌+◌, ◌*◌, ◌<◌, ◌≤◌, List, [], ◌∷◌, ◌++◌, refl, arith, true, ap, subst, ◌∙◌}
use Rattle.std.specs.Prelude.{pos, negsuc, ◌-ℤ◌, ◌-◌, ◌^◌, ◌/◌, ◌%◌, decimal}
use Rattle.std.specs.Fmt.{signed_decimal}
use Rattle.std.proofs.lemmas.Bool.{and_parts, cases_eq}
use Rattle.std.proofs.lemmas.Bool.Decides.{nat_tests}
use Rattle.std.proofs.lemmas.Fmt.{decimal_by_steps}
use Rattle.std.proofs.lemmas.Int.{ints}
use Rattle.cg_docspec.specs.Characters.{is_digit}
use Rattle.cg_docspec.specs.Tree.{integer}
use Rattle.cg_docspec.specs.Literal.{are_digits, Whole, zero_alone, without_zero, value_behind, value_of, Integer, from_zero, to_zero, Literal, integer_literal}
use Rattle.cg_docspec.proofs.Basics.{both}

-- ---- digits

-- digits and one more
push_digits : (s : List ℕ) (d : ℕ) → are_digits s ≡ true → is_digit d ≡ true → are_digits (s ++ d ∷ []) ≡ true
push_digits [] d e f = both (is_digit d) true f refl
push_digits (c ∷ s) d e f = let p = and_parts (is_digit c) (are_digits s) e in both (is_digit c) (are_digits (s ++ d ∷ [])) p.0 (push_digits s d p.1 f)

-- their value
push_value : (v : ℕ) (s : List ℕ) (d : ℕ) → value_behind v (s ++ d ∷ []) ≡ value_behind v s * 10 + (d - 48)
push_value v [] d = refl
push_value v (c ∷ s) d = push_value (v * 10 + (c - 48)) s d

-- a digit's character
digit_is : (n : ℕ) → n < 10 → is_digit (48 + n) ≡ true
digit_is n h = grind (arith, nat_tests)

-- digits without leading zeros, and what they say
record IsDecimal (n : ℕ) (s : List ℕ) : Type 0 where
  whole : Whole s
  value : value_of s ≡ n

-- one digit
one_digit : (n : ℕ) → n < 10 → IsDecimal n ((48 + n) ∷ [])
one_digit n h = record {
  whole = elim (cases_eq n 0) [
    | inl e ↦ zero_alone (omega (arith, e))
    | inr ne ↦ without_zero (digit_is n h) (grind (arith, nat_tests)) refl
  ];
  value = omega arith;
}

-- one digit more
push_whole : (m d : ℕ) (s : List ℕ) → Whole s → value_of s ≡ m → 0 < m → is_digit d ≡ true → Whole (s ++ d ∷ [])
push_whole m d _ (zero_alone {c} e) v h f = absurd (omega (arith, e, v))
push_whole m d _ (without_zero {c} {s} e z g) v h f = without_zero e z (push_digits s d g f)

-- a number from 10 has the digits of its tenth, and one more
more_digits : (n : ℕ) (s : List ℕ) → 10 ≤ n → IsDecimal (n / 10) s → IsDecimal n (s ++ ((48 + n % 10) ∷ []))
more_digits n s h is = record {
  whole = push_whole (n / 10) (48 + n % 10) s is.whole is.value (omega arith) (digit_is (n % 10) (omega arith));
  value = push_value 0 s (48 + n % 10) ∙ rw is.value (omega arith);
}

-- what is written for a number
is_decimal : (n : ℕ) → n < 2 ^ 64 → IsDecimal n (decimal n)
is_decimal = decimal_by_steps IsDecimal one_digit more_digits

-- ---- literals

-- an integer from 0
pub from_zero_literal : (n : ℕ) → n < 2 ^ 64 → Literal (decimal n) (integer (pos n))
from_zero_literal n h =
    let is = is_decimal n h in
    integer_literal (subst (λ (m : ℕ). Integer (decimal n) (pos m)) is.value (from_zero is.whole (rw is.value h)))

-- an integer below 0
pub below_zero_literal : (n : ℕ) → n < 2 ^ 63 → Literal (signed_decimal (negsuc n)) (integer (negsuc n))
below_zero_literal n h =
    let is = is_decimal (suc n) (omega arith) in
    let same : pos 0 -ℤ pos (value_of (decimal (suc n))) ≡ negsuc n = ap (λ (m : ℕ). pos 0 -ℤ pos m) is.value ∙ omega (arith, ints) in
    integer_literal (subst (Integer (45 ∷ decimal (suc n))) same (to_zero refl is.whole (rw is.value (omega arith))))
