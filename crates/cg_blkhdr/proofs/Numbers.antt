-- What std's `from_str_radix` finds of digits without leading zeros.
use Rattle.std.proofs.Common.{◌≡◌, ℕ, ◌<◌, ◌≤◌, ◌^◌, Bool, true, false, not, List, [], ◌∷◌, Some, None, refl, ap, sym, subst, arith}
use Rattle.std.specs.Prelude.{eqb, nat_lt}
use Rattle.std.specs.List.{list_all}
use Rattle.std.specs.Char.{digit_value}
use Rattle.std.specs.Str.Parse.{AllDigits, IsNumeral, digits_value, without_leading_plus}
use Rattle.std.proofs.lemmas.Bool.Decides.{nat_tests}
use Rattle.cg_svspec.proofs.Runs.{both_pass}
use Rattle.cg_hdrspec.specs.Reading.{is_digit_in, are_digits, number_in}

digit_small : (base c : ℕ) → 10 ≤ base → is_digit_in base c ≡ true → digit_value c < base
digit_small base c low h = grind (arith, nat_tests)

all_small : (base : ℕ) (ds : List ℕ) → 10 ≤ base → list_all (is_digit_in base) ds ≡ true → AllDigits base ds
all_small base [] low h = tt
all_small base (d ∷ ds) low h =
    let both = both_pass (is_digit_in base d) (list_all (is_digit_in base) ds) h in
    (digit_small base d low both.0, all_small base ds low both.1)

-- a digit is no plus, which may stand in front for `from_str_radix`
digit_no_plus : (base c : ℕ) → is_digit_in base c ≡ true → eqb c 43 ≡ false
digit_no_plus base c h = grind (arith, nat_tests)

-- digits without leading zeros are a numeral, which begins with no plus
numeral : (base : ℕ) (ds : List ℕ) → 10 ≤ base → are_digits base ds ≡ true → IsNumeral base ds × (without_leading_plus ds ≡ ds)
numeral base [] low h = cc
numeral base (c ∷ []) low h = ((omega arith, (digit_small base c low h, tt)), rw (digit_no_plus base c h) refl)
numeral base (c ∷ d ∷ ds) low h =
    let both = both_pass (not (eqb c 48)) (list_all (is_digit_in base) (c ∷ d ∷ ds)) h in
    let first = both_pass (is_digit_in base c) (list_all (is_digit_in base) (d ∷ ds)) both.1 in
    ((omega arith, all_small base (c ∷ d ∷ ds) low both.1), rw (digit_no_plus base c first.0) refl)

-- a numeral whose value fits in 64 bits, where a plus may stand in front
abbrev pub Fits : ℕ → List ℕ → Type 0
Fits base ds = IsNumeral base (without_leading_plus ds) × (digits_value base (without_leading_plus ds) < 2 ^ 64)

-- what is found of digits without leading zeros is their value, which is below 2^64
pub parsed : (base n : ℕ) (ds : List ℕ) → 10 ≤ base → are_digits base ds ≡ true → Fits base ds × (n ≡ digits_value base (without_leading_plus ds)) → number_in base ds ≡ Some n
unfolding number_in
parsed base n ds low good h =
    let is = (numeral base ds low good).1 in
    let small : digits_value base ds < 2 ^ 64 = rw is at h.0.1 in
    let value : n ≡ digits_value base ds = rw is at h.1 in
    let fits : nat_lt (digits_value base ds) (2 ^ 64) ≡ true = grind (arith, nat_tests) in
    rw (good, fits) (ap Some (sym value))

-- and nothing is found where it is not
pub refused : (base : ℕ) (ds : List ℕ) → 10 ≤ base → are_digits base ds ≡ true → ¬ Fits base ds → number_in base ds ≡ None
unfolding number_in
refused base ds low good h = go (nat_lt (digits_value base ds) (2 ^ 64)) refl
  where
    is : without_leading_plus ds ≡ ds
    is = (numeral base ds low good).1

    go : (b : Bool) → nat_lt (digits_value base ds) (2 ^ 64) ≡ b → number_in base ds ≡ None
    go true f =
        let small : digits_value base ds < 2 ^ 64 = grind (arith, nat_tests) in
        absurd (h (subst (λ cs. IsNumeral base cs × (digits_value base cs < 2 ^ 64)) (sym is) ((numeral base ds low good).0, small)))
    go false f = rw (good, f) refl
