-- The scan of a string finds exactly the number that the string is.
use Rattle.std.proofs.Common.{◌≡◌, ℕ, ◌+◌, ◌*◌, ◌<◌, ◌≤◌, ◌⊎◌, inl, inr, Bool, true, false, ◌&&◌, ◌||◌, List, [], ◌∷◌, Some, None, Result, Ok, Err, nat_lt, nat_eq, arith, refl, sym, ap, ◌∙◌, cond}
use Rattle.std.proofs.lemmas.Bool.{ltb-true, eqb-true, eq-eqb, ne_eqb, and_parts, and_right, or_left, or_right, cond_both}
use Rattle.std.proofs.lemmas.Bool.Decides.{nat_tests}
use Rattle.std.specs.Char.{digit_value}
use Rattle.std.specs.Str.Parse.{digits_value_after, digits_value}
use Rattle.cg_base.specs.declared.number.NumFault.{NumFault}
use Rattle.cg_base.specs.declared.number.NumFault.TheVariants.{NotNumber, TooWide}
use Rattle.cg_base.specs.Number.{Digits, last, next, apart, IsNumber, decimal, hexadecimal, binary, ReadsNumber}
use Rattle.cg_base.specs.Number.Scan.{digits_from, digits_of, number_of, Finds}
use Rattle.cg_base.proofs.NumberScan.{digits_from-digit, digits_from-underscore}

-- ---- what the string says is found

-- digits are found with their value
digits_from-Digits : (base : ℕ) (ready : Bool) (n : ℕ) (s ds : List ℕ) → base ≤ 36 → Digits base s ds → digits_from base ready n s ≡ Some (digits_value_after base n ds)
unfolding digits_from
digits_from-Digits base ready n _ _ high (last {c = c} digit) = digits_from-digit base c [] ready n digit
digits_from-Digits base ready n _ _ high (next {c = c} {s = s} {ds = ds} digit more) =
    digits_from-digit base c s ready n digit ∙ digits_from-Digits base true (n * base + digit_value c) s ds high more
digits_from-Digits base ready n _ _ high (apart {c = c} {u = u} {s = s} {ds = ds} digit is more) =
    let none : digit_value u < base → ⊥ = rw is (λ h. omega (arith, h)) in
    digits_from-digit base c (u ∷ s) ready n digit
    ∙ digits_from-underscore base u s (n * base + digit_value c) none is
    ∙ digits_from-Digits base false (n * base + digit_value c) s ds high more

-- digits begin with a digit
first_digit : (base c : ℕ) (s ds : List ℕ) → Digits base (c ∷ s) ds → digit_value c < base
first_digit base c _ _ (last digit) = digit
first_digit base c _ _ (next digit more) = digit
first_digit base c _ _ (apart digit is more) = digit

-- and then there is a digit or a `_`
second_digit : (base c d : ℕ) (s ds : List ℕ) → Digits base (c ∷ d ∷ s) ds → (digit_value d < base) ⊎ (d ≡ 95)
second_digit base c d s _ (next {ds = ds} digit more) = inl (first_digit base d s ds more)
second_digit base c d s _ (apart digit is more) = inr is

-- such a character is no letter
no_letter : (d e : ℕ) → (digit_value d < 10) ⊎ (d ≡ 95) → (e ≡ 95 → ⊥) → (digit_value e < 10 → ⊥) → nat_eq d e ≡ false
no_letter d e (inl digit) line letter = ne_eqb d e (λ is. letter (rw is at digit))
no_letter d e (inr is) line letter = ne_eqb d e (λ same. line (sym same ∙ is))

-- so decimals have no mark of another base
no_mark : (c d : ℕ) (s ds : List ℕ) (e f : ℕ) → (e ≡ 95 → ⊥) → (digit_value e < 10 → ⊥) → (f ≡ 95 → ⊥) → (digit_value f < 10 → ⊥) → Digits 10 (c ∷ d ∷ s) ds →
    (nat_eq c 48 && (nat_eq d e || nat_eq d f)) ≡ false
no_mark c d s ds e f line letter line' letter' digits =
    let second = second_digit 10 c d s ds digits in
    rw (no_letter d e second line letter, no_letter d f second line' letter') (and_right (nat_eq c 48) false refl)

-- decimals are found
number_of-decimal : (s ds : List ℕ) → Digits 10 s ds → number_of s ≡ Some (digits_value 10 ds)
number_of-decimal [] ds digits = digits_from-Digits 10 false 0 [] ds (omega arith) digits
number_of-decimal (c ∷ []) ds digits = digits_from-Digits 10 false 0 (c ∷ []) ds (omega arith) digits
number_of-decimal (c ∷ d ∷ s) ds digits =
    let no_x : (nat_eq c 48 && (nat_eq d 120 || nat_eq d 88)) ≡ false = no_mark c d s ds 120 88 (λ e. omega (arith, e)) (λ e. omega (arith, e)) (λ e. omega (arith, e)) (λ e. omega (arith, e)) digits in
    let no_b : (nat_eq c 48 && (nat_eq d 98 || nat_eq d 66)) ≡ false = no_mark c d s ds 98 66 (λ e. omega (arith, e)) (λ e. omega (arith, e)) (λ e. omega (arith, e)) (λ e. omega (arith, e)) digits in
    rw (no_x, no_b) (digits_from-Digits 10 false 0 (c ∷ d ∷ s) ds (omega arith) digits)

-- a mark in either case
marks : (d e f : ℕ) → (d ≡ e) ⊎ (d ≡ f) → (nat_eq d e || nat_eq d f) ≡ true
marks d e f (inl is) = or_left (nat_eq d e) (nat_eq d f) (eq-eqb d e is)
marks d e f (inr is) = or_right (nat_eq d e) (nat_eq d f) (eq-eqb d f is)

-- the number that a string is, is found
pub number_of-IsNumber : (s : List ℕ) (n : ℕ) → IsNumber s n → number_of s ≡ Some n
number_of-IsNumber s _ (decimal {ds = ds} digits) = number_of-decimal s ds digits
number_of-IsNumber _ _ (hexadecimal {z = z} {x = x} {s = s} {ds = ds} zero is digits) =
    rw (eq-eqb z 48 zero, marks x 120 88 is) (digits_from-Digits 16 false 0 s ds (omega arith) digits)
number_of-IsNumber _ _ (binary {z = z} {b = b} {s = s} {ds = ds} zero is digits) =
    let other : (nat_eq b 120 || nat_eq b 88) ≡ false = grind (arith, nat_tests) in
    rw (eq-eqb z 48 zero, other, marks b 98 66 is) (digits_from-Digits 2 false 0 s ds (omega arith) digits)

-- ---- what is found is what the string says

-- digits of the value n behind the value `before`
abbrev Found : ℕ → ℕ → List ℕ → ℕ → Type 0
Found base before s n = (ds : List ℕ) × Digits base s ds × (n ≡ digits_value_after base before ds)

-- What is left where n is found: digits; or, behind a digit, also nothing, or digits behind a `_`.
abbrev Left : Bool → ℕ → ℕ → List ℕ → ℕ → Type 0
Left false base before s n = Found base before s n
Left true base before s n = ((s ≡ []) × (n ≡ before)) ⊎ (Found base before s n ⊎ ((r : List ℕ) × (s ≡ 95 ∷ r) × Found base before r n))

-- one digit before what is left
digit_and : (base before c : ℕ) (s : List ℕ) (n : ℕ) → digit_value c < base → Left true base (before * base + digit_value c) s n → Found base before (c ∷ s) n
digit_and base before c s n digit (inl none) = (c ∷ [], rw none.0 (last digit), none.1)
digit_and base before c s n digit (inr (inl found)) = (c ∷ found.0, next digit found.1, found.2)
digit_and base before c s n digit (inr (inr left)) = (c ∷ left.2.0, rw left.1 (apart digit refl left.2.1), left.2.2)

-- digits are left, whatever stands before
left_found : (ready : Bool) (base before : ℕ) (s : List ℕ) (n : ℕ) → Found base before s n → Left ready base before s n
left_found false base before s n found = found
left_found true base before s n found = inr (inl found)

-- a `_` and digits are left behind a digit
left_apart : (ready : Bool) (base before c : ℕ) (s : List ℕ) (n : ℕ) → (nat_eq c 95 && ready) ≡ true → Found base before s n → Left ready base before (c ∷ s) n
left_apart ready base before c s n test found =
    let both = and_parts (nat_eq c 95) ready test in
    rw both.1 (inr (inr (s, ap (λ x. x ∷ s) (eqb-true c 95 both.0), found)))

-- what is left where the scan finds n
found_Left : (base : ℕ) (ready : Bool) (before : ℕ) (s : List ℕ) (n : ℕ) → digits_from base ready before s ≡ Some n → Left ready base before s n
unfolding digits_from
found_Left base false before [] n h = absurd cc
found_Left base true before [] n h = let same : before ≡ n = cc in inl (refl, sym same)
found_Left base ready before (c ∷ s) n h =
    cond_both (nat_lt (digit_value c) base) (digits_from base true (before * base + digit_value c) s) (cond (nat_eq c 95 && ready) (digits_from base false before s) None)
    (λ o. o ≡ Some n → Left ready base before (c ∷ s) n)
    (λ digit h. left_found ready base before (c ∷ s) n (digit_and base before c s n (ltb-true _ _ digit) (found_Left base true (before * base + digit_value c) s n h)))
    (λ other. cond_both (nat_eq c 95 && ready) (digits_from base false before s) None (λ o. o ≡ Some n → Left ready base before (c ∷ s) n)
    (λ is h. left_apart ready base before c s n is (found_Left base false before s n h))
    (λ not h. absurd cc))
    h

-- what the scan finds in decimal
found_decimal : (s : List ℕ) (n : ℕ) → digits_of 10 s ≡ Some n → IsNumber s n
found_decimal s n h = let found = found_Left 10 false 0 s n h in rw found.2 (decimal found.1)

-- a mark is in one of both cases
is_mark : (c d e f : ℕ) → (nat_eq c 48 && (nat_eq d e || nat_eq d f)) ≡ true → (c ≡ 48) × ((d ≡ e) ⊎ (d ≡ f))
is_mark c d e f h = grind (arith, nat_tests)

-- a string is the number that is found
pub IsNumber-number_of : (s : List ℕ) (n : ℕ) → number_of s ≡ Some n → IsNumber s n
IsNumber-number_of [] n h = found_decimal [] n h
IsNumber-number_of (c ∷ []) n h = found_decimal (c ∷ []) n h
IsNumber-number_of (c ∷ d ∷ s) n h =
    cond_both (nat_eq c 48 && (nat_eq d 120 || nat_eq d 88)) (digits_of 16 s) (cond (nat_eq c 48 && (nat_eq d 98 || nat_eq d 66)) (digits_of 2 s) (digits_of 10 (c ∷ d ∷ s)))
    (λ o. o ≡ Some n → IsNumber (c ∷ d ∷ s) n)
    (λ is h. let mark = is_mark c d 120 88 is in let found = found_Left 16 false 0 s n h in rw found.2 (hexadecimal mark.0 mark.1 found.1))
    (λ other. cond_both (nat_eq c 48 && (nat_eq d 98 || nat_eq d 66)) (digits_of 2 s) (digits_of 10 (c ∷ d ∷ s)) (λ o. o ≡ Some n → IsNumber (c ∷ d ∷ s) n)
    (λ is h. let mark = is_mark c d 98 66 is in let found = found_Left 2 false 0 s n h in rw found.2 (binary mark.0 mark.1 found.1))
    (λ not h. found_decimal (c ∷ d ∷ s) n h))
    h

-- who answers by the scan answers by what the string says
pub reads_found : (s : List ℕ) (r : Result ℕ NumFault) → Finds (number_of s) r → ReadsNumber s r
reads_found s (Ok n) found = IsNumber-number_of s n found
reads_found s (Err NotNumber) none = λ n is. let some = number_of-IsNumber s n is in cc
reads_found s (Err TooWide) wide = (wide.0, IsNumber-number_of s wide.0 wide.1, wide.2)
