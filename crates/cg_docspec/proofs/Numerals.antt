-- The scan for number literals decides them, and gives the integers' values.
use Rattle.std.proofs.Common.{◌≡◌, ℕ, inl, inr, ◌+◌, ◌*◌, ◌<◌, ◌≤◌, List, [], ◌∷◌, ◌++◌, Option, Some, None, refl, arith, true, false, nat_lt, ap, subst, ◌∙◌, sym, Bool}
use Rattle.std.specs.Prelude.{ℤ, pos, ◌-ℤ◌, ◌-◌, ◌^◌, cond, ◌&&◌, ◌==◌, option_and_then}
use Rattle.std.proofs.lemmas.List.{append-nil}
use Rattle.std.proofs.lemmas.Bool.{and_parts}
use Rattle.std.proofs.lemmas.Bool.Decides.{nat_tests}
use Rattle.cg_docspec.specs.Characters.{minus, point, zero_digit, is_digit}
use Rattle.cg_docspec.specs.Lines.{is_nil}
use Rattle.cg_docspec.specs.Literal.{are_digits, Whole, zero_alone, without_zero, Fraction, no_fraction, fraction, is_e, is_sign, Exponent, no_exponent, exponent, signed_exponent, Number, number, negative, value_behind, value_of, Integer, from_zero, to_zero}
use Rattle.cg_docspec.specs.Machine.Numeral.{skip_digits, some_digits, signed_digits, is_exponent, is_decimals, is_fraction, is_unsigned, is_number, decimal, below_zero, above_zero, integer_value}
use Rattle.cg_docspec.proofs.Basics.{bool_cases, never, both, if_true, same_character}

-- ---- digits

-- nothing is left behind digits alone
pub nil_digits : (s : List ℕ) → is_nil (skip_digits s) ≡ true → are_digits s ≡ true
unfolding skip_digits
nil_digits [] e = refl
nil_digits (c ∷ s) e = go (is_digit c) refl (nil_digits s) e
  where
    go : (b : Bool) → is_digit c ≡ b → (is_nil (skip_digits s) ≡ true → are_digits s ≡ true) → is_nil (cond b (skip_digits s) (c ∷ s)) ≡ true →
        are_digits (c ∷ s) ≡ true
    go true f more h = both (is_digit c) (are_digits s) f (more h)
    go false f more h = never h

-- a text, cut behind its digits
record Cut (s : List ℕ) : Type 0 where
  front : List ℕ
  are : are_digits front ≡ true
  is : s ≡ front ++ skip_digits s

-- each text can be cut so
cut : (s : List ℕ) → Cut s
unfolding skip_digits
cut [] = record { front = []; are = refl; is = refl }
cut (c ∷ s) = elim (bool_cases (is_digit c)) as (λ _. Cut (c ∷ s)) [
  | inl e ↦ let more = cut s in record { front = c ∷ more.front; are = both (is_digit c) (are_digits more.front) e more.are; is = rw e (ap (λ (x : List ℕ). c ∷ x) more.is) }
  | inr e ↦ record { front = []; are = refl; is = rw e refl }
]

-- nothing, or a character that is no digit
abbrev EndsDigits : List ℕ → Type 0
EndsDigits [] = Unit {0}
EndsDigits (c ∷ s) = is_digit c ≡ false

-- digits are skipped up to what ends them
skip_all : (d r : List ℕ) → are_digits d ≡ true → EndsDigits r → skip_digits (d ++ r) ≡ r
unfolding skip_digits
skip_all [] [] e f = refl
skip_all [] (c ∷ r) e f = rw f refl
skip_all (c ∷ d) r e f = let p = and_parts (is_digit c) (are_digits d) e in rw p.0 (skip_all d r p.1 f)

-- nothing is left behind digits
digits_nil : (s : List ℕ) → are_digits s ≡ true → is_nil (skip_digits s) ≡ true
digits_nil s e = ap is_nil (ap skip_digits (sym (append-nil s)) ∙ skip_all s [] e tt)

-- ---- the scan finds a number

-- at least one digit
some_of : (s : List ℕ) → some_digits s ≡ true → (d : ℕ) × (r : List ℕ) × (s ≡ d ∷ r) × (is_digit d ≡ true) × (are_digits r ≡ true)
some_of [] e = never e
some_of (d ∷ s) e = let p = and_parts (is_digit d) (is_nil (skip_digits s)) e in (d, s, refl, p.0, nil_digits s p.1)

-- the scan for an exponent finds one
exponent_of : (s : List ℕ) → is_exponent s ≡ true → Exponent s
exponent_of [] e = no_exponent
exponent_of (c ∷ s) e = let p = and_parts (is_e c) (signed_digits s) e in go s p.0 p.1
  where
    go : (s : List ℕ) → is_e c ≡ true → signed_digits s ≡ true → Exponent (c ∷ s)
    go [] f h = never h
    go (p ∷ s) f h =
        if_true (is_sign p) (some_digits s) (some_digits (p ∷ s)) h
        (λ g k. let x = some_of s k in subst (λ (y : List ℕ). Exponent (c ∷ p ∷ y)) (sym x.2) (signed_exponent f g x.3 x.4))
        (λ g k. let x = some_of (p ∷ s) k in subst (λ (y : List ℕ). Exponent (c ∷ y)) (sym x.2) (exponent f x.3 x.4))

-- what stands behind the whole part
record Tail (s : List ℕ) : Type 0 where
  part : List ℕ
  power : List ℕ
  is : s ≡ part ++ power
  is_fraction : Fraction part
  is_exponent : Exponent power

-- the scan behind the whole part finds a fraction and an exponent
tail_of : (s : List ℕ) → is_fraction s ≡ true → Tail s
tail_of [] e = record { part = []; power = []; is = refl; is_fraction = no_fraction; is_exponent = no_exponent }
tail_of (c ∷ s) e =
    if_true (c == point) (is_decimals s) (is_exponent (c ∷ s)) e
    (λ f h. go s (same_character c point f) h)
    (λ f h. record { part = []; power = c ∷ s; is = refl; is_fraction = no_fraction; is_exponent = exponent_of (c ∷ s) h })
  where
    go : (s : List ℕ) → c ≡ point → is_decimals s ≡ true → Tail (c ∷ s)
    go [] f h = never h
    go (d ∷ s) f h =
        let p = and_parts (is_digit d) (is_exponent (skip_digits s)) h in
        let k = cut s in
        record { part = c ∷ d ∷ k.front; power = skip_digits s; is = ap (λ (x : List ℕ). c ∷ d ∷ x) k.is; is_fraction = fraction f p.0 k.are; is_exponent = exponent_of (skip_digits s) p.1 }

-- a number without a sign, in its parts
record Unsigned (s : List ℕ) : Type 0 where
  whole : List ℕ
  part : List ℕ
  power : List ℕ
  is : s ≡ whole ++ (part ++ power)
  is_whole : Whole whole
  is_fraction : Fraction part
  is_exponent : Exponent power

-- the scan for it finds it
unsigned_of : (s : List ℕ) → is_unsigned s ≡ true → Unsigned s
unsigned_of [] e = never e
unsigned_of (c ∷ s) e = elim (bool_cases (c == zero_digit)) as (λ _. Unsigned (c ∷ s)) [
  | inl f ↦
      let t = tail_of s (rw f at e) in
      record { whole = c ∷ []; part = t.part; power = t.power; is = ap (λ (x : List ℕ). c ∷ x) t.is; is_whole = zero_alone (same_character c zero_digit f); is_fraction = t.is_fraction; is_exponent = t.is_exponent }
  | inr f ↦
      let h : (is_digit c && is_fraction (skip_digits s)) ≡ true = rw f at e in
      let p = and_parts (is_digit c) (is_fraction (skip_digits s)) h in
      let t = tail_of (skip_digits s) p.1 in
      let k = cut s in
      record { whole = c ∷ k.front; part = t.part; power = t.power; is = ap (λ (x : List ℕ). c ∷ x) (k.is ∙ ap (λ (x : List ℕ). k.front ++ x) t.is); is_whole = without_zero p.0 f k.are; is_fraction = t.is_fraction; is_exponent = t.is_exponent }
]

-- the scan for a number finds one
pub number_of : (s : List ℕ) → is_number s ≡ true → Number s
number_of [] e = never e
number_of (c ∷ s) e =
    if_true (c == minus) (is_unsigned s) (is_unsigned (c ∷ s)) e
    (λ f h. let u = unsigned_of s h in subst (λ (x : List ℕ). Number (c ∷ x)) (sym u.is) (negative u.whole u.part u.power (same_character c minus f) u.is_whole u.is_fraction u.is_exponent))
    (λ f h. let u = unsigned_of (c ∷ s) h in subst Number (sym u.is) (number u.whole u.part u.power u.is_whole u.is_fraction u.is_exponent))

-- ---- each number is found

-- each exponent is found
exponent_is : {s : List ℕ} → Exponent s → is_exponent s ≡ true
exponent_is no_exponent = refl
exponent_is (exponent {c} {d} {s} e f g) = let n : is_sign d ≡ false = grind (arith, nat_tests) in rw (e, n, f) (digits_nil s g)
exponent_is (signed_exponent {c} {p} {d} {s} e f g h) = rw (e, f, g) (digits_nil s h)

-- an exponent ends digits
exponent_ends : {s : List ℕ} → Exponent s → EndsDigits s
exponent_ends no_exponent = tt
exponent_ends (exponent {c} e f g) = let n : is_digit c ≡ false = grind (arith, nat_tests) in n
exponent_ends (signed_exponent {c} e f g h) = let n : is_digit c ≡ false = grind (arith, nat_tests) in n

-- an exponent alone passes for a fraction
exponent_fraction : {s : List ℕ} → Exponent s → is_exponent s ≡ true → is_fraction s ≡ true
exponent_fraction no_exponent h = refl
exponent_fraction (exponent {c} e f g) h = let n : (c == point) ≡ false = grind (arith, nat_tests) in rw n h
exponent_fraction (signed_exponent {c} e f g k) h = let n : (c == point) ≡ false = grind (arith, nat_tests) in rw n h

-- each fraction and exponent is found
tail_is : {f e : List ℕ} → Fraction f → Exponent e → is_fraction (f ++ e) ≡ true
tail_is no_fraction x = exponent_fraction x (exponent_is x)
tail_is {e = e} (fraction {c} {d} {s} f g h) x = rw (f, g, skip_all s e h (exponent_ends x)) (exponent_is x)

-- they end digits
tail_ends : {f e : List ℕ} → Fraction f → Exponent e → EndsDigits (f ++ e)
tail_ends no_fraction x = exponent_ends x
tail_ends (fraction {c} f g h) x = rw f refl

-- each number without a sign is found
unsigned_is : {w f e : List ℕ} → Whole w → Fraction f → Exponent e → is_unsigned (w ++ (f ++ e)) ≡ true
unsigned_is (zero_alone {c} z) x y = rw z (tail_is x y)
unsigned_is {f = f} {e = e} (without_zero {c} {s} d z g) x y = rw (z, d, skip_all s (f ++ e) g (tail_ends x y)) (tail_is x y)

-- no whole part begins with a minus
whole_minus : {w : List ℕ} (r : List ℕ) → Whole w → is_number (w ++ r) ≡ is_unsigned (w ++ r)
whole_minus r (zero_alone {c} z) = rw z refl
whole_minus r (without_zero {c} d z g) = let n : (c == minus) ≡ false = grind (arith, nat_tests) in rw n refl

-- each number is found
pub number_is : {s : List ℕ} → Number s → is_number s ≡ true
number_is (number w f e x y z) = whole_minus (f ++ e) x ∙ unsigned_is x y z
number_is (negative {c} w f e m x y z) = rw m (unsigned_is x y z)

-- ---- integers

-- digits have their value
decimal_is : (v : ℕ) (s : List ℕ) → are_digits s ≡ true → decimal v s ≡ Some (value_behind v s)
unfolding decimal
decimal_is v [] e = refl
decimal_is v (c ∷ s) e = let p = and_parts (is_digit c) (are_digits s) e in rw p.0 (decimal_is (v * 10 + (c - zero_digit)) s p.1)

-- what has a value is digits
decimal_digits : (v n : ℕ) (s : List ℕ) → decimal v s ≡ Some n → are_digits s ≡ true
unfolding decimal
decimal_digits v n [] e = refl
decimal_digits v n (c ∷ s) e = go (is_digit c) refl (decimal_digits (v * 10 + (c - zero_digit)) n s) e
  where
    go : (b : Bool) → is_digit c ≡ b → (decimal (v * 10 + (c - zero_digit)) s ≡ Some n → are_digits s ≡ true) →
        cond b (decimal (v * 10 + (c - zero_digit)) s) None ≡ Some n → are_digits (c ∷ s) ≡ true
    go true f more h = both (is_digit c) (are_digits s) f (more h)
    go false f more h = let k : None ≡ Some n = h in cc

-- a whole part is digits
whole_digits : {w : List ℕ} → Whole w → are_digits w ≡ true
whole_digits (zero_alone {c} z) = rw z refl
whole_digits (without_zero {c} {s} d z g) = both (is_digit c) (are_digits s) d g

-- digits have no tail
no_tail : {f e : List ℕ} (w : List ℕ) → Fraction f → Exponent e → are_digits (w ++ (f ++ e)) ≡ true → f ++ e ≡ []
no_tail (c ∷ w) x y h = no_tail w x y (and_parts (is_digit c) (are_digits (w ++ _)) h).1
no_tail [] no_fraction no_exponent h = refl
no_tail [] no_fraction (exponent {c} {d} {s} e f g) h = let p = and_parts (is_digit c) (are_digits (d ∷ s)) h in absurd (grind (arith, nat_tests))
no_tail [] no_fraction (signed_exponent {c} {p} {d} {s} e f g k) h = let a = and_parts (is_digit c) (are_digits (p ∷ d ∷ s)) h in absurd (grind (arith, nat_tests))
no_tail [] (fraction {c} {d} {s} f g k) x h = never (rw f at h)

-- an integer's spelling is digits, with a minus before them or none
whole_of : {w f e : List ℕ} → Whole w → Fraction f → Exponent e → are_digits (w ++ (f ++ e)) ≡ true → Whole (w ++ (f ++ e))
whole_of {w} {f} {e} x y z h = let n : f ++ e ≡ [] = no_tail w y z h in rw (n, append-nil) x

-- an integer from 0 on is in range
above_cases : (n : ℕ) (z : ℤ) → above_zero n ≡ Some z → (n < 2 ^ 64) × (pos n ≡ z)
above_cases n z = go (nat_lt n (2 ^ 64)) refl
  where
    go : (b : Bool) → nat_lt n (2 ^ 64) ≡ b → cond b (Some (pos n)) None ≡ Some z → (n < 2 ^ 64) × (pos n ≡ z)
    go true e h = (grind (arith, nat_tests), cc)
    go false e h = let k : None ≡ Some z = h in cc

-- an integer up to 0 is in range
below_cases : (n : ℕ) (z : ℤ) → below_zero n ≡ Some z → (n ≤ 2 ^ 63) × (pos 0 -ℤ pos n ≡ z)
below_cases n z = go (nat_lt (2 ^ 63) n) refl
  where
    go : (b : Bool) → nat_lt (2 ^ 63) n ≡ b → cond b None (Some (pos 0 -ℤ pos n)) ≡ Some z → (n ≤ 2 ^ 63) × (pos 0 -ℤ pos n ≡ z)
    go false e h = (grind (arith, nat_tests), cc)
    go true e h = let k : None ≡ Some z = h in cc

-- there is a number where there is one behind a step
some_then : {G : Type 0} (f : ℕ → Option ℤ) (o : Option ℕ) (z : ℤ) → option_and_then f o ≡ Some z → ((n : ℕ) → o ≡ Some n → f n ≡ Some z → G) → G
some_then f None z e g = let k : None ≡ Some z = e in cc
some_then f (Some n) z e g = g n refl e

-- what has an integer's value is one, from 0 on
positive_of : {w f e : List ℕ} (z : ℤ) → Whole w → Fraction f → Exponent e → option_and_then above_zero (decimal 0 (w ++ (f ++ e))) ≡ Some z →
    Integer (w ++ (f ++ e)) z
positive_of {w} {f} {e} z a b d h =
    let s : List ℕ = w ++ (f ++ e) in
    some_then above_zero (decimal 0 s) z h
    (λ n is k.
    let digits : are_digits s ≡ true = decimal_digits 0 n s is in
    let value : value_of s ≡ n = let x : Some (value_of s) ≡ Some n = sym (decimal_is 0 s digits) ∙ is in cc in
    let c = above_cases n z k in
    subst (λ (y : ℤ). Integer s y) (ap pos value ∙ c.1) (from_zero (whole_of a b d digits) (rw value c.0)))

-- and up to 0
negative_of : {w f e : List ℕ} (m : ℕ) (z : ℤ) → m ≡ minus → Whole w → Fraction f → Exponent e →
    option_and_then below_zero (decimal 0 (w ++ (f ++ e))) ≡ Some z → Integer (m ∷ (w ++ (f ++ e))) z
negative_of {w} {f} {e} m z sign a b d h =
    let s : List ℕ = w ++ (f ++ e) in
    some_then below_zero (decimal 0 s) z h
    (λ n is k.
    let digits : are_digits s ≡ true = decimal_digits 0 n s is in
    let value : value_of s ≡ n = let x : Some (value_of s) ≡ Some n = sym (decimal_is 0 s digits) ∙ is in cc in
    let c = below_cases n z k in
    subst (λ (y : ℤ). Integer (m ∷ s) y) (ap (λ (x : ℕ). pos 0 -ℤ pos x) value ∙ c.1) (to_zero sign (whole_of a b d digits) (rw value c.0)))

-- the value of a spelling without a minus
whole_value : {w : List ℕ} (r : List ℕ) → Whole w → integer_value (w ++ r) ≡ option_and_then above_zero (decimal 0 (w ++ r))
whole_value r (zero_alone {c} z) = rw z refl
whole_value r (without_zero {c} d z g) = let n : (c == minus) ≡ false = grind (arith, nat_tests) in rw n refl

-- the value that the scan gives is the integer's
pub integer_of : {s : List ℕ} (z : ℤ) → Number s → integer_value s ≡ Some z → Integer s z
integer_of z (number w f e a b d) h = positive_of z a b d (sym (whole_value (f ++ e) a) ∙ h)
integer_of z (negative {c} w f e m a b d) h = negative_of c z m a b d (rw m at h)

-- an integer is a number
pub integer_number : {s : List ℕ} {z : ℤ} → Integer s z → Number s
integer_number (from_zero {w} a h) = subst Number (append-nil w) (number w [] [] a no_fraction no_exponent)
integer_number (to_zero {c} {w} m a h) = subst (λ (x : List ℕ). Number (c ∷ x)) (append-nil w) (negative w [] [] m a no_fraction no_exponent)

-- an integer has its value
pub integer_is : {s : List ℕ} {z : ℤ} → Integer s z → integer_value s ≡ Some z
integer_is (from_zero {w} a h) =
    let e : decimal 0 w ≡ Some (value_of w) = decimal_is 0 w (whole_digits a) in
    let v : integer_value w ≡ option_and_then above_zero (decimal 0 w) = subst (λ (x : List ℕ). integer_value x ≡ option_and_then above_zero (decimal 0 x)) (append-nil w) (whole_value [] a) in
    let t : nat_lt (value_of w) (2 ^ 64) ≡ true = grind (arith, nat_tests) in
    v ∙ rw e (rw t refl)
integer_is (to_zero {c} {w} m a h) =
    let e : decimal 0 w ≡ Some (value_of w) = decimal_is 0 w (whole_digits a) in
    let t : nat_lt (2 ^ 63) (value_of w) ≡ false = grind (arith, nat_tests) in
    rw m (rw e (rw t refl))
