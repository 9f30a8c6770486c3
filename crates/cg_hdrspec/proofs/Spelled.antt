-- Numbers and their spellings: digits without leading zeros are what is written of their value.
use Rattle.std.proofs.Common.{◌≡◌, ℕ, zero, suc, ◌+◌, ◌-◌, ◌*◌, ◌/◌, ◌%◌, ◌^◌, ◌<◌, ◌≤◌, ◌==◌, Bool, true, false, not, cond, ◌&&◌, List, [], ◌∷◌, ◌++◌, length, Some, None, refl, ap, sym, ◌∙◌, append-nil, arith}
use Rattle.std.specs.Prelude.{eqb, nat_lt}
use Rattle.std.specs.List.{list_all}
use Rattle.std.specs.Char.{digit_value}
use Rattle.std.specs.Fmt.{digits, digits_onto, digit_glyph}
use Rattle.std.specs.Str.Parse.{digits_value, digits_value_after}
use Rattle.std.proofs.lemmas.Fmt.{digits_is_IsNumeral}
use Rattle.std.proofs.lemmas.Bool.Decides.{nat_tests}
use Rattle.std.proofs.lemmas.Nat.{div-mul-add, mod-mul-add}
use Rattle.std.proofs.Math.Nat.{mul-le-mul_right, pow-suc, pow-succ', pow-zero, mul_assoc, mod-eq_of_lt, div-eq_of_lt, div-lt_iff_lt-mul}
use Rattle.std.proofs.Math.Pow.{pow_mono}
use Rattle.cg_svspec.specs.Characters.{Each}
use Rattle.cg_svspec.proofs.Runs.{both_pass, each_passes}
use Rattle.cg_hdrspec.specs.Reading.{is_digit_in, are_digits, number_in}

-- all pass the test where each does
pub all_pass : (p : ℕ → Bool) (xs : List ℕ) → Each p xs → list_all p xs ≡ true
all_pass p [] each = refl
all_pass p (x ∷ xs) each = rw (each.0, all_pass p xs each.1) refl

-- a character is a digit of the base just where it is the glyph of a number below it
abbrev pub IsDigits : ℕ → (ℕ → Bool) → Type 0
IsDigits base p = ((c : ℕ) → p c ≡ true → (digit_value c < base) × (digit_glyph false (digit_value c) ≡ c)) × ((d : ℕ) → d < base → p (digit_glyph false d) ≡ true)

pub tens : IsDigits 10 (is_digit_in 10)
tens = ((λ c h. (grind (arith, nat_tests), grind (arith, nat_tests))), (λ d h. grind (arith, nat_tests)))

pub sixteens : IsDigits 16 (is_digit_in 16)
sixteens = ((λ c h. (grind (arith, nat_tests), grind (arith, nat_tests))), (λ d h. grind (arith, nat_tests)))

-- the digits of a number that is behind others, one step and the last one
onto_step : (k base m d : ℕ) (behind : List ℕ) → 0 < m → d < base → digits_onto (suc k) base false (m * base + d) behind ≡ digits_onto k base false m (digit_glyph false d ∷ behind)
onto_step k base m d behind some small =
    let front : (m * base + d) / base ≡ m = div-mul-add m base d small in
    let end : (m * base + d) % base ≡ d = mod-mul-add m base d small in
    let more : (m == 0) ≡ false = grind (arith, nat_tests) in
    rw (front, end, more) refl

onto_last : (k base d : ℕ) (behind : List ℕ) → d < base → digits_onto (suc k) base false d behind ≡ digit_glyph false d ∷ behind
onto_last k base d behind small =
    let front : d / base ≡ 0 = div-eq_of_lt small in
    let end : d % base ≡ d = mod-eq_of_lt small in
    rw (front, end) refl

-- digits behind a number make it larger
larger : (base m : ℕ) (ds : List ℕ) → 2 ≤ base → m * 2 ^ length ds ≤ digits_value_after base m ds
larger base m [] low = omega arith
larger base m (d ∷ ds) low =
    let more = larger base (m * base + digit_value d) ds low in
    let twice : m * 2 ≤ m * base + digit_value d = let k : 2 * m ≤ base * m = mul-le-mul_right m low in omega arith in
    let wide : m * 2 * 2 ^ length ds ≤ (m * base + digit_value d) * 2 ^ length ds = mul-le-mul_right (2 ^ length ds) twice in
    let whole : m * 2 ^ suc (length ds) ≡ m * 2 * 2 ^ length ds = ap (λ i. m * i) (pow-succ' 2 (length ds)) ∙ sym (mul_assoc m 2 (2 ^ length ds)) in
    omega arith

-- fewer than 64 digits stand behind one that is not 0, where their value is below 2^64
few : (base m : ℕ) (ds : List ℕ) → 2 ≤ base → 0 < m → digits_value_after base m ds < 2 ^ 64 → length ds < 64
few base m ds low some small = go (nat_lt (length ds) 64) refl
  where
    go : (b : Bool) → nat_lt (length ds) 64 ≡ b → length ds < 64
    go true e = grind (arith, nat_tests)
    go false e =
        let long : 64 ≤ length ds = grind (arith, nat_tests) in
        let large : 2 ^ 64 ≤ 2 ^ length ds = pow_mono long in
        let least : 1 * 2 ^ length ds ≤ m * 2 ^ length ds = mul-le-mul_right (2 ^ length ds) some in
        let more = larger base m ds low in
        absurd (omega arith)

module _ (base : ℕ) (are : IsDigits base (is_digit_in base)) (low : 2 ≤ base) where
  -- digits that stand behind a number are written again behind it
  onto_after : (k m : ℕ) (ds behind : List ℕ) → 0 < m → Each (is_digit_in base) ds
      → digits_onto (length ds + k) base false (digits_value_after base m ds) behind ≡ digits_onto k base false m (ds ++ behind)
  onto_after k m [] behind some each = ap (λ i. digits_onto i base false m behind) {x = 0 + k} {y = k} (omega arith)
  onto_after k m (d ∷ ds) behind some each =
      let one = are.0 d each.0 in
      let positive : 0 < m * base + digit_value d = let wide : 1 * base ≤ m * base = mul-le-mul_right base some in omega arith in
      ap (λ i. digits_onto i base false (digits_value_after base (m * base + digit_value d) ds) behind) {x = suc (length ds) + k} {y = length ds + suc k} (omega arith)
      ∙ (onto_after (suc k) (m * base + digit_value d) ds behind positive each.1
      ∙ (onto_step k base m (digit_value d) (ds ++ behind) some one.0
      ∙ ap (λ c. digits_onto k base false m (c ∷ (ds ++ behind))) one.1))

  -- the digits of a number that is not 0 begin with another digit than 0
  abbrev BeginsWell : List ℕ → Type 0
  BeginsWell [] = ⊥
  BeginsWell (c ∷ cs) = eqb c 48 ≡ false

  no_zero : (d : ℕ) → 0 < d → d < base → eqb (digit_glyph false d) 48 ≡ false
  no_zero d some small = grind (arith, nat_tests)

  begins : (k n : ℕ) (behind : List ℕ) → 0 < n → n < base ^ k → BeginsWell (digits_onto k base false n behind)
  begins zero n behind some small = absurd (omega (arith, pow-zero base))
  begins (suc k) n behind some small = go (n / base == 0) refl (begins k (n / base) (digit_glyph false (n % base) ∷ behind))
    where
      go : (b : Bool) → (n / base == 0) ≡ b → (0 < n / base → n / base < base ^ k → BeginsWell (digits_onto k base false (n / base) (digit_glyph false (n % base) ∷ behind)))
          → BeginsWell (cond b (digit_glyph false (n % base) ∷ behind) (digits_onto k base false (n / base) (digit_glyph false (n % base) ∷ behind)))
      go true e more =
          let none : n / base < 1 = grind (arith, nat_tests) in
          let positive : 0 < base = omega arith in
          let small2 : n < base = omega (arith, (div-lt_iff_lt-mul {x = n} {y = 1} positive).0 none) in
          let end : n % base ≡ n = mod-eq_of_lt small2 in
          rw end (no_zero n some small2)
      go false e more =
          let positive : 0 < n / base = grind (arith, nat_tests) in
          let base_positive : 0 < base = omega arith in
          let within : n < base ^ k * base = omega (arith, pow-suc base k) in
          more positive ((div-lt_iff_lt-mul {x = n} {y = base ^ k} base_positive).1 within)

  -- each glyph that is written is a digit of the base
  glyphs : (k n : ℕ) (behind : List ℕ) → Each (is_digit_in base) behind → Each (is_digit_in base) (digits_onto k base false n behind)
  glyphs zero n behind each = each
  glyphs (suc k) n behind each =
      go (n / base == 0) (glyphs k (n / base) (digit_glyph false (n % base) ∷ behind) here)
    where
      here : Each (is_digit_in base) (digit_glyph false (n % base) ∷ behind)
      here = let small : n % base < base = omega arith in (are.1 (n % base) small, each)

      go : (b : Bool) → Each (is_digit_in base) (digits_onto k base false (n / base) (digit_glyph false (n % base) ∷ behind))
          → Each (is_digit_in base) (cond b (digit_glyph false (n % base) ∷ behind) (digits_onto k base false (n / base) (digit_glyph false (n % base) ∷ behind)))
      go true more = here
      go false more = more

  -- digits that begin well have the form
  well_formed : (ds : List ℕ) → Each (is_digit_in base) ds → BeginsWell ds → are_digits base ds ≡ true
  well_formed [] each begins = absurd begins
  well_formed (c ∷ []) each begins = each.0
  well_formed (c ∷ d ∷ ds) each begins = rw (begins, all_pass (is_digit_in base) (c ∷ d ∷ ds) each) refl

  -- what is written of a number has the form
  written : (n : ℕ) → n < base ^ 64 → are_digits base (digits base false n) ≡ true
  unfolding digits
  written zero small =
      let zeros : 0 / base ≡ 0 = div-eq_of_lt (omega arith) in
      let end : 0 % base ≡ 0 = mod-eq_of_lt (omega arith) in
      rw (zeros, end) (are.1 0 (omega arith))
  written (suc n) small = well_formed (digits_onto 64 base false (suc n) []) (glyphs 64 (suc n) [] tt) (begins 64 (suc n) [] (omega arith) small)

  not_true : (b : Bool) → not b ≡ true → b ≡ false
  not_true true h = cc
  not_true false h = refl

  -- a digit that is not 0 has a value that is not 0
  some_value : (c : ℕ) → is_digit_in base c ≡ true → eqb c 48 ≡ false → 0 < digit_value c
  some_value c is other = grind (arith, nat_tests, are.0 c is)

  -- digits without leading zeros are written of their value
  written_again : (ds : List ℕ) → are_digits base ds ≡ true → digits_value base ds < 2 ^ 64 → digits base false (digits_value base ds) ≡ ds
  unfolding digits
  written_again [] good small = cc
  written_again (c ∷ []) good small =
      let one = are.0 c good in
      let value : 0 * base + digit_value c ≡ digit_value c = omega arith in
      rw value (onto_last 63 base (digit_value c) [] one.0 ∙ ap (λ x. x ∷ []) one.1)
  written_again (c ∷ d ∷ ds) good small =
      let both = both_pass (not (eqb c 48)) (list_all (is_digit_in base) (c ∷ d ∷ ds)) good in
      let each : Each (is_digit_in base) (c ∷ d ∷ ds) = each_passes (is_digit_in base) (c ∷ d ∷ ds) both.1 in
      let one = are.0 c each.0 in
      let some : 0 < digit_value c = some_value c each.0 (not_true (eqb c 48) both.0) in
      let value : 0 * base + digit_value c ≡ digit_value c = omega arith in
      let small2 : digits_value_after base (digit_value c) (d ∷ ds) < 2 ^ 64 = rw value at small in
      let short : length (d ∷ ds) < 64 = few base (digit_value c) (d ∷ ds) low some small2 in
      let fuel : 64 ≡ length (d ∷ ds) + suc (63 - length (d ∷ ds)) = omega arith in
      rw value
      (ap (λ k. digits_onto k base false (digits_value_after base (digit_value c) (d ∷ ds)) []) fuel
      ∙ (onto_after (suc (63 - length (d ∷ ds))) (digit_value c) (d ∷ ds) [] some each.1
      ∙ (onto_last (63 - length (d ∷ ds)) base (digit_value c) ((d ∷ ds) ++ []) one.0
      ∙ (λ i. one.1 i ∷ append-nil (d ∷ ds) i))))

  -- the number of its spelling
  pub number_found : base ≤ 16 → (n : ℕ) → n < base ^ 64 → n < 2 ^ 64 → number_in base (digits base false n) ≡ Some n
  unfolding number_in
  number_found high n wide small =
      let value : digits_value base (digits base false n) ≡ n = (digits_is_IsNumeral base false low high n wide).1 in
      let fits : nat_lt n (2 ^ 64) ≡ true = grind (arith, nat_tests) in
      rw (value, written n wide, fits) refl

  -- what spells a number is its spelling
  pub number_spelled : (ds : List ℕ) (n : ℕ) → number_in base ds ≡ Some n → (n < 2 ^ 64) × (digits base false n ≡ ds)
  unfolding number_in
  number_spelled ds n h = go (are_digits base ds) (nat_lt (digits_value base ds) (2 ^ 64)) refl refl h
    where
      go : (a b : Bool) → are_digits base ds ≡ a → nat_lt (digits_value base ds) (2 ^ 64) ≡ b → cond (a && b) (Some (digits_value base ds)) None ≡ Some n
          → (n < 2 ^ 64) × (digits base false n ≡ ds)
      go true true good fits k =
          let small : digits_value base ds < 2 ^ 64 = grind (arith, nat_tests) in
          let is : digits_value base ds ≡ n = cc in
          (omega arith, ap (λ m. digits base false m) (sym is) ∙ written_again ds good small)
      go true false good fits k = cc
      go false b good fits k = cc
