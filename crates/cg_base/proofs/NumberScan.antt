-- One step of the scan of digits.
use Rattle.std.proofs.Common.{◌≡◌, ℕ, ◌+◌, ◌*◌, ◌<◌, ◌⊎◌, inl, inr, Bool, true, false, List, ◌∷◌, None, nat_lt, nat_eq, arith}
use Rattle.std.proofs.lemmas.Bool.{le-ltb}
use Rattle.std.proofs.lemmas.Bool.Decides.{nat_tests}
use Rattle.std.specs.Char.{digit_value}
use Rattle.cg_base.specs.Number.Scan.{digits_from}

module _ (base c : ℕ) (s : List ℕ) where
  -- a digit
  pub digits_from-digit : (ready : Bool) (n : ℕ) → digit_value c < base → digits_from base ready n (c ∷ s) ≡ digits_from base true (n * base + digit_value c) s
  unfolding digits_from
  digits_from-digit ready n digit = let test : nat_lt (digit_value c) base ≡ true = grind (arith, nat_tests) in rw test

  -- a single `_` behind a digit
  pub digits_from-underscore : (n : ℕ) → (digit_value c < base → ⊥) → c ≡ 95 → digits_from base true n (c ∷ s) ≡ digits_from base false n s
  unfolding digits_from
  digits_from-underscore n other is =
      let test : nat_lt (digit_value c) base ≡ false = le-ltb (digit_value c) base (omega (arith, other)) in
      let same : nat_eq c 95 ≡ true = grind (arith, nat_tests) in
      rw (test, same)

  -- any other character
  pub digits_from-other : (ready : Bool) (n : ℕ) → (digit_value c < base → ⊥) → ((c ≡ 95) × (ready ≡ false)) ⊎ (c ≡ 95 → ⊥) → digits_from base ready n (c ∷ s) ≡ None
  unfolding digits_from
  digits_from-other ready n other (inl is) =
      let test : nat_lt (digit_value c) base ≡ false = le-ltb (digit_value c) base (omega (arith, other)) in
      let same : nat_eq c 95 ≡ true = grind (arith, nat_tests) in
      rw (test, same, is.1)
  digits_from-other ready n other (inr is) =
      let test : nat_lt (digit_value c) base ≡ false = le-ltb (digit_value c) base (omega (arith, other)) in
      let differs : nat_eq c 95 ≡ false = grind (arith, nat_tests) in
      rw (test, differs)
