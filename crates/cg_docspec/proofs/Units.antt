-- The digits of escapes.
use Rattle.std.proofs.Common.{◌≡◌, ℕ, ◌+◌, ◌<◌, List, [], ◌∷◌, ◌++◌, Option, Some, None, refl, arith, length, true, false, Bool, ap, ◌∙◌, sym, length-append}
use Rattle.std.specs.Prelude.{◌-◌, ◌*◌, ◌&&◌, nat_le, encode_utf8}
use Rattle.std.specs.Char.{len_utf8}
use Rattle.std.proofs.lemmas.Bool.Decides.{nat_tests}
use Rattle.std.proofs.lemmas.Str.{length-encode, len_utf8_bounds}
use Rattle.cg_docspec.specs.Quoted.{hex, hex_value, with_digit}
use Rattle.cg_docspec.specs.Lines.{is_nil}

-- a character has bytes
pub char_not_nil : (u : List ℕ) (c : ℕ) → is_nil (u ++ encode_utf8 c) ≡ false
char_not_nil (d ∷ u) c = refl
char_not_nil [] c = go (encode_utf8 c) (length-encode c)
  where
    go : (x : List ℕ) → length x ≡ len_utf8 c → is_nil x ≡ false
    go (d ∷ x) e = refl
    go [] e = absurd (omega (arith, e, len_utf8_bounds c))

-- one digit more
pub digits_append : (o : Option ℕ) (x : List ℕ) (w c d : ℕ) → hex_value o x ≡ Some w → hex c ≡ Some d → hex_value o (x ++ c ∷ []) ≡ Some (w * 16 + d)
digits_append None [] w c d e f = cc
digits_append None (y ∷ x) w c d e f = cc
digits_append (Some v) [] w c d e f = let g : v ≡ w = cc in ap (λ (o : Option ℕ). hex_value (with_digit v o) []) f ∙ ap (λ (y : ℕ). Some (y * 16 + d)) g
digits_append (Some v) (y ∷ x) w c d e f = digits_append (with_digit v (hex y)) x w c d e f

-- a digit is below 16
pub hex_small : (c d : ℕ) → hex c ≡ Some d → d < 16
hex_small c d e = go (nat_le 48 c && nat_le c 57) (nat_le 97 c && nat_le c 102) (nat_le 65 c && nat_le c 70) refl refl refl
  where
    go : (x y z : Bool) → (nat_le 48 c && nat_le c 57) ≡ x → (nat_le 97 c && nat_le c 102) ≡ y → (nat_le 65 c && nat_le c 70) ≡ z → d < 16
    go true y z a b f = let g : Some (c - 48) ≡ Some d = sym (rw a refl) ∙ e in let h : c - 48 ≡ d = cc in grind (arith, nat_tests)
    go false true z a b f = let g : Some (c - 87) ≡ Some d = sym (rw (a, b) refl) ∙ e in let h : c - 87 ≡ d = cc in grind (arith, nat_tests)
    go false false true a b f = let g : Some (c - 55) ≡ Some d = sym (rw (a, b, f) refl) ∙ e in let h : c - 55 ≡ d = cc in grind (arith, nat_tests)
    go false false false a b f = let g : None ≡ Some d = sym (rw (a, b, f) refl) ∙ e in cc

-- one character more
pub length_one : (x : List ℕ) (c n : ℕ) → length x ≡ n → length (x ++ c ∷ []) ≡ n + 1
length_one x c n e = length-append x (c ∷ []) ∙ omega (arith, e)
