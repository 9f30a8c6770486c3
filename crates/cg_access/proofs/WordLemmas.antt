-- Machine words against lists of bits.
use Rattle.std.proofs.Common.{◌≡◌, ℕ, zero, suc, ◌-◌, ◌/◌, ◌%◌, ◌<◌, ◌≤◌, ◌^◌, eqb, Bool, true, false, not, ◌&&◌, ◌||◌, [], ◌∷◌, map, length, refl, ap, sym, ◌∙◌, arith, pow-suc, bit_and, bit_or, cond}
use Rattle.std.specs.Int.{bit_not, w32}
use Rattle.std.specs.Int.Bits.{and_step, or_step}
use Rattle.std.proofs.lemmas.Bool.Decides.{nat_tests}
use Rattle.std.proofs.lemmas.Nat.{pow_pos}
use Rattle.std.proofs.Math.Nat.{pow-le-pow_right}
use Rattle.cg_svspec.specs.Bits.{Bits, bits, zipped, zeros, ones}

and_low : (a b : ℕ) → eqb (bit_and a b % 2) 1 ≡ (eqb (a % 2) 1 && eqb (b % 2) 1)
and_low a b = grind (arith, nat_tests, and_step a b)

and_half : (a b : ℕ) → bit_and a b / 2 ≡ bit_and (a / 2) (b / 2)
and_half a b = omega (arith, and_step a b)

or_low : (a b : ℕ) → eqb (bit_or a b % 2) 1 ≡ (eqb (a % 2) 1 || eqb (b % 2) 1)
or_low a b = grind (arith, nat_tests, or_step a b)

or_half : (a b : ℕ) → bit_or a b / 2 ≡ bit_or (a / 2) (b / 2)
or_half a b = omega (arith, or_step a b)

-- the bits of a machine's and
pub bits-and : (w a b : ℕ) → bits w (bit_and a b) ≡ zipped ◌&&◌ (bits w a) (bits w b)
unfolding bits
bits-and zero a b = refl
bits-and (suc w) a b = rw (and_low a b, and_half a b, bits-and w (a / 2) (b / 2)) refl

-- the bits of a machine's or
pub bits-or : (w a b : ℕ) → bits w (bit_or a b) ≡ zipped ◌||◌ (bits w a) (bits w b)
unfolding bits
bits-or zero a b = refl
bits-or (suc w) a b = rw (or_low a b, or_half a b, bits-or w (a / 2) (b / 2)) refl

-- the bits of 0
pub bits-zero : (w : ℕ) → bits w 0 ≡ zeros w
unfolding bits
bits-zero zero = refl
bits-zero (suc w) = ap (λ z. false ∷ z) (bits-zero w)

-- the bits of the largest number of this width
pub bits-ones : (w : ℕ) → bits w (2 ^ w - 1) ≡ ones w
unfolding bits
bits-ones zero = refl
bits-ones (suc w) =
    let half : (2 ^ suc w - 1) / 2 ≡ 2 ^ w - 1 = omega (arith, pow_pos w, pow-suc 2 w) in
    let low : (2 ^ suc w - 1) % 2 ≡ 1 = omega (arith, pow_pos w, pow-suc 2 w) in
    rw (half, low, bits-ones w) refl

-- a number's list has the width
pub length-bits : (w n : ℕ) → length (bits w n) ≡ w
unfolding bits
length-bits zero n = refl
length-bits (suc w) n = ap suc (length-bits w (n / 2))

-- the bits of a number's complement, in no more bits than it is taken in
bits-complement : (w m n : ℕ) → w ≤ m → n < 2 ^ m → bits w (2 ^ m - 1 - n) ≡ map not (bits w n)
unfolding bits
bits-complement zero m n within below = refl
bits-complement (suc w) zero n within below = absurd (omega arith)
bits-complement (suc w) (suc m) n within below =
    let half : (2 ^ suc m - 1 - n) / 2 ≡ 2 ^ m - 1 - n / 2 = omega (arith, pow_pos m, pow-suc 2 m) in
    let low : eqb ((2 ^ suc m - 1 - n) % 2) 1 ≡ not (eqb (n % 2) 1) = grind (arith, nat_tests, pow_pos m, pow-suc 2 m) in
    let rest : bits w (2 ^ m - 1 - n / 2) ≡ map not (bits w (n / 2)) = bits-complement w m (n / 2) (omega arith) (omega (arith, pow-suc 2 m)) in
    rw (half, low, rest) refl

-- ones leave a list's complement as it is
ones-and-not : (xs : Bits) → zipped ◌&&◌ (ones (length xs)) (map not xs) ≡ map not xs
ones-and-not [] = refl
ones-and-not (x ∷ xs) = ap (λ z. not x ∷ z) (ones-and-not xs)

-- the bits of a machine's complement, cut to the width
pub bits-not : (w n : ℕ) → w ≤ 32 → n < 2 ^ w → bits w (bit_and (2 ^ w - 1) (bit_not w32 n)) ≡ map not (bits w n)
bits-not w n within below =
    let small : n < 2 ^ 32 = omega (arith, below, pow-le-pow_right {n = 2} (omega arith) within) in
    let whole : ones w ≡ ones (length (bits w n)) = ap ones (sym (length-bits w n)) in
    bits-and w (2 ^ w - 1) (bit_not w32 n)
    ∙ (rw (bits-ones w, bits-complement w 32 n within small, whole) (ones-and-not (bits w n)))

-- the bits of one number or the other
pub bits-cond : (w : ℕ) (b : Bool) (x y : ℕ) → bits w (cond b x y) ≡ cond b (bits w x) (bits w y)
bits-cond w true x y = refl
bits-cond w false x y = refl

-- one number or the other is within a width
pub cond-below : (w : ℕ) (b : Bool) (x y : ℕ) → x < 2 ^ w → y < 2 ^ w → cond b x y < 2 ^ w
cond-below w true x y first second = first
cond-below w false x y first second = second

pub ruleset words = (bits-and, bits-or, bits-zero, bits-ones, length-bits, bits-cond, bits-not)
