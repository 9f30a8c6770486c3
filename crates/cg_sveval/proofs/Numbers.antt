-- The number of a list of bits.
use Rattle.std.proofs.Common.{◌≡◌, ℕ, zero, suc, ◌+◌, ◌*◌, ◌^◌, ◌<◌, ◌≤◌, ◌/◌, ◌%◌, true, false, [], ◌∷◌, length, refl, arith, pow-suc}
use Rattle.cg_svspec.specs.Bits.{Bits, bits}
use Rattle.cg_sveval.specs.Numbers.{number_of}

twice : (x n m : ℕ) → x < 2 → n < 2 ^ m → x + 2 * n < 2 ^ suc m
twice x n m a b = let two : 2 ^ suc m ≡ 2 ^ m * 2 = pow-suc 2 m in omega (arith, two, a, b)

-- it is below 2 to the power of the length
pub number_below : (k : ℕ) (xs : Bits) → length xs ≤ k → number_of k xs < 2 ^ length xs
number_below zero [] few = omega arith
number_below zero (x ∷ xs) few = absurd (omega arith)
number_below (suc k) [] few = omega arith
number_below (suc k) (true ∷ xs) few = twice 1 (number_of k xs) (length xs) (omega arith) (number_below k xs (omega arith))
number_below (suc k) (false ∷ xs) few = twice 0 (number_of k xs) (length xs) (omega arith) (number_below k xs (omega arith))

-- its bits are those of the list
pub bits_of_number : (k : ℕ) (xs : Bits) → length xs ≤ k → bits (length xs) (number_of k xs) ≡ xs
unfolding bits
bits_of_number zero [] few = refl
bits_of_number zero (x ∷ xs) few = absurd (omega arith)
bits_of_number (suc k) [] few = refl
bits_of_number (suc k) (true ∷ xs) few =
    let low : (1 + 2 * number_of k xs) % 2 ≡ 1 = omega arith in
    let half : (1 + 2 * number_of k xs) / 2 ≡ number_of k xs = omega arith in
    rw (low, half, bits_of_number k xs (omega arith)) refl
bits_of_number (suc k) (false ∷ xs) few =
    let low : (0 + 2 * number_of k xs) % 2 ≡ 0 = omega arith in
    let half : (0 + 2 * number_of k xs) / 2 ≡ number_of k xs = omega arith in
    rw (low, half, bits_of_number k xs (omega arith)) refl
