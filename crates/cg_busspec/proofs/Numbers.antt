-- Lists of bits as numbers, and addresses in ranges.
use Rattle.std.proofs.Common.{◌≡◌, ℕ, zero, suc, ◌+◌, ◌*◌, ◌/◌, ◌%◌, ◌<◌, ◌≤◌, ◌^◌, eqb, leb, ltb, Bool, true, false, cond, ◌&&◌, [], ◌∷◌, length, refl, ap, arith, pow-suc}
use Rattle.std.proofs.lemmas.Bool.Decides.{nat_tests}
use Rattle.std.proofs.lemmas.Bool.{eqb-true, eq-eqb}
use Rattle.std.proofs.Math.Nat.{mul_comm, div-eq_of_lt-le, div-add-mod}
use Rattle.std.specs.Cmp.{both_ways}
use Rattle.std.proofs.lemmas.Nat.{pow_pos}
use Rattle.cg_svspec.specs.Bits.{Bits, bits}
use Rattle.cg_svspec.specs.Links.{number}
use Rattle.cg_busspec.specs.CrossbarModule.{halvings}

-- a number's bits stand for it
pub number-bits : (w n : ℕ) → n < 2 ^ w → number (bits w n) ≡ n
unfolding bits
number-bits zero n h = omega arith
number-bits (suc w) n h =
    let half : n / 2 < 2 ^ w = omega (arith, pow-suc 2 w) in
    rw (number-bits w (n / 2) half) (by (eqb (n % 2) 1) refl) where
      by : (b : Bool) → eqb (n % 2) 1 ≡ b → cond b 1 0 + 2 * (n / 2) ≡ n
      by true e = let odd : n % 2 ≡ 1 = eqb-true _ _ e in omega (arith, odd)
      by false e = grind (arith, nat_tests)

-- and a list is that of its number
low_bit : (b : Bool) (n : ℕ) → eqb ((cond b 1 0 + 2 * n) % 2) 1 ≡ b
low_bit true n = eq-eqb _ _ (omega arith)
low_bit false n = grind (arith, nat_tests)

-- and its half
high_bits : (b : Bool) (n : ℕ) → (cond b 1 0 + 2 * n) / 2 ≡ n
high_bits true n = omega arith
high_bits false n = omega arith

-- the list of its number
pub bits-number : (xs : Bits) → bits (length xs) (number xs) ≡ xs
unfolding bits
bits-number [] = refl
bits-number (b ∷ bs) = rw (low_bit b (number bs), high_bits b (number bs), bits-number bs) refl

-- a number of that many bits
pub number_small : (xs : Bits) → number xs < 2 ^ length xs
number_small [] = omega arith
number_small (true ∷ bs) = omega (arith, number_small bs, pow-suc 2 (length bs))
number_small (false ∷ bs) = omega (arith, number_small bs, pow-suc 2 (length bs))

-- how often a power of two is halved
one_or_more : (k : ℕ) → leb (2 ^ suc k) 1 ≡ false
one_or_more k = let some : 0 < 2 ^ k = pow_pos k in let twice : 2 ^ suc k ≡ 2 ^ k + 2 ^ k = omega (arith, pow-suc 2 k) in grind (arith, nat_tests)

-- as often as its power
pub halvings-power : (fuel k : ℕ) → k ≤ fuel → halvings fuel (2 ^ k) ≡ k
halvings-power zero k h = omega arith
halvings-power (suc fuel) zero h = refl
halvings-power (suc fuel) (suc k) h =
    let half : 2 ^ suc k / 2 ≡ 2 ^ k = omega (arith, pow-suc 2 k) in
    rw (one_or_more k, half, halvings-power fuel k (omega arith)) refl

-- a part of p addresses at a multiple of p
pub block_holds : (p a t : ℕ) → 0 < p → eqb (a / p) t ≡ (leb (p * t) a && ltb a (p * t + p))
block_holds p a t some = both_ways _ _
    (λ e. let same : a / p ≡ t = eqb-true _ _ e in
    let whole : p * (a / p) + a % p ≡ a = div-add-mod a p in
    let again : p * (a / p) ≡ p * t = ap (λ z. p * z) same in
    let rest : a % p < p = omega arith in
    let low : p * t ≤ a = omega arith in
    let up : a < p * t + p = omega arith in
    grind (arith, nat_tests))
    (λ e. let low : p * t ≤ a = grind (arith, nat_tests) in
    let up : a < p * t + p = grind (arith, nat_tests) in
    let under : t * p ≤ a = omega (arith, mul_comm t p) in
    let over : a < (t + 1) * p = omega (arith, mul_comm t p) in
    eq-eqb _ _ (div-eq_of_lt-le p under over))
