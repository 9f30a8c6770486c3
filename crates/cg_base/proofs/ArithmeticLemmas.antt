-- Least multiples.
use Rattle.std.proofs.Common.{◌≡◌, ℕ, ◌+◌, ◌-◌, ◌*◌, ◌^◌, ◌<◌, ◌≤◌, ◌⊎◌, inl, inr, suc, arith, sym, refl, ap, subst, ◌∙◌}
use Rattle.std.specs.Int.{IsPowerOfTwo, div_ceil}
use Rattle.std.proofs.lemmas.Bool.{cases_lt}
use Rattle.std.proofs.lemmas.Grind.{div_ceil_times}
use Rattle.std.proofs.Math.Nat.{suc-mul}
use Rattle.std.proofs.lemmas.Nat.{pow-add, pow_below, mul-le}
use Rattle.cg_base.specs.Arithmetic.{IsLeastMultiple}

-- of two multiples, one that is less than a step above n is at most one that is not below n
least_near : (to n k j : ℕ) → k * to < n + to → n ≤ j * to → (j < k) ⊎ (k ≤ j) → k * to ≤ j * to
least_near to n k j near over (inl less) = let step : suc j * to ≤ k * to = mul-le (suc j) to k to (omega arith) (omega arith) in omega (arith, suc-mul j to)
least_near to n k j near over (inr more) = mul-le k to j to more (omega arith)

-- a multiple that is not below n, and less than one step above it, is the least one
pub IsLeastMultiple-near : (to n k : ℕ) → n ≤ k * to → k * to < n + to → IsLeastMultiple to n (k * to)
IsLeastMultiple-near to n k reaches near = record {
  multiple = (k, refl);
  reaches = reaches;
  least = λ j over. least_near to n k j near over (cases_lt j k);
}

-- there is one least multiple
pub IsLeastMultiple-unique : (to n a b : ℕ) → IsLeastMultiple to n a → IsLeastMultiple to n b → a ≡ b
IsLeastMultiple-unique to n a b p q =
    let up : a ≤ q.multiple.0 * to = p.least q.multiple.0 (omega (arith, q.multiple.1, q.reaches)) in
    let down : b ≤ p.multiple.0 * to = q.least p.multiple.0 (omega (arith, p.multiple.1, p.reaches)) in
    omega (arith, p.multiple.1, q.multiple.1)

-- the quotient that is rounded up gives it
pub IsLeastMultiple-div_ceil : (n to : ℕ) → 0 < to → IsLeastMultiple to n (div_ceil n to * to)
IsLeastMultiple-div_ceil n to positive =
    let bounds = div_ceil_times n to positive in IsLeastMultiple-near to n (div_ceil n to) bounds.0 bounds.1

-- a power of two up to 2^32 has an exponent up to 32
at_most_32 : (k : ℕ) → 2 ^ k ≤ 2 ^ 32 → (k < 33) ⊎ (33 ≤ k) → k ≤ 32
at_most_32 k within (inl less) = omega arith
at_most_32 k within (inr more) = absurd (omega (arith, pow_below 32 k (omega arith)))

-- and goes into 2^32 without rest
whole_of_32 : (k : ℕ) → k ≤ 32 → 2 ^ (32 - k) * 2 ^ k ≡ 2 ^ 32
whole_of_32 k h = let all : (32 - k) + k ≡ 32 = omega arith in sym (pow-add 2 (32 - k) k) ∙ ap (λ n. 2 ^ n) all

-- a power of two up to 2^32 divides it, so a least multiple passes it only where n does
pub IsLeastMultiple-within : (to n m : ℕ) → IsPowerOfTwo to → to ≤ 2 ^ 32 → n ≤ 2 ^ 32 → IsLeastMultiple to n m → m ≤ 2 ^ 32
IsLeastMultiple-within to n m (k, power) within below is =
    let small : k ≤ 32 = at_most_32 k (subst (λ t. t ≤ 2 ^ 32) power within) (cases_lt k 33) in
    let whole : 2 ^ (32 - k) * to ≡ 2 ^ 32 = ap (λ t. 2 ^ (32 - k) * t) power ∙ whole_of_32 k small in
    let reached : m ≤ 2 ^ (32 - k) * to = is.least (2 ^ (32 - k)) (omega (arith, whole)) in
    omega (arith, whole, reached)
