-- The good shape of a range, by tests.
use Rattle.std.proofs.Common.{◌≡◌, ℕ, zero, suc, ◌+◌, ◌*◌, ◌/◌, ◌%◌, ◌^◌, ◌<◌, ◌≤◌, max, leb, true, inl, inr, sym, ◌∙◌, arith, pow-suc}
use Rattle.std.specs.Int.{IsPowerOfTwo}
use Rattle.std.proofs.lemmas.Bool.{cases_lt}
use Rattle.std.proofs.lemmas.Bool.Decides.{nat_tests}
use Rattle.std.proofs.lemmas.Nat.{div-add-mod'}
use Rattle.std.proofs.Math.Pow.{pow_mono}
use Rattle.cg_desc.specs.Ranges.{IsRange}
use Rattle.cg_desc.specs.declared.crossbar.Range.{Range}

half_least : (size p : ℕ) → 4 ≤ size → 2 * size ≤ p → ¬ (p / 2 < max 1 size)
half_least size p h twice less = omega (arith, h, twice, less)

-- the least power of two that is not below a power of two is that power
pub power_is_next : (size p j : ℕ) → 4 ≤ size → IsPowerOfTwo p → size ≤ p → p / 2 < max 1 size → size ≡ 2 ^ j → p ≡ size
power_is_next size p j h power low high e =
    elim (cases_lt j power.0) [
      | inl more ↦
          let step : 2 ^ suc j ≤ 2 ^ power.0 = pow_mono more in
          let double : 2 ^ suc j ≡ 2 ^ j * 2 = pow-suc 2 j in
          absurd (half_least size p h (omega (arith, step, double, power.1, e)) high)
      | inr most ↦
          let step : 2 ^ power.0 ≤ 2 ^ j = pow_mono most in
          omega (arith, step, power.1, e, low)
    ]

-- a power of two that is at least 4
pub some_power : (size j : ℕ) → size ≡ 2 ^ j → 4 ≤ size → 2 ≤ j
some_power size zero e h = absurd (omega (arith, e, h))
some_power size (suc zero) e h = absurd (omega (arith, e, h))
some_power size (suc (suc j)) e h = omega arith

pub four_at_least : (r : Range) → IsRange r → 4 ≤ r.size
four_at_least r range = let step : 2 ^ 2 ≤ 2 ^ range.power = pow_mono range.some in omega (arith, step, range.size_is)

pub range_of : (r : Range) (p : ℕ) → IsPowerOfTwo p → p ≡ r.size → 4 ≤ r.size → r.base % r.size ≡ 0 → leb (r.base + r.size) 4294967296 ≡ true → IsRange r
range_of r p power is some whole within =
    let size_is : r.size ≡ 2 ^ power.0 = sym is ∙ power.1 in
    record {
      power = power.0;
      size_is = size_is;
      some = some_power r.size power.0 size_is some;
      turn = r.base / r.size;
      aligned = rw (sym size_is) (turns (div-add-mod' r.base r.size));
      ends = grind (arith, nat_tests);
    } where
      turns : (r.base / r.size * r.size + r.base % r.size) ≡ r.base → r.base ≡ r.size * (r.base / r.size)
      turns e = omega (arith, e, whole)

pub ends_of : (r : Range) → IsRange r → leb (r.base + r.size) 4294967296 ≡ true
ends_of r range = let h : r.base + r.size ≤ 4294967296 = range.ends in grind (arith, nat_tests)
