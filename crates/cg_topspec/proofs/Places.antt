-- What the address map says of the address of a request, by the device that the request comes to.
use Rattle.std.proofs.Common.{ap, arith, pow-suc, refl, suc, sym, zero, ℕ, ◌%◌, ◌*◌, ◌+◌, ◌-◌, ◌/◌, ◌<◌, ◌^◌, ◌∙◌, ◌≡◌, ◌≤◌}
use Rattle.std.proofs.Math.Nat.{div-add-mod, div-eq_of_lt-le, mod-eq-sub-mul-div, mul_assoc, mul_comm}
use Rattle.std.proofs.lemmas.Nat.{pow_pos}
use Rattle.cg_desc.specs.Ranges.{IsRange, RangeHolds}
use Rattle.cg_desc.specs.Target.{aligned}
use Rattle.cg_desc.specs.declared.crossbar.Range.{Range}

-- ---- numbers

quarter : (a : ℕ) → (k : ℕ) × (k < 4) × (a ≡ aligned a + k)
quarter a = (a % 4, omega arith, sym (div-add-mod a 4))

aligned_back : (a b : ℕ) → 4 * b ≤ a → aligned (a - 4 * b) ≡ aligned a - 4 * b
aligned_back a b low =
    let q = quarter a in
    let low_words : (a / 4 - b) * 4 ≤ a - 4 * b = omega (arith, q.1, q.2, low) in
    let high_words : a - 4 * b < (a / 4 - b + 1) * 4 = omega (arith, q.1, q.2, low) in
    let less : (a - 4 * b) / 4 ≡ a / 4 - b = div-eq_of_lt-le 4 low_words high_words in
    rw less (omega (arith, q.1, q.2, low))

-- an address above a multiple of the size
low_part : (a size t : ℕ) → 0 < size → size * t ≤ a → a < size * t + size → a % size ≡ a - size * t
low_part a size t some low high =
    let next : (t + 1) * size ≡ size * t + size = omega (arith, mul_comm t size) in
    let low_turn : t * size ≤ a = omega (arith, mul_comm t size, low) in
    let high_turn : a < (t + 1) * size = omega (arith, next, high) in
    let turn : a / size ≡ t = div-eq_of_lt-le size low_turn high_turn in
    mod-eq-sub-mul-div a size ∙ rw turn refl

fours : (p : ℕ) → 2 ≤ p → (k : ℕ) × (2 ^ p ≡ 4 * k)
fours zero h = absurd (omega (arith, h))
fours (suc zero) h = absurd (omega (arith, h))
fours (suc (suc q)) h = (2 ^ q, omega (arith, pow-suc 2 (suc q), pow-suc 2 q))

-- a range of good shape is one of whole words
record IsOfWords (r : Range) : Type 0 where
  first : ℕ
  words : ℕ
  base_is : r.base ≡ 4 * first
  size_is : r.size ≡ 4 * words

of_words : (r : Range) → IsRange r → IsOfWords r
of_words r good =
    let k = fours good.power good.some in
    record {
      first = k.0 * good.turn;
      words = k.0;
      base_is = good.aligned ∙ (ap (λ z. z * good.turn) k.1 ∙ mul_assoc 4 k.0 good.turn);
      size_is = good.size_is ∙ k.1;
    }

pub holds_aligned : (r : Range) (a : ℕ) → IsRange r → RangeHolds r a → RangeHolds r (aligned a)
holds_aligned r a good h =
    let w = of_words r good in
    let q = quarter a in
    (omega (arith, h.0, w.base_is, q.1, q.2), omega (arith, h.1, w.base_is, w.size_is, q.1, q.2))

pub holds_unaligned : (r : Range) (a : ℕ) → IsRange r → RangeHolds r (aligned a) → RangeHolds r a
holds_unaligned r a good h =
    let w = of_words r good in
    let q = quarter a in
    (omega (arith, h.0, q.2), omega (arith, h.1, w.base_is, w.size_is, q.1, q.2))

-- the address in an interface that begins at the base
pub record IsLow (base size a : ℕ) : Type 0 where
  pub low : ℕ
  pub is : a % size ≡ low
  pub aligned_is : aligned low ≡ aligned a - base
  pub above : base ≤ aligned a

pub is_low : (r : Range) (a : ℕ) → IsRange r → RangeHolds r a → IsLow r.base r.size a
is_low r a good h =
    let w = of_words r good in
    let q = quarter a in
    let some : 0 < r.size = let power : 0 < 2 ^ good.power = pow_pos good.power in omega (arith, power, good.size_is) in
    let base : r.base ≡ r.size * good.turn = good.aligned ∙ ap (λ z. z * good.turn) (sym good.size_is) in
    let part : a % r.size ≡ a - r.size * good.turn = low_part a r.size good.turn some (omega (arith, h.0, base)) (omega (arith, h.1, base)) in
    let down : a % r.size ≡ a - 4 * w.first = omega (arith, part, base, w.base_is) in
    let up : 4 * w.first ≤ a = omega (arith, h.0, w.base_is) in
    record {
      low = a - 4 * w.first;
      is = down;
      aligned_is = aligned_back a w.first up ∙ ap (λ z. aligned a - z) (sym w.base_is);
      above = (holds_aligned r a good h).0;
    }
