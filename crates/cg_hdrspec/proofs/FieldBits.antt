-- The bits of masks at their places.
use Rattle.std.proofs.Common.{◌≡◌, ℕ, zero, suc, ◌+◌, ◌-◌, ◌*◌, ◌/◌, ◌%◌, ◌<◌, ◌≤◌, ◌^◌, refl, ap, sym, ◌∙◌, arith, pow-suc, pow-add, ◌⊎◌, inl, inr}
use Rattle.std.proofs.lemmas.Bool.{cases_lt}
use Rattle.std.proofs.lemmas.Nat.{pow_pos}
use Rattle.std.proofs.Math.Pow.{pow_mono}
use Rattle.std.proofs.Math.Nat.{div-div-eq-div-mul, div-eq_of_lt, mul-div_cancel, mul_comm, mul_assoc, add-mul-div_right, pow-succ', zero-add}
use Rattle.cg_desc.specs.declared.block.FieldDesc.{FieldDesc}
use Rattle.cg_hdrspec.specs.BlockHeader.{mask}
use Rattle.cg_hdrspec.specs.Meaning.{bit, HasBitsOf}

-- twice a number is even
twice : (n : ℕ) → (n * 2) % 2 ≡ 0
twice n = omega arith

-- a power as the product of two, the second of which is even
split_even : (i d : ℕ) → 2 ^ (i + suc d) ≡ (2 ^ d * 2) * 2 ^ i
split_even i d = pow-add 2 i (suc d) ∙ mul_comm (2 ^ i) (2 ^ suc d) ∙ ap (λ z. z * 2 ^ i) (pow-suc 2 d)

-- what stands at bit s or above changes no lower bit
pub low_bit : (low r s i : ℕ) → i < s → bit (low + r * 2 ^ s) i ≡ bit low i
low_bit low r s i below =
    let d : ℕ = s - suc i in
    let same : s ≡ i + suc d = omega arith in
    let shape : r * 2 ^ s ≡ ((r * 2 ^ d) * 2) * 2 ^ i = ap (λ z. r * 2 ^ z) same ∙ ap (λ z. r * z) (split_even i d) ∙ sym (mul_assoc r (2 ^ d * 2) (2 ^ i)) ∙ ap (λ z. z * 2 ^ i) (sym (mul_assoc r (2 ^ d) 2)) in
    let cut : (low + r * 2 ^ s) / 2 ^ i ≡ low / 2 ^ i + (r * 2 ^ d) * 2 = ap (λ z. (low + z) / 2 ^ i) shape ∙ add-mul-div_right low ((r * 2 ^ d) * 2) (pow_pos i) in
    ap (λ z. z % 2) cut ∙ even (low / 2 ^ i) (r * 2 ^ d) where
      even : (a b : ℕ) → (a + b * 2) % 2 ≡ a % 2
      even a b = omega arith

-- a number of fewer bits has a 0 there
pub high_bit : (n i : ℕ) → n < 2 ^ i → bit n i ≡ 0
high_bit n i below = ap (λ z. z % 2) (div-eq_of_lt below)

-- the bits of a number that is shifted
shifted_bit : (n s d : ℕ) → bit (n * 2 ^ s) (s + d) ≡ bit n d
shifted_bit n s d =
    ap (λ z. z % 2) (ap (λ z. n * 2 ^ s / z) (pow-add 2 s d) ∙ sym (div-div-eq-div-mul (n * 2 ^ s) (2 ^ s) (2 ^ d)) ∙ ap (λ z. z / 2 ^ d) (mul-div_cancel n (pow_pos s)))

-- the ones of a width: 1 below the width
ones_bit : (w d : ℕ) → d < w → bit (2 ^ w - 1) d ≡ 1
ones_bit zero d below = absurd (omega arith)
ones_bit (suc w) zero below = first (2 ^ w) (pow-suc 2 w) where
  first : (p : ℕ) → 2 ^ suc w ≡ p * 2 → bit (2 ^ suc w - 1) 0 ≡ 1
  first p is = let some = pow_pos (suc w) in omega arith
ones_bit (suc w) (suc d) below =
    let half : (2 ^ suc w - 1) / 2 ≡ 2 ^ w - 1 = omega (arith, pow_pos w, pow-suc 2 w) in
    ap (λ z. z % 2) (ap (λ z. (2 ^ suc w - 1) / z) (pow-succ' 2 d) ∙ sym (div-div-eq-div-mul (2 ^ suc w - 1) 2 (2 ^ d)) ∙ ap (λ z. z / 2 ^ d) half)
    ∙ ones_bit w d (omega arith)

-- which ones of a width w at place s there are, for every place
record OnesAt (w s i : ℕ) : Type 0 where
  pub below : i < s → bit ((2 ^ w - 1) * 2 ^ s) i ≡ 0
  pub inside : s ≤ i → i < s + w → bit ((2 ^ w - 1) * 2 ^ s) i ≡ 1
  pub above : s + w ≤ i → bit ((2 ^ w - 1) * 2 ^ s) i ≡ 0

zero_bit : (i : ℕ) → bit 0 i ≡ 0
zero_bit i = high_bit 0 i (pow_pos i)

ones_at : (w s i : ℕ) → OnesAt w s i
ones_at w s i = record {
  below = λ h. ap (λ z. bit z i) (sym (zero-add ((2 ^ w - 1) * 2 ^ s))) ∙ low_bit 0 (2 ^ w - 1) s i h ∙ zero_bit i;
  inside = λ low up. moved (i - s) (omega arith) ∙ ones_bit w (i - s) (omega arith);
  above = λ high. moved (i - s) (omega arith) ∙ high_bit (2 ^ w - 1) (i - s) (few (i - s) (omega arith));
} where
  moved : (d : ℕ) → i ≡ s + d → bit ((2 ^ w - 1) * 2 ^ s) i ≡ bit (2 ^ w - 1) d
  moved d is = ap (λ z. bit ((2 ^ w - 1) * 2 ^ s) z) is ∙ shifted_bit (2 ^ w - 1) s d

  few : (d : ℕ) → w ≤ d → 2 ^ w - 1 < 2 ^ d
  few d up = let more : 2 ^ w ≤ 2 ^ d = pow_mono up in let some = pow_pos w in omega arith

-- where a bit that is 1 stands
place_of_one : (n i s w : ℕ) → (i < s → bit n i ≡ 0) → (s + w ≤ i → bit n i ≡ 0) → bit n i ≡ 1 → (s ≤ i) × (i < s + w)
place_of_one n i s w low high is = by (cases_lt i s) (cases_lt i (s + w)) where
  by : (i < s) ⊎ (s ≤ i) → (i < s + w) ⊎ (s + w ≤ i) → (s ≤ i) × (i < s + w)
  by (inl a) other = let none = low a in absurd (omega arith)
  by (inr a) (inl b) = (a, b)
  by (inr a) (inr b) = let none = high b in absurd (omega arith)

-- the ones of a field's width, at its lowest bit, are the field's bits
pub ones_are_bits : (f : FieldDesc) (w : ℕ) → f.lsb ≤ f.msb → w ≡ suc f.msb - f.lsb → HasBitsOf ((2 ^ w - 1) * 2 ^ f.lsb) f
ones_are_bits f w order is i =
    let at = ones_at w f.lsb i in
    ((λ one. let there = place_of_one ((2 ^ w - 1) * 2 ^ f.lsb) i f.lsb w at.below at.above one in (there.0, omega arith)), λ low up. at.inside low (omega arith))

-- so are a mask's, where it is shifted
pub mask_has_bits : (f : FieldDesc) → f.lsb ≤ f.msb → HasBitsOf (mask f * 2 ^ f.lsb) f
unfolding mask
mask_has_bits f order = ones_are_bits f (suc f.msb - f.lsb) order refl

-- and a single one, for a field of one bit
pub one_has_bit : (f : FieldDesc) → f.msb ≡ f.lsb → HasBitsOf (1 * 2 ^ f.lsb) f
one_has_bit f same = ones_are_bits f 1 (omega arith) (omega arith)
