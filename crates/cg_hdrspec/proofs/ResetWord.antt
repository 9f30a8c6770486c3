-- The word of the fields' reset values.
use Rattle.std.proofs.Common.{◌≡◌, ℕ, suc, ◌+◌, ◌-◌, ◌*◌, ◌/◌, ◌%◌, ◌<◌, ◌≤◌, ◌^◌, List, [], ◌∷◌, ap, subst, ◌∙◌, arith, pow-add, ◌⊎◌, inl, inr}
use Rattle.std.proofs.lemmas.Bool.{cases_lt}
use Rattle.std.proofs.lemmas.Nat.{pow_pos, div-mul-add, mod-mul-add}
use Rattle.std.proofs.Math.Pow.{pow_mono}
use Rattle.std.proofs.Math.Nat.{mul_comm, add_assoc, zero-add, mul-le-mul_right}
use Rattle.cg_desc.specs.BlockStep.{EachField}
use Rattle.cg_desc.specs.Laid.{FieldsFit}
use Rattle.cg_desc.specs.declared.block.FieldDesc.{FieldDesc}
use Rattle.cg_hdrspec.specs.BlockHeader.{reset_word}
use Rattle.cg_hdrspec.specs.Meaning.{bit, IsResetWord}
use Rattle.cg_hdrspec.proofs.FieldBits.{low_bit, high_bit}

-- the fields' word is a multiple of the power at which they begin
record Multiple (n s : ℕ) : Type 0 where
  times : ℕ
  is : n ≡ times * 2 ^ s

-- a sum of multiples, with the powers as plain numbers
regroup_plain : (r q a w d s aw : ℕ) → a ≡ s * d → aw ≡ a * w → r * a + q * aw ≡ ((r + q * w) * d) * s
regroup_plain r q a w d s aw is both = rw (both, is) (omega arith)

regroup : (r q a w d s : ℕ) → a ≡ s + d → r * 2 ^ a + q * 2 ^ (a + w) ≡ ((r + q * 2 ^ w) * 2 ^ d) * 2 ^ s
regroup r q a w d s is = regroup_plain r q (2 ^ a) (2 ^ w) (2 ^ d) (2 ^ s) (2 ^ (a + w)) (ap (λ z. 2 ^ z) is ∙ pow-add 2 s d) (pow-add 2 a w)

multiple : (from : ℕ) (fs : List FieldDesc) → FieldsFit from fs → Multiple (reset_word fs) from
unfolding reset_word
multiple from [] fit = record { times = 0; is = omega arith }
multiple from (f ∷ fs) fit =
    let later = multiple (suc f.msb) fs fit.5 in
    let same : suc f.msb ≡ f.lsb + (suc f.msb - f.lsb) = omega arith in
    record {
      times = (f.resval + later.times * 2 ^ (suc f.msb - f.lsb)) * 2 ^ (f.lsb - from);
      is = ap (λ z. f.resval * 2 ^ f.lsb + z) (later.is ∙ ap (λ z. later.times * 2 ^ z) same)
          ∙ regroup f.resval later.times f.lsb (suc f.msb - f.lsb) (f.lsb - from) from (omega arith);
    }

-- a field's reset value above lower bits has no bit above the field
above_low : (low r a w : ℕ) → low < 2 ^ a → r < 2 ^ w → low + r * 2 ^ a < 2 ^ (a + w)
above_low low r a w small fits =
    let more : (r + 1) * 2 ^ a ≤ 2 ^ w * 2 ^ a = mul-le-mul_right (2 ^ a) (omega arith) in
    let both : 2 ^ (a + w) ≡ 2 ^ w * 2 ^ a = pow-add 2 a w ∙ mul_comm (2 ^ a) (2 ^ w) in
    omega arith

-- the lower fields and this one end below the next
next_low : (low from : ℕ) (f : FieldDesc) → low < 2 ^ from → from ≤ f.lsb → f.lsb ≤ f.msb → f.resval < 2 ^ (suc f.msb - f.lsb) → low + f.resval * 2 ^ f.lsb < 2 ^ suc f.msb
next_low low from f small up order fits =
    let more : 2 ^ from ≤ 2 ^ f.lsb = pow_mono up in
    let same : f.lsb + (suc f.msb - f.lsb) ≡ suc f.msb = omega arith in
    subst (λ z. low + f.resval * 2 ^ f.lsb < 2 ^ z) same (above_low low f.resval f.lsb (suc f.msb - f.lsb) (omega arith) fits)

-- the word has 32 bits
word_small : (low from : ℕ) (fs : List FieldDesc) → low < 2 ^ from → from ≤ 32 → FieldsFit from fs → low + reset_word fs < 2 ^ 32
unfolding reset_word
word_small low from [] small few fit = let more : 2 ^ from ≤ 2 ^ 32 = pow_mono few in omega arith
word_small low from (f ∷ fs) small few fit =
    subst (λ z. z < 2 ^ 32) (add_assoc low (f.resval * 2 ^ f.lsb) (reset_word fs))
    (word_small (low + f.resval * 2 ^ f.lsb) (suc f.msb) fs (next_low low from f small fit.1 fit.2 fit.4) (omega arith) fit.5)

-- the field's bits of a word: lower bits, its value, and higher bits
field_bits : (low r q a w : ℕ) → low < 2 ^ a → r < 2 ^ w → ((low + (r * 2 ^ a + q * 2 ^ (a + w))) / 2 ^ a) % 2 ^ w ≡ r
field_bits low r q a w small fits =
    let shape : low + (r * 2 ^ a + q * 2 ^ (a + w)) ≡ (q * 2 ^ w + r) * 2 ^ a + low = shape_of (2 ^ a) (2 ^ w) (2 ^ (a + w)) (pow-add 2 a w) in
    ap (λ z. (z / 2 ^ a) % 2 ^ w) shape ∙ ap (λ z. z % 2 ^ w) (div-mul-add (q * 2 ^ w + r) (2 ^ a) low small) ∙ mod-mul-add q (2 ^ w) r fits where
      shape_of : (p o both : ℕ) → both ≡ p * o → low + (r * p + q * both) ≡ (q * o + r) * p + low
      shape_of p o both is = rw is (omega arith)

-- each field's bits of the word are its reset value
Shows : ℕ → FieldDesc → Type 0
Shows n f = (n / 2 ^ f.lsb) % 2 ^ (suc f.msb - f.lsb) ≡ f.resval

fields_show : (low from : ℕ) (fs : List FieldDesc) → low < 2 ^ from → FieldsFit from fs → EachField (λ f. ((low + reset_word fs) / 2 ^ f.lsb) % 2 ^ (suc f.msb - f.lsb) ≡ f.resval) fs
unfolding reset_word
fields_show low from [] small fit = tt
fields_show low from (f ∷ fs) small fit =
    let later = multiple (suc f.msb) fs fit.5 in
    let same : suc f.msb ≡ f.lsb + (suc f.msb - f.lsb) = omega arith in
    let more : 2 ^ from ≤ 2 ^ f.lsb = pow_mono (fit.1) in
    let here : ((low + (f.resval * 2 ^ f.lsb + reset_word fs)) / 2 ^ f.lsb) % 2 ^ (suc f.msb - f.lsb) ≡ f.resval =
    ap (λ z. ((low + (f.resval * 2 ^ f.lsb + z)) / 2 ^ f.lsb) % 2 ^ (suc f.msb - f.lsb)) (later.is ∙ ap (λ z. later.times * 2 ^ z) same)
    ∙ field_bits low f.resval later.times f.lsb (suc f.msb - f.lsb) (omega arith) fit.4 in (
      here,
      subst (λ z. EachField (λ g. (z / 2 ^ g.lsb) % 2 ^ (suc g.msb - g.lsb) ≡ g.resval) fs) (add_assoc low (f.resval * 2 ^ f.lsb) (reset_word fs))
          (fields_show (low + f.resval * 2 ^ f.lsb) (suc f.msb) fs (next_low low from f small fit.1 fit.2 fit.4) fit.5),
    )

-- a bit that is 0 below a field, and not the field's, is 0 above too
bit_outside : (low from i : ℕ) (f : FieldDesc) → low < 2 ^ from → from ≤ f.lsb → f.lsb ≤ f.msb → f.resval < 2 ^ (suc f.msb - f.lsb) → bit low i ≡ 0
    → ¬ ((f.lsb ≤ i) × (i ≤ f.msb)) → bit (low + f.resval * 2 ^ f.lsb) i ≡ 0
bit_outside low from i f small up order fits none outside = by (cases_lt i f.lsb) (cases_lt f.msb i) where
  by : (i < f.lsb) ⊎ (f.lsb ≤ i) → (f.msb < i) ⊎ (i ≤ f.msb) → bit (low + f.resval * 2 ^ f.lsb) i ≡ 0
  by (inl below) other = low_bit low f.resval f.lsb i below ∙ none
  by (inr above) (inr within) = absurd (outside (above, within))
  by (inr above) (inl past) =
      let next = next_low low from f small up order fits in
      let more : 2 ^ suc f.msb ≤ 2 ^ i = pow_mono past in
      high_bit (low + f.resval * 2 ^ f.lsb) i (omega arith)

-- a bit of no field is 0
others_zero : (low from i : ℕ) (fs : List FieldDesc) → low < 2 ^ from → FieldsFit from fs → bit low i ≡ 0 → EachField (λ f. ¬ ((f.lsb ≤ i) × (i ≤ f.msb))) fs
    → bit (low + reset_word fs) i ≡ 0
unfolding reset_word
others_zero low from i [] small fit none outside = let same : low + 0 ≡ low = omega arith in ap (λ z. bit z i) same ∙ none
others_zero low from i (f ∷ fs) small fit none outside =
    subst (λ z. bit z i ≡ 0) (add_assoc low (f.resval * 2 ^ f.lsb) (reset_word fs))
    (others_zero (low + f.resval * 2 ^ f.lsb) (suc f.msb) i fs (next_low low from f small fit.1 fit.2 fit.4) fit.5
    (bit_outside low from i f small fit.1 fit.2 fit.4 none outside.0) outside.1)

-- the fields' reset values, each at its bits, are the word of the register
pub reset_word_is : (fs : List FieldDesc) → FieldsFit 0 fs → IsResetWord (reset_word fs) fs
reset_word_is fs fit = record {
  small = subst (λ z. z < 2 ^ 32) (zero-add (reset_word fs)) (word_small 0 0 fs (omega arith) (omega arith) fit);
  each = subst (λ z. EachField (λ f. (z / 2 ^ f.lsb) % 2 ^ (suc f.msb - f.lsb) ≡ f.resval) fs) (zero-add (reset_word fs)) (fields_show 0 0 fs (omega arith) fit);
  others = λ i outside. subst (λ z. bit z i ≡ 0) (zero-add (reset_word fs)) (others_zero 0 0 i fs (omega arith) fit (high_bit 0 i (pow_pos i)) outside);
}
