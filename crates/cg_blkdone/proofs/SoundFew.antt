-- Fields that share no bit are at most 32.
use Rattle.std.proofs.Common.{◌≡◌, ℕ, suc, ◌+◌, ◌≤◌, Bool, true, false, cond, is_some, nat_lt, length, List, [], ◌∷◌, map, Option, Some, None, arith, refl, ap, ◌∙◌}
use Rattle.std.proofs.lemmas.List.{length-map}
use Rattle.cg_svspec.specs.Printable.{AllOf}
use Rattle.cg_desc.specs.Laid.{FieldsFit}
use Rattle.cg_desc.specs.declared.block.FieldDesc.{FieldDesc}
use Rattle.cg_finding.specs.Finding.{each_after}
use Rattle.cg_blkread.specs.Described.{field_desc, in_bit_order, put_field}
use Rattle.cg_blkread.specs.Values.{overlap}
use Rattle.cg_blkread.specs.declared.raw.Bits.{Bits}
use Rattle.cg_blkread.specs.declared.raw.RawField.{RawField}
use Rattle.cg_blkread.proofs.Sound.Fields.{order_fits}
use Rattle.cg_blkread.proofs.Sound.RawFields.{IsSound, all_apart, all_fit, none_overlaps}
use Rattle.cg_blkdone.proofs.Bits.{AreBitsIf}
use Rattle.cg_blkdone.proofs.SoundNone.{none_is_empty}
use Rattle.cg_blkdone.proofs.SoundValues.{are_apart, bare, none_overlap, raw_bits}

-- ---- how many fit

fit_length : (from : ℕ) (fs : List FieldDesc) → from ≤ 32 → FieldsFit from fs → from + length fs ≤ 32
fit_length from [] low fit = omega (arith, low)
fit_length from (f ∷ fs) low fit =
    let within : suc f.msb ≤ 32 = fit.3 in
    let rest : suc f.msb + length fs ≤ 32 = fit_length (suc f.msb) fs within fit.5 in
    let begins : from ≤ f.lsb = fit.1 in
    let ordered : f.lsb ≤ f.msb = fit.2 in
    omega (arith, rest, begins, ordered)

put_length : (f : FieldDesc) (fs : List FieldDesc) → length (put_field f fs) ≡ suc (length fs)
unfolding put_field
put_length f [] = refl
put_length f (g ∷ gs) = by (nat_lt f.lsb g.lsb) (put_length f gs) where
  by : (b : Bool) → length (put_field f gs) ≡ suc (length gs) → length (cond b (f ∷ g ∷ gs) (g ∷ put_field f gs)) ≡ suc (suc (length gs))
  by true later = refl
  by false later = ap suc later

order_length : (fs : List FieldDesc) → length (in_bit_order fs) ≡ length fs
unfolding in_bit_order
order_length [] = refl
order_length (f ∷ fs) = put_length f (in_bit_order fs) ∙ ap suc (order_length fs)

-- ---- fields of these bits

-- bits of a register, each of them there
abbrev pub AllBits : List (Option Bits) → Type 0
AllBits [] = Unit {0}
AllBits (b ∷ bs) = (is_some b ≡ true) × AreBitsIf b × AllBits bs

bare_sound : (b : Option Bits) → is_some b ≡ true → AreBitsIf b → IsSound (bare b)
bare_sound None h are = absurd cc
bare_sound (Some b) h are = record { name = (refl, tt); bits = (are.0, omega (arith, are.1)); resval = refl }

all_sound : (bs : List (Option Bits)) → AllBits bs → AllOf IsSound (map bare bs)
all_sound [] all = tt
all_sound (b ∷ bs) all = (bare_sound b all.0 all.1, all_sound bs all.2)

bits_of_bare : (bs : List (Option Bits)) → raw_bits (map bare bs) ≡ bs
bits_of_bare [] = refl
bits_of_bare (b ∷ bs) = ap (λ cs. b ∷ cs) (bits_of_bare bs)

-- bits that share none with each other are at most 32
pub few_bits : (bs : List (Option Bits)) → AllBits bs → are_apart [] bs ≡ true → length bs ≤ 32
few_bits bs all apart =
    let fs : List RawField = map bare bs in
    let none : each_after overlap [] fs ≡ [] = none_is_empty (each_after overlap [] fs) (none_overlap [] fs ∙ ap (are_apart []) (bits_of_bare bs) ∙ apart) in
    let sound : AllOf IsSound fs = all_sound bs all in
    let ds : List FieldDesc = map (field_desc None) fs in
    let fit : FieldsFit 0 (in_bit_order ds) = order_fits ds (all_fit None fs sound) (all_apart None fs sound (none_overlaps [] fs none).1) in
    let many : length (in_bit_order ds) ≡ length bs = order_length ds ∙ length-map fs (field_desc None) ∙ length-map bs bare in
    omega (arith, fit_length 0 (in_bit_order ds) (omega arith) fit, many)
