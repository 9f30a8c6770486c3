-- Each constant of a header has a word as its name, and a value below 2^64.
use Rattle.std.proofs.Common.{ℕ, suc, ◌+◌, ◌-◌, ◌*◌, ◌<◌, ◌≤◌, ◌^◌, eqb, Bool, true, false, cond, List, [], ◌∷◌, refl, arith, codes}
use Rattle.std.specs.List.{flat_map}
use Rattle.std.proofs.Math.Pow.{pow_mono}
use Rattle.cg_svspec.specs.Characters.{IsWord}
use Rattle.cg_svspec.specs.Printable.{AllOf}
use Rattle.cg_desc.specs.Laid.{FieldsFit, RowFits, RowsFit, IsLaid}
use Rattle.cg_desc.specs.Valid.{IsNameIfAny}
use Rattle.cg_desc.specs.declared.block.FieldDesc.{FieldDesc}
use Rattle.cg_desc.specs.declared.block.Item.{Item}
use Rattle.cg_desc.specs.declared.block.Item.TheVariants.{Reg, Window, SkipTo, Reserved}
use Rattle.cg_desc.specs.declared.block.LaidRow.{LaidRow}
use Rattle.cg_desc.specs.declared.block.LaidFace.{LaidFace}
use Rattle.cg_desc.specs.declared.block.LaidBlock.{LaidBlock}
use Rattle.cg_hdrspec.specs.BlockHeader.{Definition, prefix_of, row_name, field_name, bit_of, mask_of, shift_of, mask, field_definitions, register_definitions, window_definitions, item_definitions, row_definitions, face_definitions, definitions, upper}
use Rattle.cg_hdrspec.specs.Laws.{IsNamed}
use Rattle.cg_hdrspec.proofs.NamesAreWords.{word_ends, upper_word, prefix_word, row_word, field_word}
use Rattle.cg_hdrspec.proofs.Lists.{all_join}
use Rattle.cg_hdrspec.proofs.ResetWord.{reset_word_is}

-- a word, and a value below 2^64
abbrev pub IsGood : Definition → Type 0
IsGood d = IsWord d.name × (d.value < 2 ^ 64)

-- a mask has at most 32 bits
mask_small : (f : FieldDesc) → f.msb < 32 → mask f < 2 ^ 64
unfolding mask
mask_small f few =
    let more : 2 ^ (suc f.msb - f.lsb) ≤ 2 ^ 32 = pow_mono {j = 32} (omega arith) in
    omega arith

good_field : (register : List ℕ) (f : FieldDesc) → IsWord register → IsWord f.name → f.lsb ≤ f.msb → f.msb < 32 → AllOf IsGood (field_definitions register f)
unfolding field_definitions
good_field register f r w order few = by (eqb f.msb f.lsb) where
  name : IsWord (field_name register f)
  name = field_word register f r w

  low : f.lsb < 2 ^ 64
  low = omega arith

  by : (b : Bool) → AllOf IsGood (cond b (record { name = bit_of (field_name register f); hexadecimal = false; value = f.lsb } ∷ []) (record { name = mask_of (field_name register f); hexadecimal = true; value = mask f } ∷ record { name = shift_of (field_name register f); hexadecimal = false; value = f.lsb } ∷ []))
  by true = ((word_ends (field_name register f) (codes "_BIT") name refl, low), tt)
  by false = ((word_ends (field_name register f) (codes "_MASK") name refl, mask_small f few), ((word_ends (field_name register f) (codes "_OFFSET") name refl, low), tt))

good_fields : (register : List ℕ) (from : ℕ) (fs : List FieldDesc) → IsWord register → FieldsFit from fs → AllOf IsGood (flat_map (field_definitions register) fs)
good_fields register from [] r fit = tt
good_fields register from (f ∷ fs) r fit =
    all_join IsGood (field_definitions register f) (flat_map (field_definitions register) fs) (good_field register f r fit.0 fit.2 fit.3) (good_fields register (suc f.msb) fs r fit.5)

good_item : (all : List LaidRow) (prefix : List ℕ) (first words : ℕ) (item : Item) → IsWord prefix → RowFits all (record { first = first; words = words; item = item }) → first + 4 * words ≤ 2 ^ 24
    → AllOf IsGood (item_definitions prefix first item)
unfolding item_definitions register_definitions window_definitions
good_item all prefix first words (Reg r) p fits few =
    let name = row_word prefix r.name p fits.2.name in
    let reset = reset_word_is r.fields fits.2.fields in (
      (word_ends (row_name prefix r.name) (codes "_REG_OFFSET") name refl, omega arith),
      ((word_ends (row_name prefix r.name) (codes "_REG_RESVAL") name refl, omega (arith, reset.small)), good_fields (row_name prefix r.name) 0 r.fields name fits.2.fields),
    )
good_item all prefix first words (Window w) p fits few =
    let name = row_word prefix w.name p fits.1.name in
    let items = fits.1.few_items in (
      (word_ends (row_name prefix w.name) (codes "_REG_OFFSET") name refl, omega arith),
      (
        (word_ends (row_name prefix w.name) (codes "_SIZE_WORDS") name refl, omega arith),
        ((word_ends (row_name prefix w.name) (codes "_SIZE_BYTES") name refl, omega arith), tt),
      ),
    )
good_item all prefix first words (SkipTo to at) p fits few = absurd fits
good_item all prefix first words (Reserved spare at) p fits few = absurd fits

-- the rows end within 2^24 bytes
end_within : (all : List LaidRow) (low : ℕ) (rows : List LaidRow) → RowsFit all low rows → low ≤ 2 ^ 24
end_within all low [] fit = fit
end_within all low (row ∷ rows) fit = let later = end_within all (row.first + 4 * row.words) rows fit.2 in let up = fit.0 in omega arith

good_rows : (all : List LaidRow) (prefix : List ℕ) (low : ℕ) (rows : List LaidRow) → IsWord prefix → RowsFit all low rows → AllOf IsGood (flat_map (row_definitions prefix) rows)
good_rows all prefix low [] p fit = tt
good_rows all prefix low (row ∷ rows) p fit =
    all_join IsGood (row_definitions prefix row) (flat_map (row_definitions prefix) rows)
    (good_item all prefix row.first row.words row.item p fit.1 (end_within all (row.first + 4 * row.words) rows fit.2))
    (good_rows all prefix (row.first + 4 * row.words) rows p fit.2)

good_faces : (block : List ℕ) (faces : List LaidFace) → IsWord block → AllOf (λ face. IsNameIfAny face.name × IsLaid face) faces → AllOf IsGood (flat_map (face_definitions block) faces)
unfolding face_definitions
good_faces block [] w all = tt
good_faces block (face ∷ faces) w all =
    all_join IsGood (flat_map (row_definitions (prefix_of block face.name)) face.rows) (flat_map (face_definitions block) faces)
    (good_rows face.rows (prefix_of block face.name) 0 face.rows (prefix_word block face.name w all.0.0) all.0.1.rows)
    (good_faces block faces w all.1)

-- all of them
pub good_definitions : (laid : LaidBlock) → IsNamed laid → AllOf IsGood (definitions laid)
unfolding definitions
good_definitions laid named = (
  (word_ends (upper laid.desc.name) (codes "_PARAM_REG_WIDTH") (upper_word laid.desc.name named.block) refl, omega arith),
  good_faces laid.desc.name laid.faces named.block named.interfaces,
)
