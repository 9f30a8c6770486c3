-- The constants of a block are the places, bits and reset values of its registers and windows.
use Rattle.std.proofs.Common.{◌≡◌, ℕ, suc, ◌+◌, ◌*◌, ◌^◌, ◌≤◌, eqb, Bool, true, false, cond, List, [], ◌∷◌, map, slice_get, inl, inr, refl, ap, arith}
use Rattle.std.specs.List.{flat_map}
use Rattle.std.proofs.lemmas.Bool.{eqb-true, eq-eqb}
use Rattle.cg_svspec.specs.Printable.{AllOf}
use Rattle.cg_desc.specs.Target.{row_end}
use Rattle.cg_desc.specs.BlockStep.{EachRow, EachField}
use Rattle.cg_desc.specs.Laid.{FieldsFit, RowFits, RowsFit, IsLaid}
use Rattle.cg_desc.specs.declared.block.FieldDesc.{FieldDesc}
use Rattle.cg_desc.specs.declared.block.Item.{Item}
use Rattle.cg_desc.specs.declared.block.Item.TheVariants.{Reg, Window, SkipTo, Reserved}
use Rattle.cg_desc.specs.declared.block.LaidRow.{LaidRow}
use Rattle.cg_desc.specs.declared.block.LaidFace.{LaidFace}
use Rattle.cg_desc.specs.declared.block.LaidBlock.{LaidBlock}
use Rattle.cg_finding.specs.Finding.{Among}
use Rattle.cg_hdrspec.specs.Header.{Constant, constant}
use Rattle.cg_hdrspec.specs.BlockHeader.{Definition, prefix_of, row_name, field_name, bit_of, mask_of, shift_of, mask, reset_word, field_definitions, register_definitions, window_definitions, item_definitions, row_definitions, face_definitions, definitions, constants_of}
use Rattle.cg_hdrspec.specs.Meaning.{FieldAgrees, one_bit, some_bits, ItemAgrees}
use Rattle.cg_hdrspec.proofs.Lists.{all_front, all_back, all_weaker}
use Rattle.cg_hdrspec.proofs.FieldBits.{mask_has_bits, one_has_bit}
use Rattle.cg_hdrspec.proofs.ResetWord.{reset_word_is}
use Rattle.cg_hdrspec.proofs.Places.{From, from_later, register_place, window_place}

-- the constants have this definition
abbrev pub Given : List Constant → Definition → Type 0
Given cs d = Among (constant d.name d.value) cs

-- the constants of some definitions have each of them
all_given : (ds : List Definition) → AllOf (Given (map (λ d. constant d.name d.value) ds)) ds
all_given [] = tt
all_given (d ∷ ds) =
    (inl refl, all_weaker (Given (map (λ e. constant e.name e.value) ds)) (Given (constant d.name d.value ∷ map (λ e. constant e.name e.value) ds)) (λ e among. inr among) ds (all_given ds))

pub block_gives : (laid : LaidBlock) → AllOf (Given (constants_of laid)) (definitions laid)
unfolding constants_of
block_gives laid = all_given (definitions laid)

-- ---- fields

field_agrees : (cs : List Constant) (register : List ℕ) (f : FieldDesc) → f.lsb ≤ f.msb → AllOf (Given cs) (field_definitions register f) → FieldAgrees cs (field_name register f) f
unfolding field_definitions
field_agrees cs register f order given = by (eqb f.msb f.lsb) refl given where
  by : (b : Bool) → eqb f.msb f.lsb ≡ b
      → AllOf (Given cs) (cond b (record { name = bit_of (field_name register f); hexadecimal = false; value = f.lsb } ∷ []) (record { name = mask_of (field_name register f); hexadecimal = true; value = mask f } ∷ record { name = shift_of (field_name register f); hexadecimal = false; value = f.lsb } ∷ []))
      → FieldAgrees cs (field_name register f) f
  by true is given = let same : f.msb ≡ f.lsb = eqb-true f.msb f.lsb is in one_bit f.lsb same given.0 (one_has_bit f same)
  by false is given = some_bits (mask f) f.lsb (λ same. let test = eq-eqb f.msb f.lsb same in cc) given.0 given.1.0 (mask_has_bits f order)

fields_agree : (cs : List Constant) (register : List ℕ) (from : ℕ) (fs : List FieldDesc) → FieldsFit from fs → AllOf (Given cs) (flat_map (field_definitions register) fs)
    → EachField (λ f. FieldAgrees cs (field_name register f) f) fs
fields_agree cs register from [] fit given = tt
fields_agree cs register from (f ∷ fs) fit given = (
  field_agrees cs register f fit.2 (all_front (Given cs) (field_definitions register f) (flat_map (field_definitions register) fs) given),
  fields_agree cs register (suc f.msb) fs fit.5 (all_back (Given cs) (field_definitions register f) (flat_map (field_definitions register) fs) given),
)

-- ---- rows

item_agrees : (cs : List Constant) (prefix : List ℕ) (face : LaidFace) (i first words : ℕ) (item : Item) (rows : List LaidRow)
    → RowFits face.rows (record { first = first; words = words; item = item }) → From face i (record { first = first; words = words; item = item } ∷ rows)
    → AllOf (Given cs) (item_definitions prefix first item) → ItemAgrees cs prefix face i item
unfolding item_definitions register_definitions window_definitions
item_agrees cs prefix face i first words (Reg r) rows fits from given = record {
  offset = first;
  has_offset = given.0;
  is_place = register_place face i first words fits.1.0 r rows from fits.0 fits.1.1;
  reset = reset_word r.fields;
  has_reset = given.1.0;
  is_reset = reset_word_is r.fields fits.2.fields;
  fields = fields_agree cs (row_name prefix r.name) 0 r.fields fits.2.fields given.1.1;
}
item_agrees cs prefix face i first words (Window w) rows fits from given = record {
  offset = first;
  has_offset = given.0;
  has_words = given.1.0;
  are_places = λ k few. let same = fits.0 in window_place face i first words (2 ^ fits.1.power * fits.1.turn) k w rows from fits.1.aligned (omega arith);
  has_bytes = given.1.1.0;
}
item_agrees cs prefix face i first words (SkipTo to at) rows fits from given = absurd fits
item_agrees cs prefix face i first words (Reserved spare at) rows fits from given = absurd fits

rows_agree : (cs : List Constant) (prefix : List ℕ) (face : LaidFace) (i low : ℕ) (rows : List LaidRow) → RowsFit face.rows low rows → From face i rows
    → AllOf (Given cs) (flat_map (row_definitions prefix) rows) → EachRow (ItemAgrees cs prefix face) i rows
rows_agree cs prefix face i low [] fit from given = tt
rows_agree cs prefix face i low (row ∷ rows) fit from given = (
  item_agrees cs prefix face i row.first row.words row.item rows fit.1 from (all_front (Given cs) (row_definitions prefix row) (flat_map (row_definitions prefix) rows) given),
  rows_agree cs prefix face (i + 1) (row_end row) rows fit.2 (from_later face i row rows from)
      (all_back (Given cs) (row_definitions prefix row) (flat_map (row_definitions prefix) rows) given),
)

-- Each row of an interface that is laid out agrees with the constants of its block.
pub face_agrees : (cs : List Constant) (block : List ℕ) (face : LaidFace) → IsLaid face → AllOf (Given cs) (face_definitions block face)
    → EachRow (ItemAgrees cs (prefix_of block face.name) face) 0 face.rows
unfolding face_definitions
face_agrees cs block face laid given = rows_agree cs (prefix_of block face.name) face 0 0 face.rows laid.rows (λ k. let same : 0 + k ≡ k = omega arith in ap (slice_get face.rows) same) given
