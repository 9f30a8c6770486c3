-- In a block that is laid out, the header's values are numbers of 32 bits.
use Rattle.std.specs.Prelude.{ℕ, suc, ◌+◌, ◌*◌, List, [], ◌∷◌}
use Rattle.cg_svspec.specs.Printable.{AllOf}
use Rattle.cg_desc.specs.Laid.{FieldsFit, RowFits, RowsFit, IsLaid}
use Rattle.cg_desc.specs.Valid.{IsNameIfAny}
use Rattle.cg_desc.specs.declared.block.FieldDesc.{FieldDesc}
use Rattle.cg_desc.specs.declared.block.Item.{Item}
use Rattle.cg_desc.specs.declared.block.Item.TheVariants.{Reg, Window, SkipTo, Reserved}
use Rattle.cg_desc.specs.declared.block.LaidRow.{LaidRow}
use Rattle.cg_desc.specs.declared.block.LaidFace.{LaidFace}
use Rattle.cg_desc.specs.declared.block.LaidBlock.{LaidBlock}
use Rattle.cg_hdrspec.specs.Laws.{IsNamed}
use Rattle.cg_hdrspec.proofs.ResetWord.{reset_word_is}
use Rattle.cg_blkhdr.specs.Small.{FieldsAreSmall, ItemIsSmall, RowsAreSmall, FacesAreSmall}

fields_small : (from : ℕ) (fs : List FieldDesc) → FieldsFit from fs → FieldsAreSmall fs
fields_small from [] fit = tt
fields_small from (f ∷ fs) fit = (fit.2, fit.3, fields_small (suc f.msb) fs fit.5)

item_small : (all : List LaidRow) (first words : ℕ) (item : Item) → RowFits all (record { first = first; words = words; item = item }) → ItemIsSmall item
item_small all first words (Reg r) fit = (fields_small 0 r.fields fit.2.fields, (reset_word_is r.fields fit.2.fields).small)
item_small all first words (Window w) fit = fit.1.few_items
item_small all first words (SkipTo to at) fit = tt
item_small all first words (Reserved n at) fit = tt

rows_small : (all : List LaidRow) (low : ℕ) (rows : List LaidRow) → RowsFit all low rows → RowsAreSmall rows
rows_small all low [] fit = tt
rows_small all low (row ∷ rows) fit = (item_small all row.first row.words row.item fit.1, rows_small all (row.first + 4 * row.words) rows fit.2)

faces_small : (faces : List LaidFace) → AllOf (λ face. IsNameIfAny face.name × IsLaid face) faces → FacesAreSmall faces
faces_small [] all = tt
faces_small (face ∷ faces) all = (rows_small face.rows 0 face.rows all.0.1.rows, faces_small faces all.1)

-- all of a block's
pub named_small : (laid : LaidBlock) → IsNamed laid → FacesAreSmall laid.faces
named_small laid named = faces_small laid.faces named.interfaces
