-- In an interface that is laid out, each field lies in a word.
use Rattle.std.specs.Prelude.{ℕ, suc, ◌+◌, ◌*◌, List, [], ◌∷◌}
use Rattle.cg_desc.specs.declared.block.FieldDesc.{FieldDesc}
use Rattle.cg_desc.specs.declared.block.Item.{Item}
use Rattle.cg_desc.specs.declared.block.Item.TheVariants.{Reg, Window, SkipTo, Reserved}
use Rattle.cg_desc.specs.declared.block.LaidRow.{LaidRow}
use Rattle.cg_desc.specs.declared.block.LaidFace.{LaidFace}
use Rattle.cg_desc.specs.Laid.{FieldsFit, RowFits, RowsFit, IsLaid}
use Rattle.cg_svreg.specs.Narrow.{FieldsAreNarrow, ItemIsNarrow, RowsAreNarrow}

fields_narrow : (fs : List FieldDesc) (from : ℕ) → FieldsFit from fs → FieldsAreNarrow fs
fields_narrow [] from fit = tt
fields_narrow (f ∷ fs) from fit = (fit.3, fields_narrow fs (suc f.msb) fit.5)

item_narrow : (all : List LaidRow) (first words : ℕ) (item : Item) → RowFits all (record { first = first; words = words; item = item }) → ItemIsNarrow item
item_narrow all first words (Reg r) fit = fields_narrow r.fields 0 fit.2.fields
item_narrow all first words (Window w) fit = tt
item_narrow all first words (SkipTo to at) fit = tt
item_narrow all first words (Reserved n at) fit = tt

rows_narrow : (all rows : List LaidRow) (low : ℕ) → RowsFit all low rows → RowsAreNarrow rows
rows_narrow all [] low fit = tt
rows_narrow all (row ∷ rows) low fit = (item_narrow all row.first row.words row.item fit.1, rows_narrow all rows (row.first + 4 * row.words) fit.2)

-- the fields of an interface that is laid out
pub laid_narrow : (face : LaidFace) → IsLaid face → RowsAreNarrow face.rows
laid_narrow face laid = rows_narrow face.rows face.rows 0 laid.rows
