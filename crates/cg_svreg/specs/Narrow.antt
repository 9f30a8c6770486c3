-- Fields that lie in a word of 32 bits.
use Rattle.std.specs.Prelude.{◌<◌, List, [], ◌∷◌}
use Rattle.cg_desc.specs.declared.block.FieldDesc.{FieldDesc}
use Rattle.cg_desc.specs.declared.block.Item.{Item}
use Rattle.cg_desc.specs.declared.block.Item.TheVariants.{Reg}
use Rattle.cg_desc.specs.declared.block.LaidRow.{LaidRow}

-- no field reaches above bit 31
abbrev pub FieldsAreNarrow : List FieldDesc → Type 0
FieldsAreNarrow [] = Unit {0}
FieldsAreNarrow (f ∷ fs) = (f.msb < 32) × FieldsAreNarrow fs

-- no field of the item does
abbrev pub ItemIsNarrow : Item → Type 0
ItemIsNarrow (Reg r) = FieldsAreNarrow r.fields
ItemIsNarrow item = Unit {0}

-- no field of the rows does
abbrev pub RowsAreNarrow : List LaidRow → Type 0
RowsAreNarrow [] = Unit {0}
RowsAreNarrow (row ∷ rows) = ItemIsNarrow row.item × RowsAreNarrow rows
