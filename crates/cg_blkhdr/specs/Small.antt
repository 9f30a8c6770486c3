-- Values of a header that are numbers of 32 bits.
use Rattle.std.specs.Prelude.{◌<◌, ◌≤◌, ◌^◌, List, [], ◌∷◌}
use Rattle.cg_desc.specs.declared.block.FieldDesc.{FieldDesc}
use Rattle.cg_desc.specs.declared.block.Item.{Item}
use Rattle.cg_desc.specs.declared.block.Item.TheVariants.{Reg, Window, SkipTo, Reserved}
use Rattle.cg_desc.specs.declared.block.LaidRow.{LaidRow}
use Rattle.cg_desc.specs.declared.block.LaidFace.{LaidFace}
use Rattle.cg_hdrspec.specs.BlockHeader.{reset_word}

-- the fields lie in a word
abbrev pub FieldsAreSmall : List FieldDesc → Type 0
FieldsAreSmall [] = Unit {0}
FieldsAreSmall (f ∷ fs) = (f.lsb ≤ f.msb) × (f.msb < 32) × FieldsAreSmall fs

-- the reset values of a register's fields make a word, and a window's bytes have a number of 32 bits
abbrev pub ItemIsSmall : Item → Type 0
ItemIsSmall (Reg r) = FieldsAreSmall r.fields × (reset_word r.fields < 2 ^ 32)
ItemIsSmall (Window w) = w.items ≤ 2 ^ 22
ItemIsSmall (SkipTo to at) = Unit {0}
ItemIsSmall (Reserved words at) = Unit {0}

-- so it is in each of the rows
abbrev pub RowsAreSmall : List LaidRow → Type 0
RowsAreSmall [] = Unit {0}
RowsAreSmall (row ∷ rows) = ItemIsSmall row.item × RowsAreSmall rows

-- and in each of the interfaces
abbrev pub FacesAreSmall : List LaidFace → Type 0
FacesAreSmall [] = Unit {0}
FacesAreSmall (face ∷ faces) = RowsAreSmall face.rows × FacesAreSmall faces
