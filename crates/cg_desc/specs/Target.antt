-- What an address of an interface is: a register, a word of a window, or nothing.
use Rattle.std.specs.Prelude.{◌≡◌, ℕ, ◌+◌, ◌-◌, ◌*◌, ◌/◌, ◌<◌, ◌≤◌, nat_le, nat_lt, Bool, ◌&&◌, List, [], ◌∷◌, Some, slice_get, if◌then◌else◌}
use Rattle.cg_svspec.specs.Names.{Among}
use Rattle.cg_desc.specs.declared.block.RegDesc.{RegDesc}
use Rattle.cg_desc.specs.declared.block.WindowDesc.{WindowDesc}
use Rattle.cg_desc.specs.declared.block.LaidRow.{LaidRow}
use Rattle.cg_desc.specs.declared.block.LaidFace.{LaidFace}
use Rattle.cg_desc.specs.declared.block.Item.{Item}
use Rattle.cg_desc.specs.declared.block.Item.TheVariants.{Reg, Window, SkipTo, Reserved}

-- rows are numbered from 0, in the order of their offsets
pub data Target : Type 0 where
  -- the register of this row
  register : ℕ → Target
  -- this word of the window of this row
  word : ℕ → ℕ → Target
  -- no register and no word
  error : Target

-- the address with its low two bits cleared
abbrev pub aligned : ℕ → ℕ
aligned address = 4 * (address / 4)

-- where a row ends: the offset behind its last word
abbrev pub row_end : LaidRow → ℕ
row_end row = row.first + 4 * row.words

-- the row holds the address
pub record HoldsAddress (row : LaidRow) (address : ℕ) : Type 0 where
  pub from_start : row.first ≤ aligned address
  pub before_end : aligned address < row_end row

-- What the address is: the register of the row that holds it, or a word of that row's window, and an error where no row does.
pub data IsTarget (face : LaidFace) (address : ℕ) : Target → Type 0 where
  at_register : (i : ℕ) (row : LaidRow) (r : RegDesc) → slice_get face.rows i ≡ Some row → row.item ≡ Reg r → HoldsAddress row address
      → IsTarget face address (register i)
  at_word : (i : ℕ) (row : LaidRow) (w : WindowDesc) → slice_get face.rows i ≡ Some row → row.item ≡ Window w → HoldsAddress row address
      → IsTarget face address (word i ((aligned address - row.first) / 4))
  nowhere : ((row : LaidRow) → Among row face.rows → HoldsAddress row address → ⊥) → IsTarget face address error

-- ---- the same by going down the rows, which is how it is found

-- whether the row holds the address
abbrev pub holds_address : LaidRow → ℕ → Bool
holds_address row address = nat_le row.first (aligned address) && nat_lt (aligned address) (row_end row)

-- what an address in the row of this number is
abbrev pub target_in : ℕ → ℕ → Item → Target
target_in i index (Reg r) = register i
target_in i index (Window w) = word i index
target_in i index (SkipTo to at) = error
target_in i index (Reserved words at) = error

-- in rows of which the first has this number
abbrev pub target_from : ℕ → List LaidRow → ℕ → Target
target_from i [] address = error
target_from i (row ∷ rows) address =
    if holds_address row address then target_in i ((aligned address - row.first) / 4) row.item else target_from (i + 1) rows address

-- what the address of an interface is, for every address of 32 bits
abbrev pub target_at : LaidFace → ℕ → Target
target_at face address = target_from 0 face.rows address
