-- When a laid interface is whole: its rows at their places, its fields in order, its gates there.
use Rattle.std.specs.Prelude.{◌≡◌, ℕ, suc, max, ◌+◌, ◌-◌, ◌*◌, ◌^◌, ◌<◌, ◌≤◌, true, List, [], ◌∷◌, Option, Some, None}
use Rattle.std.specs.Int.{IsNextPowerOfTwo}
use Rattle.cg_svspec.specs.Characters.{IsWord}
use Rattle.cg_desc.specs.Target.{row_end}
use Rattle.cg_desc.specs.Gates.{register_named, is_gate}
use Rattle.cg_desc.specs.Offsets.{IsSpan}
use Rattle.cg_desc.specs.declared.block.SwAccess.{SwAccess}
use Rattle.cg_desc.specs.declared.block.SwAccess.TheVariants.{Ro, Rw, Wo}
use Rattle.cg_desc.specs.declared.block.FieldDesc.{FieldDesc}
use Rattle.cg_desc.specs.declared.block.RegDesc.{RegDesc}
use Rattle.cg_desc.specs.declared.block.WindowDesc.{WindowDesc}
use Rattle.cg_desc.specs.declared.block.Item.{Item}
use Rattle.cg_desc.specs.declared.block.Item.TheVariants.{Reg, Window, SkipTo, Reserved}
use Rattle.cg_desc.specs.declared.block.LaidRow.{LaidRow}
use Rattle.cg_desc.specs.declared.block.LaidFace.{LaidFace}

-- Fields stand in the order of their lowest bits, share none, lie in bits `from` to 31, and their reset values fit.
abbrev pub FieldsFit : ℕ → List FieldDesc → Type 0
FieldsFit from [] = Unit {0}
FieldsFit from (f ∷ fs) =
    IsWord f.name × (from ≤ f.lsb) × (f.lsb ≤ f.msb) × (f.msb < 32) × (f.resval < 2 ^ (suc f.msb - f.lsb)) × FieldsFit (suc f.msb) fs

-- at least one field
abbrev pub HasField : List FieldDesc → Type 0
HasField [] = ⊥
HasField (f ∷ fs) = Unit {0}

-- there is a register, and it can gate others
abbrev pub IsGateAt : Option RegDesc → Type 0
IsGateAt None = ⊥
IsGateAt (Some g) = is_gate g ≡ true

-- the gate that a register names is one of the interface
abbrev pub GateFits : List LaidRow → Option (List ℕ) → Type 0
GateFits rows None = Unit {0}
GateFits rows (Some name) = IsGateAt (register_named rows name)

pub record RegisterFits (rows : List LaidRow) (r : RegDesc) : Type 0 where
  pub name : IsWord r.name
  pub some_field : HasField r.fields
  pub fields : FieldsFit 0 r.fields
  pub gate : GateFits rows r.regwen

-- software reads, writes or does both
abbrev pub IsWindowAccess : SwAccess → Type 0
IsWindowAccess Rw = Unit {0}
IsWindowAccess Ro = Unit {0}
IsWindowAccess Wo = Unit {0}
IsWindowAccess _ = ⊥

-- 1 to 2^22 words, at a multiple of a power of two that is at least the window's bytes
pub record WindowFits (first : ℕ) (w : WindowDesc) : Type 0 where
  pub name : IsWord w.name
  pub access : IsWindowAccess w.sw
  pub some_item : 0 < w.items
  pub few_items : w.items ≤ 2 ^ 22
  pub power : ℕ
  pub covers : w.items ≤ 2 ^ power
  pub few : power ≤ 22
  pub turn : ℕ
  pub aligned : first ≡ 4 * (2 ^ power * turn)

-- a row holds a register, which takes a word, or a window, which takes its items
abbrev pub RowFits : List LaidRow → LaidRow → Type 0
RowFits rows row = ItemFits row.item where
  ItemFits : Item → Type 0
  ItemFits (Reg r) = (row.words ≡ 1) × ((turn : ℕ) × (row.first ≡ 4 * turn)) × RegisterFits rows r
  ItemFits (Window w) = (row.words ≡ w.items) × WindowFits row.first w
  ItemFits (SkipTo to at) = ⊥
  ItemFits (Reserved words at) = ⊥

-- the rows stand in the order of their offsets, from this offset on, and none reaches into the next
abbrev pub RowsFit : List LaidRow → ℕ → List LaidRow → Type 0
RowsFit all low [] = low ≤ 2 ^ 24
RowsFit all low (row ∷ rows) = (low ≤ row.first) × RowFits all row × RowsFit all (row_end row) rows

abbrev pub HasRow : List LaidRow → Type 0
HasRow [] = ⊥
HasRow (row ∷ rows) = Unit {0}

-- The last row ends here: a register takes 4 bytes, and a window the least power of two that its words fit in.
pub data LastEnds : List LaidRow → ℕ → Type 0 where
  last : {row : LaidRow} {span : ℕ} → IsSpan row.item span → LastEnds (row ∷ []) (row.first + span)
  later : {row next : LaidRow} {rows : List LaidRow} {end : ℕ} → LastEnds (next ∷ rows) end → LastEnds (row ∷ next ∷ rows) end

-- The interface has at least one row, and at most 2^24 bytes: its size is the least power of two that its rows and one word fit in.
pub record IsLaid (face : LaidFace) : Type 0 where
  pub some_row : HasRow face.rows
  pub rows : RowsFit face.rows 0 face.rows
  pub end : ℕ
  pub ends : LastEnds face.rows end
  pub size : IsNextPowerOfTwo (max end 4) face.size
  pub few_bytes : face.size ≤ 2 ^ 24
