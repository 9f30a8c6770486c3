-- What a block's header means: its constants are the offsets, bits and reset values of the block's registers and windows.
use Rattle.std.specs.Prelude.{◌≡◌, ℕ, ◌+◌, ◌*◌, ◌/◌, ◌%◌, ◌^◌, ◌<◌, ◌≤◌, suc, ◌-◌, List}
use Rattle.cg_svspec.specs.Names.{Differ}
use Rattle.cg_desc.specs.BlockStep.{EachRow, EachField}
use Rattle.cg_desc.specs.Target.{register, word, IsTarget}
use Rattle.cg_desc.specs.declared.block.FieldDesc.{FieldDesc}
use Rattle.cg_desc.specs.declared.block.RegDesc.{RegDesc}
use Rattle.cg_desc.specs.declared.block.WindowDesc.{WindowDesc}
use Rattle.cg_desc.specs.declared.block.Item.{Item}
use Rattle.cg_desc.specs.declared.block.Item.TheVariants.{Reg, Window, SkipTo, Reserved}
use Rattle.cg_desc.specs.declared.block.LaidFace.{LaidFace}
use Rattle.cg_desc.specs.declared.block.LaidBlock.{LaidBlock}
use Rattle.cg_finding.specs.Finding.{Among}
use Rattle.cg_hdrspec.specs.Header.{Constant, constant, IsHeader}
use Rattle.cg_hdrspec.specs.BlockHeader.{prefix_of, row_name, field_name, register_width, offset_of, reset_of, words_of, bytes_of, bit_of, mask_of, shift_of, header_names, constants_of}

-- bit i of a number
abbrev pub bit : ℕ → ℕ → ℕ
bit n i = (n / 2 ^ i) % 2

-- the number has exactly the bits of a field
abbrev pub HasBitsOf : ℕ → FieldDesc → Type 0
HasBitsOf n f = (i : ℕ) → (bit n i ≡ 1 → (f.lsb ≤ i) × (i ≤ f.msb)) × (f.lsb ≤ i → i ≤ f.msb → bit n i ≡ 1)

-- `1 << BIT`, where the field has one bit, or `MASK << OFFSET` has exactly the field's bits
pub data FieldAgrees (cs : List Constant) (name : List ℕ) (f : FieldDesc) : Type 0 where
  one_bit : (b : ℕ) → f.msb ≡ f.lsb → Among (constant (bit_of name) b) cs → HasBitsOf (1 * 2 ^ b) f → FieldAgrees cs name f
  some_bits : (m s : ℕ) → ¬ (f.msb ≡ f.lsb) → Among (constant (mask_of name) m) cs → Among (constant (shift_of name) s) cs → HasBitsOf (m * 2 ^ s) f
      → FieldAgrees cs name f

-- the word of the fields' reset values: each field's bits are its reset value, and bits of no field are 0
pub record IsResetWord (value : ℕ) (fields : List FieldDesc) : Type 0 where
  pub small : value < 2 ^ 32
  pub each : EachField (λ f. (value / 2 ^ f.lsb) % 2 ^ (suc f.msb - f.lsb) ≡ f.resval) fields
  pub others : (i : ℕ) → EachField (λ f. ¬ ((f.lsb ≤ i) × (i ≤ f.msb))) fields → bit value i ≡ 0

-- the register of this row: `REG_OFFSET` is its place, `REG_RESVAL` its word of reset values
pub record RegisterAgrees (cs : List Constant) (prefix : List ℕ) (face : LaidFace) (i : ℕ) (r : RegDesc) : Type 0 where
  pub offset : ℕ
  pub has_offset : Among (constant (offset_of (row_name prefix r.name)) offset) cs
  pub is_place : IsTarget face offset (register i)
  pub reset : ℕ
  pub has_reset : Among (constant (reset_of (row_name prefix r.name)) reset) cs
  pub is_reset : IsResetWord reset r.fields
  pub fields : EachField (λ f. FieldAgrees cs (field_name (row_name prefix r.name) f) f) r.fields

-- the window of this row: `REG_OFFSET` and 4 * k is the place of its word k, for each k below `SIZE_WORDS`; `SIZE_BYTES` is its bytes
pub record WindowAgrees (cs : List Constant) (prefix : List ℕ) (face : LaidFace) (i : ℕ) (w : WindowDesc) : Type 0 where
  pub offset : ℕ
  pub has_offset : Among (constant (offset_of (row_name prefix w.name)) offset) cs
  pub has_words : Among (constant (words_of (row_name prefix w.name)) w.items) cs
  pub are_places : (k : ℕ) → k < w.items → IsTarget face (offset + 4 * k) (word i k)
  pub has_bytes : Among (constant (bytes_of (row_name prefix w.name)) (4 * w.items)) cs

abbrev pub ItemAgrees : List Constant → List ℕ → LaidFace → ℕ → Item → Type 0
ItemAgrees cs prefix face i (Reg r) = RegisterAgrees cs prefix face i r
ItemAgrees cs prefix face i (Window w) = WindowAgrees cs prefix face i w
ItemAgrees cs prefix face i (SkipTo to at) = ⊥
ItemAgrees cs prefix face i (Reserved words at) = ⊥

-- The text is a header. Its constants are those of the block, and no name is defined twice, so that each register, field and
-- window has its own. They agree with the block, interface by interface and row by row.
pub record HeaderMeans (laid : LaidBlock) (text : List ℕ) : Type 0 where
  pub constants : List Constant
  pub is_header : IsHeader text constants
  pub are_all : constants ≡ constants_of laid
  pub differ : Differ (header_names laid)
  pub width : Among (constant (register_width laid.desc.name) 32) constants
  pub agrees : (face : LaidFace) → Among face laid.faces → EachRow (ItemAgrees constants (prefix_of laid.desc.name face.name) face) 0 face.rows
