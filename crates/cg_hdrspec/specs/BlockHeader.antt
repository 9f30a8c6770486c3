-- The C header of a block: where its registers and windows are, and what stands in them (OpenTitan Register Tool, C headers).
use Rattle.std.specs.Prelude.{ℕ, suc, ◌+◌, ◌-◌, ◌*◌, ◌^◌, eqb, Bool, true, false, cond, List, [], ◌∷◌, ◌++◌, map, flat_map, codes, Option, Some, None}
use Rattle.std.specs.Fmt.{decimal, digits}
use Rattle.std.specs.Str.{str_to_ascii_uppercase}
use Rattle.cg_desc.specs.declared.block.FieldDesc.{FieldDesc}
use Rattle.cg_desc.specs.declared.block.RegDesc.{RegDesc}
use Rattle.cg_desc.specs.declared.block.WindowDesc.{WindowDesc}
use Rattle.cg_desc.specs.declared.block.Item.{Item}
use Rattle.cg_desc.specs.declared.block.Item.TheVariants.{Reg, Window, SkipTo, Reserved}
use Rattle.cg_desc.specs.declared.block.LaidRow.{LaidRow}
use Rattle.cg_desc.specs.declared.block.LaidFace.{LaidFace}
use Rattle.cg_desc.specs.declared.block.LaidBlock.{LaidBlock}
use Rattle.cg_hdrspec.specs.Header.{Constant, constant}

-- a constant as it is defined: in hexadecimal, or in decimal
pub record Definition : Type 0 where
  pub name : List ℕ
  pub hexadecimal : Bool
  pub value : ℕ

abbrev pub in_hexadecimal : List ℕ → ℕ → Definition
in_hexadecimal name value = record { name = name; hexadecimal = true; value = value }

abbrev pub in_decimal : List ℕ → ℕ → Definition
in_decimal name value = record { name = name; hexadecimal = false; value = value }

-- ---- names, all in upper case

-- a name behind another one, with an underscore between
abbrev pub behind : List ℕ → List ℕ → List ℕ
behind prefix name = prefix ++ (codes "_" ++ name)

abbrev pub upper : List ℕ → List ℕ
upper name = str_to_ascii_uppercase name

-- what the names of an interface begin with: the block, and the interface where it has a name
unfoldable pub prefix_of : List ℕ → Option (List ℕ) → List ℕ
prefix_of block None = upper block
prefix_of block (Some interface) = behind (upper block) (upper interface)

-- the name of a register or window, behind that of its interface
unfoldable pub row_name : List ℕ → List ℕ → List ℕ
row_name prefix name = behind prefix (upper name)

-- the name of a field, behind that of its register
unfoldable pub field_name : List ℕ → FieldDesc → List ℕ
field_name register f = behind register (upper f.name)

abbrev pub register_width : List ℕ → List ℕ
register_width block = upper block ++ codes "_PARAM_REG_WIDTH"

abbrev pub offset_of : List ℕ → List ℕ
offset_of row = row ++ codes "_REG_OFFSET"

abbrev pub reset_of : List ℕ → List ℕ
reset_of register = register ++ codes "_REG_RESVAL"

abbrev pub words_of : List ℕ → List ℕ
words_of window = window ++ codes "_SIZE_WORDS"

abbrev pub bytes_of : List ℕ → List ℕ
bytes_of window = window ++ codes "_SIZE_BYTES"

abbrev pub bit_of : List ℕ → List ℕ
bit_of field = field ++ codes "_BIT"

abbrev pub mask_of : List ℕ → List ℕ
mask_of field = field ++ codes "_MASK"

abbrev pub shift_of : List ℕ → List ℕ
shift_of field = field ++ codes "_OFFSET"

-- the name of the guard
unfoldable pub guard_of : List ℕ → List ℕ
guard_of block = codes "_" ++ (upper block ++ codes "_REG_DEFS_")

-- ---- values

-- the ones of a field's width, which are not shifted
unfoldable pub mask : FieldDesc → ℕ
mask f = 2 ^ (suc f.msb - f.lsb) - 1

-- the fields' reset values, each at its bits
unfoldable pub reset_word : List FieldDesc → ℕ
reset_word [] = 0
reset_word (f ∷ fs) = f.resval * 2 ^ f.lsb + reset_word fs

-- ---- the definitions, in their order

-- a field of one bit has the number of its bit, any other one its mask and where that stands
unfoldable pub field_definitions : List ℕ → FieldDesc → List Definition
field_definitions register f =
    cond (eqb f.msb f.lsb) (in_decimal (bit_of (field_name register f)) f.lsb ∷ [])
    (in_hexadecimal (mask_of (field_name register f)) (mask f) ∷ in_decimal (shift_of (field_name register f)) f.lsb ∷ [])

unfoldable pub register_definitions : List ℕ → ℕ → RegDesc → List Definition
register_definitions prefix first r =
    in_hexadecimal (offset_of (row_name prefix r.name)) first
    ∷ in_hexadecimal (reset_of (row_name prefix r.name)) (reset_word r.fields)
    ∷ flat_map (field_definitions (row_name prefix r.name)) r.fields

unfoldable pub window_definitions : List ℕ → ℕ → WindowDesc → List Definition
window_definitions prefix first w =
    in_hexadecimal (offset_of (row_name prefix w.name)) first
    ∷ in_decimal (words_of (row_name prefix w.name)) w.items
    ∷ in_hexadecimal (bytes_of (row_name prefix w.name)) (4 * w.items)
    ∷ []

unfoldable pub item_definitions : List ℕ → ℕ → Item → List Definition
item_definitions prefix first (Reg r) = register_definitions prefix first r
item_definitions prefix first (Window w) = window_definitions prefix first w
item_definitions prefix first (SkipTo to at) = []
item_definitions prefix first (Reserved words at) = []

-- those of a row, by its offset
abbrev pub row_definitions : List ℕ → LaidRow → List Definition
row_definitions prefix row = item_definitions prefix row.first row.item

-- those of an interface, in the order of the offsets
unfoldable pub face_definitions : List ℕ → LaidFace → List Definition
face_definitions block face = flat_map (row_definitions (prefix_of block face.name)) face.rows

-- those of a block: the width of its registers, then its interfaces
unfoldable pub definitions : LaidBlock → List Definition
definitions laid = in_decimal (register_width laid.desc.name) 32 ∷ flat_map (face_definitions laid.desc.name) laid.faces

-- the names that a header defines, with its guard
unfoldable pub header_names : LaidBlock → List (List ℕ)
header_names laid = guard_of laid.desc.name ∷ map (λ d. d.name) (definitions laid)

-- the constants of a header
unfoldable pub constants_of : LaidBlock → List Constant
constants_of laid = map (λ d. constant d.name d.value) (definitions laid)

-- ---- the text

abbrev pub numeral : Bool → ℕ → List ℕ
numeral hexadecimal value = cond hexadecimal (codes "0x" ++ digits 16 false value) (decimal value)

-- a line with its line feed
abbrev pub line : List ℕ → List ℕ
line text = text ++ 10 ∷ []

unfoldable pub definition_text : Definition → List ℕ
definition_text d = codes "#define " ++ (d.name ++ (codes " " ++ line (numeral d.hexadecimal d.value)))

abbrev pub definitions_text : List Definition → List ℕ
definitions_text [] = []
definitions_text (d ∷ ds) = definition_text d ++ definitions_text ds

unfoldable pub header_text : LaidBlock → List ℕ
header_text laid =
    line (codes "// Generated by chipgen.")
    ++ (codes "#ifndef " ++ (line (guard_of laid.desc.name)
    ++ (codes "#define " ++ (line (guard_of laid.desc.name)
    ++ (definitions_text (definitions laid) ++ line (codes "#endif"))))))
