-- The block's step at work: a block with one register DATA of 32 bits, from offset 0 on.
use Rattle.std.proofs.Common.{◌≡◌, ℕ, ◌<◌, true, false, List, [], ◌∷◌, None, refl, subst, inl, inr, arith, codes}
use Rattle.cg_svspec.specs.Bits.{Bits, bits}
use Rattle.cg_desc.specs.AccessTable.{next_value}
use Rattle.cg_svspec.specs.Names.{Among}
use Rattle.cg_desc.specs.Target as target
use Rattle.cg_desc.specs.Target.{HoldsAddress, IsTarget, at_register, target_at, register, error}
use Rattle.cg_desc.specs.BlockStep.{Access, AccessKind, read, write, Fields, Hardware, is_error, takes_write, word_at, bits_of_field}
use Rattle.cg_desc.specs.declared.block.SwAccess.TheVariants.{Rw}
use Rattle.cg_desc.specs.declared.block.LaidFace.{LaidFace}
use Rattle.cg_desc.specs.declared.block.LaidRow.{LaidRow}
use Rattle.cg_desc.specs.declared.place.At.{At}
use Rattle.cg_desc.specs.declared.block.HwAccess.TheVariants.{Hro}
use Rattle.cg_desc.specs.declared.block.FieldDesc.{FieldDesc}
use Rattle.cg_desc.specs.declared.block.RegDesc.{RegDesc}
use Rattle.cg_desc.specs.declared.block.Item.TheVariants.{Reg}
use Rattle.cg_regspec.specs.NetNames.{base}
use Rattle.cg_regspec.specs.Ports.{IsOutput, field_value}

abbrev data_name : List ℕ
data_name = codes "DATA"

abbrev pub nowhere : At
nowhere = record { byte = 0; line = 0; column = 0 }

-- a field from bit 0 on, which software reads and writes and hardware sees
abbrev field_up_to : ℕ → FieldDesc
field_up_to msb = record { name = data_name; msb = msb; lsb = 0; sw = Rw; hw = Hro; resval = 0; mubi = false; at = nowhere }

abbrev register_of : FieldDesc → RegDesc
register_of f = record { name = data_name; fields = f ∷ []; regwen = None; regwen_at = nowhere; hwext = false; hwqe = false; hwre = false; shadowed = false; at = nowhere }

-- the register alone, at offset 0
abbrev pub face_of : RegDesc → LaidFace
face_of r = record { name = None; rows = record { first = 0; words = 1; item = Reg r } ∷ []; size = 4 }

abbrev whole : FieldDesc
whole = field_up_to 31

abbrev face : LaidFace
face = face_of (register_of whole)

-- all bytes but the highest
abbrev low_bytes : Bits
low_bytes = true ∷ true ∷ true ∷ false ∷ []

abbrev pub every_byte : Bits
every_byte = true ∷ true ∷ true ∷ true ∷ []

abbrev pub access : AccessKind → ℕ → ℕ → Bits → Access
access kind address number strobes = record { kind = kind; address = address; data_in = bits 32 number; strobes = strobes }

-- the one field holds this number
abbrev pub holding : ℕ → Fields
holding number = λ r f. bits 32 number

abbrev pub no_hardware : Hardware
no_hardware = record { d = λ r f. []; de = λ r f. false; read_data = λ w. [] }

-- offsets 0 to 3 are the register, and offset 4 is an error
abbrev only_row : LaidRow
only_row = record { first = 0; words = 1; item = Reg (register_of whole) }

at_0 : IsTarget face 0 (register 0)
at_0 = at_register 0 only_row (register_of whole) refl refl (record { from_start = omega arith; before_end = omega arith })

at_3 : IsTarget face 3 (register 0)
at_3 = at_register 0 only_row (register_of whole) refl refl (record { from_start = omega arith; before_end = omega arith })

outside : HoldsAddress only_row 4 → ⊥
outside holds = let end : 4 < 4 = holds.before_end in absurd (omega arith)

not_held : (row : LaidRow) → Among row face.rows → HoldsAddress row 4 → ⊥
not_held row (inl e) holds = outside (subst (λ r. HoldsAddress r 4) e holds)
not_held row (inr none) holds = none

at_4 : IsTarget face 4 error
at_4 = target.nowhere not_held

-- which going down the rows finds
found_3 : target_at face 3 ≡ register 0
found_3 = refl

-- its register module has an output of 32 bits for the value
value_port : IsOutput face 32 (codes "data_data_q")
unfolding base
value_port = field_value (register_of whole) whole (record { row = only_row; in_face = inl refl; is_register = refl; in_register = inl refl }) refl

-- a write of 0x5 at offset 0 with all strobes is no error, and the register takes it
written_fine : is_error face (register 0) (access write 0 5 every_byte) ≡ false
written_fine = refl

written_taken : takes_write face (register 0) (access write 0 5 every_byte) (holding 0) 0 (register_of whole) ≡ true
written_taken = refl

written_value : next_value Rw true false (bits_of_field whole (bits 32 5)) (bits 32 0) ≡ bits 32 5
unfolding bits
written_value = refl

-- the next read at 0 shows 0x5
read_fine : is_error face (register 0) (access read 0 0 every_byte) ≡ false
read_fine = refl

read_value : word_at face (holding 5) no_hardware (register 0) ≡ bits 32 5
unfolding bits
read_value = refl

-- an access at offset 4 is an error
beyond : is_error face (target_at face 4) (access read 4 0 every_byte) ≡ true
beyond = refl

-- a write that does not strobe the highest byte is an error, and changes nothing
partial_error : is_error face (register 0) (access write 0 5 low_bytes) ≡ true
partial_error = refl

partial_not_taken : takes_write face (register 0) (access write 0 5 low_bytes) (holding 0) 0 (register_of whole) ≡ false
partial_not_taken = refl

partial_value : next_value Rw false false (bits_of_field whole (bits 32 5)) (bits 32 7) ≡ bits 32 7
unfolding bits
partial_value = refl

-- ---- a register whose highest used bit is 9

abbrev ten_bits : RegDesc
ten_bits = register_of (field_up_to 9)

abbrev pub low_byte : Bits
low_byte = true ∷ false ∷ false ∷ false ∷ []

abbrev two_bytes : Bits
two_bytes = true ∷ true ∷ false ∷ false ∷ []

-- a write that strobes byte 0 alone is an error, and changes nothing
one_byte_error : is_error (face_of ten_bits) (register 0) (access write 0 5 low_byte) ≡ true
one_byte_error = refl

one_byte_not_taken : takes_write (face_of ten_bits) (register 0) (access write 0 5 low_byte) (holding 0) 0 ten_bits ≡ false
one_byte_not_taken = refl

-- with byte 1 it is done
two_bytes_fine : is_error (face_of ten_bits) (register 0) (access write 0 5 two_bytes) ≡ false
two_bytes_fine = refl

two_bytes_taken : takes_write (face_of ten_bits) (register 0) (access write 0 5 two_bytes) (holding 0) 0 ten_bits ≡ true
two_bytes_taken = refl
