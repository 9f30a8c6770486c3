-- The block's step at work, with a gate, windows and registers that are read or written alone: LOCK at 0, CFG at 4 that LOCK gates, and
-- from 8 on a window BUF of two words.
use Rattle.std.proofs.Common.{◌≡◌, ℕ, Bool, true, false, List, [], ◌∷◌, Option, Some, None, refl, codes}
use Rattle.cg_svspec.specs.Bits.{bits, zeros}
use Rattle.cg_desc.specs.AccessTable.{after_hardware, next_value}
use Rattle.cg_desc.specs.Target.{target_at, register, word, error}
use Rattle.cg_desc.specs.BlockStep.{idle, read, write, Hardware, is_error, takes_write, takes_read, word_at}
use Rattle.cg_desc.specs.declared.block.SwAccess.{SwAccess}
use Rattle.cg_desc.specs.declared.block.SwAccess.TheVariants.{Ro, Rc, Rw, Rw1c, Wo}
use Rattle.cg_desc.specs.declared.block.HwAccess.TheVariants.{Hro}
use Rattle.cg_desc.specs.declared.block.FieldDesc.{FieldDesc}
use Rattle.cg_desc.specs.declared.block.RegDesc.{RegDesc}
use Rattle.cg_desc.specs.declared.block.WindowDesc.{WindowDesc}
use Rattle.cg_desc.specs.declared.block.Item.{Item}
use Rattle.cg_desc.specs.declared.block.Item.TheVariants.{Reg, Window}
use Rattle.cg_desc.specs.declared.block.LaidRow.{LaidRow}
use Rattle.cg_desc.specs.declared.block.LaidFace.{LaidFace}
use Rattle.cg_rows_texts.proofs.Examples.Block.{access, every_byte, face_of, holding, low_byte, no_hardware, nowhere}

-- ---- the block

abbrev field : SwAccess → ℕ → FieldDesc
field sw msb = record { name = codes "F"; msb = msb; lsb = 0; sw = sw; hw = Hro; resval = 0; mubi = false; at = nowhere }

abbrev register_with : List ℕ → Option (List ℕ) → Bool → FieldDesc → RegDesc
register_with name gate hwext f =
    record { name = name; fields = f ∷ []; regwen = gate; regwen_at = nowhere; hwext = hwext; hwqe = false; hwre = false; shadowed = false; at = nowhere }

abbrev lock : RegDesc
lock = register_with (codes "LOCK") None false (field Rw 0)

-- its gate is spelled in other letters
abbrev cfg : RegDesc
cfg = register_with (codes "CFG") (Some (codes "Lock")) false (field Rw 31)

abbrev window_of : SwAccess → Bool → WindowDesc
window_of sw byte_write = record { name = codes "BUF"; items = 2; byte_write = byte_write; sw = sw; at = nowhere }

abbrev row : ℕ → ℕ → Item → LaidRow
row first words item = record { first = first; words = words; item = item }

abbrev face_with : WindowDesc → LaidFace
face_with w = record { name = None; rows = row 0 1 (Reg lock) ∷ row 4 1 (Reg cfg) ∷ row 8 2 (Window w) ∷ []; size = 16 }

abbrev face : LaidFace
face = face_with (window_of Rw false)

-- ---- addresses

second_register : target_at face 7 ≡ register 1
second_register = refl

last_word : target_at face 12 ≡ word 2 1
last_word = refl

behind_the_window : target_at face 16 ≡ error
behind_the_window = refl

far_above : target_at face 260 ≡ error
far_above = refl

-- ---- a gate

-- while it is closed, a write is no error and has no effect
closed_fine : is_error face (register 1) (access write 4 5 every_byte) ≡ false
closed_fine = refl

closed_not_taken : takes_write face (register 1) (access write 4 5 every_byte) (holding 0) 1 cfg ≡ false
unfolding bits
closed_not_taken = refl

open_taken : takes_write face (register 1) (access write 4 5 every_byte) (holding 1) 1 cfg ≡ true
unfolding bits
open_taken = refl

-- the gate itself has none
gate_taken : takes_write face (register 0) (access write 0 1 low_byte) (holding 0) 0 lock ≡ true
gate_taken = refl

-- a write reaches its register alone
other_not_taken : takes_write face (register 0) (access write 0 1 every_byte) (holding 1) 1 cfg ≡ false
other_not_taken = refl

-- ---- a window

-- it takes whole words, unless it takes bytes
part_of_a_word : is_error face (word 2 0) (access write 8 5 low_byte) ≡ true
part_of_a_word = refl

whole_word : is_error face (word 2 0) (access write 8 5 every_byte) ≡ false
whole_word = refl

byte_of_a_word : is_error (face_with (window_of Rw true)) (word 2 0) (access write 8 5 low_byte) ≡ false
byte_of_a_word = refl

-- one that is read alone takes no write, and one that is written alone gives no read
read_alone : is_error (face_with (window_of Ro false)) (word 2 0) (access write 8 5 every_byte) ≡ true
read_alone = refl

written_alone : is_error (face_with (window_of Wo false)) (word 2 0) (access read 8 0 every_byte) ≡ true
written_alone = refl

-- a read shows what hardware brings
abbrev sevens : Hardware
sevens = record { d = λ r f. bits 32 7; de = λ r f. false; read_data = λ w. bits 32 7 }

window_word : word_at face (holding 0) sevens (word 2 1) ≡ bits 32 7
unfolding bits
window_word = refl

-- ---- reads

-- a register that is written alone shows zeros, and its read is no error
abbrev hidden : LaidFace
hidden = face_of (register_with (codes "KEY") None false (field Wo 31))

hidden_fine : is_error hidden (register 0) (access read 0 0 every_byte) ≡ false
hidden_fine = refl

hidden_value : word_at hidden (holding 5) no_hardware (register 0) ≡ zeros 32
hidden_value = refl

-- an external register shows what hardware brings, and not what is stored
external_value : word_at (face_of (register_with (codes "RAW") None true (field Ro 31))) (holding 5) sevens (register 0) ≡ bits 32 7
unfolding bits
external_value = refl

-- a read that clears: all of it after the read, and nothing after a write
cleared : next_value Rc false true (bits 4 0) (bits 4 9) ≡ bits 4 0
unfolding bits
cleared = refl

kept : next_value Rc true false (bits 4 0) (bits 4 9) ≡ bits 4 9
kept = refl

-- hardware's write of this clock comes first, and then the ones that are written clear
both_write : next_value Rw1c true false (bits 4 1) (after_hardware true (bits 4 9) (bits 4 6)) ≡ bits 4 8
unfolding bits
both_write = refl

-- ---- no access

idle_fine : is_error face error (access idle 16 0 every_byte) ≡ false
idle_fine = refl

idle_takes_nothing : takes_read face (register 0) (access idle 0 0 every_byte) 0 ≡ false
idle_takes_nothing = refl
