-- The block's step at work at a shadowed register: CFG at 0, whose field A of bits 3 to 0 takes its values by two equal writes.
use Rattle.std.proofs.Common.{◌≡◌, ℕ, Bool, true, false, List, [], ◌∷◌, None, refl, codes}
use Rattle.cg_svspec.specs.Bits.{bits}
use Rattle.cg_desc.specs.AccessTable.{next_value}
use Rattle.cg_desc.specs.Shadow.{stages, fails, next_phase}
use Rattle.cg_desc.specs.Target.{register}
use Rattle.cg_desc.specs.BlockStep.{State, read, write, takes_write, takes_read, equals_staged, writes_fields, word_at}
use Rattle.cg_desc.specs.declared.block.SwAccess.TheVariants.{Rw}
use Rattle.cg_desc.specs.declared.block.HwAccess.TheVariants.{Hro}
use Rattle.cg_desc.specs.declared.block.FieldDesc.{FieldDesc}
use Rattle.cg_desc.specs.declared.block.RegDesc.{RegDesc}
use Rattle.cg_desc.specs.declared.block.LaidFace.{LaidFace}
use Rattle.cg_rows_texts.proofs.Examples.Block.{access, every_byte, face_of, no_hardware, nowhere}

abbrev a_field : ℕ → ℕ → ℕ → FieldDesc
a_field msb lsb resval = record { name = codes "A"; msb = msb; lsb = lsb; sw = Rw; hw = Hro; resval = resval; mubi = false; at = nowhere }

abbrev shadowed_with : List FieldDesc → RegDesc
shadowed_with fields =
    record { name = codes "CFG"; fields = fields; regwen = None; regwen_at = nowhere; hwext = false; hwqe = true; hwre = false; shadowed = true; at = nowhere }

abbrev cfg : RegDesc
cfg = shadowed_with (a_field 3 0 3 ∷ [])

abbrev face : LaidFace
face = face_of cfg

-- the field has this value, this one is staged, and the register has this phase
abbrev state : ℕ → ℕ → Bool → State
state value staged phase = record { values = λ r f. bits 4 value; staged = λ r f. bits 4 staged; phase = λ i. phase }

-- ---- at first the field holds 3, and a read shows it

first_read : word_at face (state 3 0 false).values no_hardware (register 0) ≡ bits 32 3
unfolding bits
first_read = refl

-- ---- a first write of 5 takes effect, stages it, sets the phase, and leaves the field

staging_taken : takes_write face (register 0) (access write 0 5 every_byte) (state 3 0 false).values 0 cfg ≡ true
staging_taken = refl

staging_stages : stages false true ≡ true
staging_stages = refl

staging_phase : next_phase false true false ≡ true
staging_phase = refl

staging_writes_nothing : writes_fields face (register 0) (access write 0 5 every_byte) (state 3 0 false) 0 cfg ≡ false
unfolding bits
staging_writes_nothing = refl

-- what was staged before does not make a first write a second one
staging_equal : writes_fields face (register 0) (access write 0 0 every_byte) (state 3 0 false) 0 cfg ≡ false
unfolding bits
staging_equal = refl

-- ---- a second write of 5 commits, and clears the phase

commit_writes : writes_fields face (register 0) (access write 0 5 every_byte) (state 3 5 true) 0 cfg ≡ true
unfolding bits
commit_writes = refl

commit_value : next_value Rw true false (bits 4 5) (bits 4 3) ≡ bits 4 5
unfolding bits
commit_value = refl

commit_phase : next_phase true true false ≡ false
commit_phase = refl

-- ---- a read between two writes clears the phase, and shows what the field holds

between_taken : takes_read face (register 0) (access read 0 0 every_byte) 0 ≡ true
between_taken = refl

between_phase : next_phase true false true ≡ false
between_phase = refl

between_read : word_at face (state 5 6 true).values no_hardware (register 0) ≡ bits 32 5
unfolding bits
between_read = refl

-- ---- a second write of 7 after a first one of 6 fails: the update error shows, no field changes, and the phase is 0 again

failing_differs : equals_staged (access write 0 7 every_byte) (state 5 6 true).staged cfg ≡ false
unfolding bits
failing_differs = refl

failing_shows : fails true true false ≡ true
failing_shows = refl

failing_writes_nothing : writes_fields face (register 0) (access write 0 7 every_byte) (state 5 6 true) 0 cfg ≡ false
unfolding bits
failing_writes_nothing = refl

failing_phase : next_phase true true false ≡ false
failing_phase = refl

-- ---- with two fields both must be equal

abbrev two_fields : RegDesc
two_fields = shadowed_with (a_field 3 0 3 ∷ a_field 7 4 0 ∷ [])

-- 5 is staged in both: a write of 0x15 is equal in the low one and differs in the high one
one_differs : equals_staged (access write 0 21 every_byte) (state 3 5 true).staged two_fields ≡ false
unfolding bits
one_differs = refl

both_equal : equals_staged (access write 0 85 every_byte) (state 3 5 true).staged two_fields ≡ true
unfolding bits
both_equal = refl
