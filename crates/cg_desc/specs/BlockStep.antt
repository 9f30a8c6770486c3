-- The step of a register block in one clock. It takes a target and the clock's wires, decodes no address, and knows no wire of
-- the text that is written (OpenTitan Register Tool; TL-UL register adapter, its register side).
use Rattle.std.specs.Prelude.{◌≡◌, ℕ, suc, ◌+◌, ◌-◌, ◌/◌, max, eqb, Bool, true, false, not, cond, ◌&&◌, ◌||◌, List, [], ◌∷◌, ◌++◌, take, drop, Option, Some, None}
use Rattle.std.specs.List.{list_all}
use Rattle.cg_svspec.specs.Bits.{Bits, bits, any_bit, all_bits, same_bits, zeros, ones}
use Rattle.cg_desc.specs.AccessTable.{is_readable, is_writable, hardware_writes, hardware_sees, after_hardware, next_value}
use Rattle.cg_desc.specs.Gates.{register_named}
use Rattle.cg_desc.specs.Shadow.{is_shadowed, stages, commits, fails, next_phase}
use Rattle.cg_desc.specs.Target.{Target, register, word, error}
use Rattle.cg_desc.specs.declared.block.SwAccess.{SwAccess}
use Rattle.cg_desc.specs.declared.block.SwAccess.TheVariants.{Ro, Wo}
use Rattle.cg_desc.specs.declared.block.FieldDesc.{FieldDesc}
use Rattle.cg_desc.specs.declared.block.RegDesc.{RegDesc}
use Rattle.cg_desc.specs.declared.block.WindowDesc.{WindowDesc}
use Rattle.cg_desc.specs.declared.block.Item.{Item}
use Rattle.cg_desc.specs.declared.block.Item.TheVariants.{Reg, Window, SkipTo, Reserved}
use Rattle.cg_desc.specs.declared.block.LaidRow.{LaidRow}
use Rattle.cg_desc.specs.declared.block.LaidFace.{LaidFace}

-- ---- the wires of a clock

-- a clock has one access at most
pub data AccessKind : Type 0 where
  idle : AccessKind
  read : AccessKind
  write : AccessKind

-- what software asks for: the address is below 2^32, the data have 32 bits, and there is one strobe for each of 4 bytes
pub record Access : Type 0 where
  pub kind : AccessKind
  pub address : ℕ
  pub data_in : Bits
  pub strobes : Bits

abbrev pub is_read : AccessKind → Bool
is_read idle = false
is_read read = true
is_read write = false

abbrev pub is_write : AccessKind → Bool
is_write idle = false
is_write read = false
is_write write = true

-- a value for each field of each register
abbrev pub Fields : Type 0
Fields = RegDesc → FieldDesc → Bits

-- What an interface keeps from clock to clock: the stored fields' values and, of shadowed registers, the staged value of each field,
-- and the phase of the register in the row of each number.
pub record State : Type 0 where
  pub values : Fields
  pub staged : Fields
  pub phase : ℕ → Bool

-- what hardware brings: a value and a strobe for each field, and the read data of each window
pub record Hardware : Type 0 where
  pub d : RegDesc → FieldDesc → Bits
  pub de : RegDesc → FieldDesc → Bool
  pub read_data : WindowDesc → Bits

-- ---- which access is accepted

abbrev pub highest_bit : List FieldDesc → ℕ
highest_bit [] = 0
highest_bit (f ∷ fs) = max f.msb (highest_bit fs)

-- the bytes from byte 0 up to the one that holds the register's highest used bit
abbrev pub needed_bytes : RegDesc → ℕ
needed_bytes r = suc (highest_bit r.fields / 8)

abbrev pub is_read_only : SwAccess → Bool
is_read_only Ro = true
is_read_only _ = false

abbrev pub is_write_only : SwAccess → Bool
is_write_only Wo = true
is_write_only _ = false

-- A write to a register strobes every byte that it needs. A write to a window strobes all four bytes, unless it takes single
-- ones, and a window that is read only takes none. A window that is write only gives no read.
abbrev pub allows : Item → AccessKind → Bits → Bool
allows (Reg r) kind strobes = is_read kind || (is_write kind && all_bits (take (needed_bytes r) strobes))
allows (Window w) kind strobes =
    (is_read kind && not (is_write_only w.sw)) || (is_write kind && (not (is_read_only w.sw) && (w.byte_write || all_bits strobes)))
allows (SkipTo to at) kind strobes = false
allows (Reserved words at) kind strobes = false

-- the item of the row of this number
abbrev pub item_at : List LaidRow → ℕ → Option Item
item_at [] i = None
item_at (row ∷ rows) i = cond (eqb i 0) (Some row.item) (item_at rows (i - 1))

abbrev pub allows_at : Option Item → AccessKind → Bits → Bool
allows_at None kind strobes = false
allows_at (Some item) kind strobes = allows item kind strobes

-- there is an access, the target is no error, the strobes suffice, and a window's kind allows it
abbrev pub is_accepted : LaidFace → Target → Access → Bool
is_accepted face (register i) a = allows_at (item_at face.rows i) a.kind a.strobes
is_accepted face (word i index) a = allows_at (item_at face.rows i) a.kind a.strobes
is_accepted face error a = false

-- there is an access that is not accepted
abbrev pub is_error : LaidFace → Target → Access → Bool
is_error face target a = (is_write a.kind || is_read a.kind) && not (is_accepted face target a)

-- ---- what a read shows

-- The bits of a register's word from bit `from` on: a readable field's value, and 0 elsewhere.
abbrev pub word_from : (FieldDesc → Bits) → ℕ → List FieldDesc → Bits
word_from value from [] = zeros (32 - from)
word_from value from (f ∷ fs) =
    zeros (f.lsb - from) ++ (cond (is_readable f.sw) (value f) (zeros (suc f.msb - f.lsb)) ++ word_from value (suc f.msb) fs)

-- a stored field shows its value, and one of an external register what hardware brings
abbrev pub shown_value : Fields → Hardware → RegDesc → FieldDesc → Bits
shown_value fields hardware r f = cond r.hwext (hardware.d r f) (fields r f)

abbrev pub item_word : Fields → Hardware → Option Item → Bits
item_word fields hardware (Some (Reg r)) = word_from (shown_value fields hardware r) 0 r.fields
item_word fields hardware (Some (Window w)) = hardware.read_data w
item_word fields hardware _ = ones 32

-- the word that an accepted read shows
abbrev pub word_at : LaidFace → Fields → Hardware → Target → Bits
word_at face fields hardware (register i) = item_word fields hardware (item_at face.rows i)
word_at face fields hardware (word i index) = item_word fields hardware (item_at face.rows i)
word_at face fields hardware error = ones 32

-- ---- what a field takes from software

abbrev pub is_at : Target → ℕ → Bool
is_at (register j) i = eqb j i
is_at (word j index) i = eqb j i
is_at error i = false

-- the first field of a gating register, which has just one, holds a value other than 0
abbrev pub is_open_at : Fields → Option RegDesc → Bool
is_open_at fields None = false
is_open_at fields (Some g) = first_is_set g.fields where
  first_is_set : List FieldDesc → Bool
  first_is_set [] = false
  first_is_set (f ∷ fs) = any_bit (fields g f)

-- the register has no gate, or its gate holds a value other than 0
abbrev pub is_open : LaidFace → Fields → RegDesc → Bool
is_open face fields r = open_by r.regwen where
  open_by : Option (List ℕ) → Bool
  open_by None = true
  open_by (Some name) = is_open_at fields (register_named face.rows name)

-- an accepted write at the row of number i, whose register's gate is open
abbrev pub takes_write : LaidFace → Target → Access → Fields → ℕ → RegDesc → Bool
takes_write face target a fields i r = is_write a.kind && (is_accepted face target a && (is_at target i && is_open face fields r))

-- an accepted read at the row of number i
abbrev pub takes_read : LaidFace → Target → Access → ℕ → Bool
takes_read face target a i = is_read a.kind && (is_accepted face target a && is_at target i)

-- the field's bits of the write data
abbrev pub bits_of_field : FieldDesc → Bits → Bits
bits_of_field f data_in = take (suc f.msb - f.lsb) (drop f.lsb data_in)

-- every field's written value equals its staged one
abbrev pub equals_staged : Access → Fields → RegDesc → Bool
equals_staged a staged r = list_all (λ f. same_bits (bits_of_field f a.data_in) (staged r f)) r.fields

-- a write of the register that takes effect and, where the register is shadowed, commits
abbrev pub writes_fields : LaidFace → Target → Access → State → ℕ → RegDesc → Bool
writes_fields face target a state i r =
    cond (is_shadowed r) (commits (state.phase i) (takes_write face target a state.values i r) (equals_staged a state.staged r)) (takes_write face target a state.values i r)

-- ---- what hardware sees

-- the views that a field has; a field of an external register has no storage
abbrev pub shows_q : RegDesc → FieldDesc → Bool
shows_q r f = cond r.hwext (is_writable f.sw) (hardware_sees f.hw)

abbrev pub shows_qe : RegDesc → FieldDesc → Bool
shows_qe r f = cond r.hwext (is_writable f.sw) r.hwqe

abbrev pub shows_re : RegDesc → FieldDesc → Bool
shows_re r f = cond r.hwext (is_readable f.sw) r.hwre

-- ---- what hardware brings

-- a value for a stored field that it writes, and for one of an external register that software reads
abbrev pub brings_d : RegDesc → FieldDesc → Bool
brings_d r f = cond r.hwext (is_readable f.sw) (hardware_writes f.hw)

-- a strobe with it, for a stored field
abbrev pub brings_de : RegDesc → FieldDesc → Bool
brings_de r f = not r.hwext && hardware_writes f.hw

-- ---- the step

-- what comes of a clock: the response, the state after it, and what hardware sees
pub record Outcome : Type 0 where
  pub has_error : Bool
  pub data_out : Bits
  pub next : State
  pub q : Fields
  pub qe : RegDesc → FieldDesc → Bool
  pub re : RegDesc → FieldDesc → Bool
  pub update_error : RegDesc → Bool
  pub window_we : WindowDesc → Bool
  pub window_re : WindowDesc → Bool
  pub window_address : WindowDesc → Bits
  pub window_data : WindowDesc → Bits
  pub window_strobes : WindowDesc → Bits

-- a fact where a test holds
abbrev pub Where : Bool → Type 0 → Type 0
Where b P = cond b P (Unit {0})

-- a stored field takes its next value, where hardware's strobe counts only for a field that hardware writes
pub record FieldSteps (face : LaidFace) (target : Target) (a : Access) (state : State) (hardware : Hardware) (out : Outcome) (i : ℕ) (r : RegDesc) (f : FieldDesc) : Type 0 where
  pub stored : Where (not r.hwext)
      (out.next.values r f ≡ next_value f.sw (writes_fields face target a state i r) (takes_read face target a i) (bits_of_field f a.data_in)
      (after_hardware (hardware_writes f.hw && hardware.de r f) (hardware.d r f) (state.values r f)))
  pub value_seen : Where (shows_q r f) (out.q r f ≡ cond r.hwext (bits_of_field f a.data_in) (state.values r f))
  pub write_seen : Where (shows_qe r f) (out.qe r f ≡ writes_fields face target a state i r)
  pub read_seen : Where (shows_re r f) (out.re r f ≡ takes_read face target a i)

-- a window shows strobes for accepted accesses alone, and address, data and byte strobes as they are
pub record WindowSteps (face : LaidFace) (target : Target) (a : Access) (out : Outcome) (i : ℕ) (w : WindowDesc) : Type 0 where
  pub write_seen : out.window_we w ≡ (is_write a.kind && (is_accepted face target a && is_at target i))
  pub read_seen : out.window_re w ≡ takes_read face target a i
  pub address_seen : out.window_address w ≡ bits 32 a.address
  pub data_seen : out.window_data w ≡ a.data_in
  pub strobes_seen : out.window_strobes w ≡ a.strobes

abbrev pub EachField : (FieldDesc → Type 0) → List FieldDesc → Type 0
EachField P [] = Unit {0}
EachField P (f ∷ fs) = P f × EachField P fs

-- A shadowed register stages what a first write that takes effect brings, and its staged values otherwise stay. Its phase tells
-- whether a first write was made. The update error is 1 exactly where a second one takes effect and differs.
pub record ShadowSteps (face : LaidFace) (target : Target) (a : Access) (state : State) (out : Outcome) (i : ℕ) (r : RegDesc) : Type 0 where
  pub staged : EachField (λ f. out.next.staged r f ≡ cond (stages (state.phase i) (takes_write face target a state.values i r)) (bits_of_field f a.data_in) (state.staged r f)) r.fields
  pub phase : out.next.phase i ≡ next_phase (state.phase i) (takes_write face target a state.values i r) (takes_read face target a i)
  pub update_error : out.update_error r ≡ fails (state.phase i) (takes_write face target a state.values i r) (equals_staged a state.staged r)

pub record RegisterSteps (face : LaidFace) (target : Target) (a : Access) (state : State) (hardware : Hardware) (out : Outcome) (i : ℕ) (r : RegDesc) : Type 0 where
  pub fields : EachField (FieldSteps face target a state hardware out i r) r.fields
  pub shadow : Where (is_shadowed r) (ShadowSteps face target a state out i r)

abbrev pub ItemSteps : LaidFace → Target → Access → State → Hardware → Outcome → ℕ → Item → Type 0
ItemSteps face target a state hardware out i (Reg r) = RegisterSteps face target a state hardware out i r
ItemSteps face target a state hardware out i (Window w) = WindowSteps face target a out i w
ItemSteps face target a state hardware out i (SkipTo to at) = Unit {0}
ItemSteps face target a state hardware out i (Reserved words at) = Unit {0}

-- each row with its number, from this number on
abbrev pub EachRow : (ℕ → Item → Type 0) → ℕ → List LaidRow → Type 0
EachRow P i [] = Unit {0}
EachRow P i (row ∷ rows) = P i row.item × EachRow P (i + 1) rows

-- The step of an interface at a target. After an error the data are all ones, after an accepted read they are the row's word, and
-- otherwise nothing is said of them.
pub record BlockStep (face : LaidFace) (target : Target) (a : Access) (state : State) (hardware : Hardware) (out : Outcome) : Type 0 where
  pub response : out.has_error ≡ is_error face target a
  pub data_of_error : Where (is_error face target a) (out.data_out ≡ ones 32)
  pub data_of_read : Where (is_read a.kind && is_accepted face target a) (out.data_out ≡ word_at face state.values hardware target)
  pub each : EachRow (ItemSteps face target a state hardware out) 0 face.rows
