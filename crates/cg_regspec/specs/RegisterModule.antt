-- The register module of a laid interface: ports and entries in their order and spelling.
use Rattle.std.specs.Prelude.{ℕ, zero, suc, ◌+◌, ◌-◌, ◌/◌, ◌^◌, eqb, leb, Bool, true, false, ◌&&◌, cond, List, [], ◌∷◌, ◌++◌, map, codes, Option, Some, None}
use Rattle.std.specs.Str.{bytes_eq, str_to_ascii_lowercase}
use Rattle.cg_svspec.specs.Tree.{Expression, net, cut, lit, cat, inv, any, and, or, equal, pick, Expressions, none, more, Port, Parameter, Connection, Entry, wire, drive, assign, inst, Module}
use Rattle.cg_svspec.specs.Register.{access_ports, input_port, output_port}
use Rattle.cg_svspec.specs.Value.{flop_name}
use Rattle.cg_desc.specs.declared.block.SwAccess.{SwAccess}
use Rattle.cg_desc.specs.declared.block.SwAccess.TheVariants.{Ro, Rc, Rw, R0w1c, Rw1s, Rw1c, Rw0c, Wo, Nothing}
use Rattle.cg_desc.specs.declared.block.HwAccess.{HwAccess}
use Rattle.cg_desc.specs.declared.block.HwAccess.TheVariants as hardware
use Rattle.cg_desc.specs.declared.block.FieldDesc.{FieldDesc}
use Rattle.cg_desc.specs.declared.block.RegDesc.{RegDesc}
use Rattle.cg_desc.specs.declared.block.WindowDesc.{WindowDesc}
use Rattle.cg_desc.specs.declared.block.Item.{Item}
use Rattle.cg_desc.specs.declared.block.Item.TheVariants.{Reg, Window, SkipTo, Reserved}
use Rattle.cg_desc.specs.declared.block.LaidRow.{LaidRow}
use Rattle.cg_desc.specs.declared.block.LaidFace.{LaidFace}
use Rattle.cg_desc.specs.declared.block.LaidBlock.{LaidBlock}
use Rattle.cg_regspec.specs.NetNames.{reg_we, reg_re, reg_addr, reg_wdata, reg_be, reg_rdata, reg_error, hit_any, wbad_any, rbad_any, hit, wbad, rbad, we, re, rd, phase_net, next_phase_net, equal_net, commit_net, phase_instance, state_net, hold_net, next_net, q_net, qe_net, re_net, d_net, de_net, staged_net, next_staged_net, flop_instance, staged_instance, update_error_net, window_we, window_re, window_addr, window_wdata, window_be, window_rdata}

-- ---- ports

abbrev pub width_of : FieldDesc → ℕ
width_of f = suc f.msb - f.lsb

-- a port where the test holds
abbrev pub port_if : Bool → Port → List Port
port_if b p = cond b (p ∷ []) []

-- What each kind has, in a table of its own: the block's step is told by another, and the law compares the two.

-- a register's word has the bits of a field of this kind
abbrev pub is_in_word : SwAccess → Bool
is_in_word Ro = true
is_in_word Rc = true
is_in_word Rw = true
is_in_word Rw1s = true
is_in_word Rw1c = true
is_in_word Rw0c = true
is_in_word R0w1c = false
is_in_word Wo = false
is_in_word Nothing = false

-- a field of this kind takes bits of the write data
abbrev pub takes_data : SwAccess → Bool
takes_data Rw = true
takes_data Wo = true
takes_data Rw1s = true
takes_data Rw1c = true
takes_data Rw0c = true
takes_data R0w1c = true
takes_data Ro = false
takes_data Rc = false
takes_data Nothing = false

-- a stored field of this kind has an output for hardware
abbrev pub hardware_gets : HwAccess → Bool
hardware_gets hardware.Hro = true
hardware_gets hardware.Hrw = true
hardware_gets hardware.Hwo = false
hardware_gets hardware.Nothing = false

-- a stored field of this kind has inputs from hardware
abbrev pub hardware_sets : HwAccess → Bool
hardware_sets hardware.Hwo = true
hardware_sets hardware.Hrw = true
hardware_sets hardware.Hro = false
hardware_sets hardware.Nothing = false

-- Which ports a field has. Of a stored field: `q` where hardware gets it, `d` and `de` where hardware sets it, `qe` and `re` where
-- its register asks for them. Of a field of an external register: `q` and `qe` where it takes data, `re` and `d` where the word has it.
abbrev pub has_q : RegDesc → FieldDesc → Bool
has_q r f = cond r.hwext (takes_data f.sw) (hardware_gets f.hw)

abbrev pub has_qe : RegDesc → FieldDesc → Bool
has_qe r f = cond r.hwext (takes_data f.sw) r.hwqe

abbrev pub has_re : RegDesc → FieldDesc → Bool
has_re r f = cond r.hwext (is_in_word f.sw) r.hwre

abbrev pub has_d : RegDesc → FieldDesc → Bool
has_d r f = cond r.hwext (is_in_word f.sw) (hardware_sets f.hw)

abbrev pub has_de : RegDesc → FieldDesc → Bool
has_de r f = cond r.hwext false (hardware_sets f.hw)

-- a register has a phase, and its fields staged values, where it is shadowed and stores them
abbrev pub has_shadow : RegDesc → Bool
has_shadow r = cond r.hwext false r.shadowed

abbrev pub field_ports : RegDesc → FieldDesc → List Port
field_ports r f =
    port_if (has_q r f) (output_port (width_of f) (q_net r f))
    ++ (port_if (has_qe r f) (output_port 1 (qe_net r f))
    ++ (port_if (has_re r f) (output_port 1 (re_net r f))
    ++ (port_if (has_d r f) (input_port (width_of f) (d_net r f))
    ++ port_if (has_de r f) (input_port 1 (de_net r f)))))

abbrev pub fields_ports : RegDesc → List FieldDesc → List Port
fields_ports r [] = []
fields_ports r (f ∷ fs) = field_ports r f ++ fields_ports r fs

abbrev pub window_ports : WindowDesc → List Port
window_ports w =
    output_port 1 (window_we w) ∷ output_port 1 (window_re w) ∷ output_port 32 (window_addr w) ∷ output_port 32 (window_wdata w)
    ∷ output_port 4 (window_be w) ∷ input_port 32 (window_rdata w) ∷ []

abbrev pub item_ports : Item → List Port
item_ports (Reg r) = fields_ports r r.fields ++ port_if (has_shadow r) (output_port 1 (update_error_net r))
item_ports (Window w) = window_ports w
item_ports (SkipTo to at) = []
item_ports (Reserved words at) = []

abbrev pub rows_ports : List LaidRow → List Port
rows_ports [] = []
rows_ports (row ∷ rows) = item_ports row.item ++ rows_ports rows

-- ---- 1: the stored fields, with the staged values, and the phases

-- an entry where the test holds
abbrev pub entry_if : Bool → Entry → List Entry
entry_if b e = cond b (e ∷ []) []

abbrev pub states_of : RegDesc → List FieldDesc → List Entry
states_of r [] = []
states_of r (f ∷ fs) = wire (width_of f) (state_net r f) ∷ (entry_if (has_shadow r) (wire (width_of f) (staged_net r f)) ++ states_of r fs)

abbrev pub item_states : ℕ → Item → List Entry
item_states i (Reg r) = cond r.hwext [] (states_of r r.fields) ++ entry_if (has_shadow r) (wire 1 (phase_net i))
item_states i (Window w) = []
item_states i (SkipTo to at) = []
item_states i (Reserved words at) = []

abbrev pub rows_states : ℕ → List LaidRow → List Entry
rows_states i [] = []
rows_states i (row ∷ rows) = item_states i row.item ++ rows_states (i + 1) rows

-- ---- 2: the rows

-- bits msb down to lsb of a net of this width: the bare name where all its bits are meant
abbrev pub slice : List ℕ → ℕ → ℕ → ℕ → Expression
slice n width msb lsb = cond (eqb lsb 0 && eqb (suc msb) width) (net n) (cut n msb lsb)

-- One term for each set bit of `items` below `bits`, the highest first; `at` is the first word that is left.
unfoldable pub window_terms : ℕ → ℕ → ℕ → Expressions
window_terms zero items at = none
window_terms (suc b) items at =
    cond (leb (2 ^ b) items)
    (more (equal (cut reg_addr 31 (b + 2)) (lit (30 - b) (at / 2 ^ b))) (window_terms b (items - 2 ^ b) (at + 2 ^ b)))
    (window_terms b items at)

-- the address is in the row
abbrev pub hit_of : LaidRow → Item → Expression
hit_of row (Reg r) = equal (cut reg_addr 31 2) (lit 30 (row.first / 4))
hit_of row (Window w) = any (cat (window_terms 23 w.items (row.first / 4)))
hit_of row item = lit 1 0

-- The number of the byte with the highest bit of the last field, behind fields that reach into this byte. Fields stand in the
-- order of their bits.
abbrev pub last_byte : ℕ → List FieldDesc → ℕ
last_byte byte [] = byte
last_byte byte (f ∷ fs) = last_byte (f.msb / 8) fs

-- some byte from 0 to k is not strobed
abbrev pub lacks_strobe : ℕ → Expression
lacks_strobe k = any (inv (slice reg_be 4 k 0))

-- what refuses a write to a window: of one that is read only every write, and of one that takes single bytes none
abbrev pub window_write_refused : SwAccess → Bool → Expression
window_write_refused Ro byte_write = lit 1 1
window_write_refused sw true = lit 1 0
window_write_refused sw false = lacks_strobe 3

-- what refuses a read of one: of one that is write only every read
abbrev pub window_read_refused : SwAccess → Expression
window_read_refused Wo = lit 1 1
window_read_refused sw = lit 1 0

abbrev pub write_refused : Item → Expression
write_refused (Reg r) = lacks_strobe (last_byte 0 r.fields)
write_refused (Window w) = window_write_refused w.sw w.byte_write
write_refused item = lit 1 0

abbrev pub read_refused : Item → Expression
read_refused (Window w) = window_read_refused w.sw
read_refused item = lit 1 0

-- the net of a register's first field, if it has one
abbrev pub first_state : RegDesc → List FieldDesc → Option (List ℕ)
first_state r [] = None
first_state r (f ∷ fs) = Some (state_net r f)

-- the two names are one in nets, which are in lower case
abbrev pub same_in_nets : List ℕ → List ℕ → Bool
same_in_nets m n = bytes_eq (str_to_ascii_lowercase m) (str_to_ascii_lowercase n)

-- the net of the gate of this name: of the first field of the first register with the name, or of `later`
abbrev pub gate_or : Item → List ℕ → Option (List ℕ) → Option (List ℕ)
gate_or (Reg r) name later = cond (same_in_nets r.name name) (first_state r r.fields) later
gate_or item name later = later

abbrev pub gate_net : List LaidRow → List ℕ → Option (List ℕ)
gate_net [] name = None
gate_net (row ∷ rows) name = gate_or row.item name (gate_net rows name)

abbrev pub gated : Expression → Option (List ℕ) → Expression
gated x None = x
gated x (Some g) = and x (net g)

-- the gate of a register among all rows, if it has one
abbrev pub gate_of : List LaidRow → Option (List ℕ) → Option (List ℕ)
gate_of all None = None
gate_of all (Some name) = gate_net all name

abbrev pub item_gate : List LaidRow → Item → Option (List ℕ)
item_gate all (Reg r) = gate_of all r.regwen
item_gate all item = None

-- zeros, where there is at least one
abbrev pub gap : ℕ → Expressions → Expressions
gap zero below = below
gap (suc w) below = more (lit (suc w) 0) below

-- a field's part of its register's word
abbrev pub shown_part : RegDesc → FieldDesc → Expression
shown_part r f = cond (is_in_word f.sw) (net (cond r.hwext (d_net r f) (state_net r f))) (lit (width_of f) 0)

-- The parts of a register's word from bit 31 down: `from` is the first bit that is left, and `below` what stands under it.
abbrev pub word_parts : RegDesc → ℕ → Expressions → List FieldDesc → Expressions
word_parts r from below [] = gap (32 - from) below
word_parts r from below (f ∷ fs) = word_parts r (suc f.msb) (more (shown_part r f) (gap (f.lsb - from) below)) fs

abbrev pub item_word_text : Item → Expression
item_word_text (Reg r) = cat (word_parts r 0 none r.fields)
item_word_text (Window w) = net (window_rdata w)
item_word_text item = lit 32 (2 ^ 32 - 1)

-- the wires of row i among all rows, `before` being what is read where no row from i on is hit
abbrev pub row_entries : List LaidRow → ℕ → Expression → LaidRow → List Entry
row_entries all i before row =
    drive 1 (hit i) (hit_of row row.item)
    ∷ drive 1 (wbad i) (and (net (hit i)) (write_refused row.item))
    ∷ drive 1 (rbad i) (and (net (hit i)) (read_refused row.item))
    ∷ drive 1 (we i) (gated (and (and (net reg_we) (net (hit i))) (inv (net (wbad i)))) (item_gate all row.item))
    ∷ drive 1 (re i) (and (and (net reg_re) (net (hit i))) (inv (net (rbad i))))
    ∷ drive 32 (rd i) (pick (net (hit i)) (item_word_text row.item) before)
    ∷ []

abbrev pub rows_entries : List LaidRow → ℕ → Expression → List LaidRow → List Entry
rows_entries all i before [] = []
rows_entries all i before (row ∷ rows) = row_entries all i before row ++ rows_entries all (i + 1) (net (rd i)) rows

-- ---- 3: the answer

abbrev pub all_ones : Expression
all_ones = lit 32 (2 ^ 32 - 1)

-- what the last row reads
abbrev pub last_rd : ℕ → Expression → List LaidRow → Expression
last_rd i before [] = before
last_rd i before (row ∷ rows) = last_rd (i + 1) (net (rd i)) rows

-- the nets of the rows, the highest row first
abbrev pub highest_first : (ℕ → List ℕ) → ℕ → Expressions → List LaidRow → Expressions
highest_first name i below [] = below
highest_first name i below (row ∷ rows) = highest_first name (i + 1) (more (net (name i)) below) rows

-- nothing is hit, or what is hit refuses
abbrev pub refused : List ℕ → Expression
refused bad = or (inv (net hit_any)) (net bad)

abbrev pub answer_entries : List LaidRow → List Entry
answer_entries rows =
    drive 1 hit_any (any (cat (highest_first hit 0 none rows)))
    ∷ drive 1 wbad_any (any (cat (highest_first wbad 0 none rows)))
    ∷ drive 1 rbad_any (any (cat (highest_first rbad 0 none rows)))
    ∷ assign reg_error (or (and (net reg_we) (refused wbad_any)) (and (net reg_re) (refused rbad_any)))
    ∷ assign reg_rdata (pick (net reg_error) all_ones (last_rd 0 all_ones rows))
    ∷ []

-- ---- 4: the fields, then the windows

-- the field's bits of the write data
abbrev pub written_bits : FieldDesc → Expression
written_bits f = slice reg_wdata 32 f.msb f.lsb

abbrev pub zero_bits : ℕ → Expression
zero_bits w = lit w 0

abbrev pub one_bits : ℕ → Expression
one_bits w = lit w (2 ^ w - 1)

-- The field's next value over the value after hardware, where these nets tell that a write changes it and that a read does.
abbrev pub next_of : SwAccess → List ℕ → List ℕ → Expression → Expression → ℕ → Expression
next_of Rw writes reads data_in h w = pick (net writes) data_in h
next_of Wo writes reads data_in h w = pick (net writes) data_in h
next_of Ro writes reads data_in h w = h
next_of Nothing writes reads data_in h w = h
next_of Rw1s writes reads data_in h w = or h (pick (net writes) data_in (zero_bits w))
next_of Rw1c writes reads data_in h w = and h (pick (net writes) (inv data_in) (one_bits w))
next_of R0w1c writes reads data_in h w = and h (pick (net writes) (inv data_in) (one_bits w))
next_of Rw0c writes reads data_in h w = and h (pick (net writes) data_in (one_bits w))
next_of Rc writes reads data_in h w = pick (net reads) (zero_bits w) h

abbrev pub hold_of : RegDesc → FieldDesc → Expression
hold_of r f = cond (hardware_sets f.hw) (pick (net (de_net r f)) (net (d_net r f)) (net (state_net r f))) (net (state_net r f))

-- the net that tells that a write changes the fields of the register in row i
abbrev pub write_net : ℕ → RegDesc → List ℕ
write_net i r = cond (has_shadow r) (commit_net i) (we i)

-- the assigns of the field's outputs
abbrev pub field_views : ℕ → RegDesc → FieldDesc → List Entry
field_views i r f =
    entry_if (has_q r f) (assign (q_net r f) (cond r.hwext (written_bits f) (net (state_net r f))))
    ++ (entry_if (has_qe r f) (assign (qe_net r f) (net (write_net i r)))
    ++ entry_if (has_re r f) (assign (re_net r f) (net (re i))))

-- what is staged next: in a write at phase 0 what is written
abbrev pub stage_of : ℕ → RegDesc → FieldDesc → Expression
stage_of i r f = pick (and (net (we i)) (inv (net (phase_net i)))) (written_bits f) (net (staged_net r f))

abbrev pub field_updates : ℕ → RegDesc → FieldDesc → List Entry
field_updates i r f =
    drive (width_of f) (hold_net r f) (hold_of r f)
    ∷ drive (width_of f) (next_net r f) (next_of f.sw (write_net i r) (re i) (written_bits f) (net (hold_net r f)) (width_of f))
    ∷ entry_if (has_shadow r) (drive (width_of f) (next_staged_net r f) (stage_of i r f))

abbrev pub field_entries : ℕ → RegDesc → FieldDesc → List Entry
field_entries i r f = cond r.hwext [] (field_updates i r f) ++ field_views i r f

abbrev pub fields_entries : ℕ → RegDesc → List FieldDesc → List Entry
fields_entries i r [] = []
fields_entries i r (f ∷ fs) = field_entries i r f ++ fields_entries i r fs

-- the field's written value equals its staged one
abbrev pub equals : RegDesc → FieldDesc → Expression
equals r f = equal (net (staged_net r f)) (written_bits f)

-- and so does that of each of these
abbrev pub equals_and : Expression → RegDesc → List FieldDesc → Expression
equals_and x r [] = x
equals_and x r (f ∷ fs) = equals_and (and x (equals r f)) r fs

abbrev pub all_equal : RegDesc → List FieldDesc → Expression
all_equal r [] = lit 1 1
all_equal r (f ∷ fs) = equals_and (equals r f) r fs

-- a write at phase 1
abbrev pub second_write : ℕ → Expression
second_write i = and (net (we i)) (net (phase_net i))

-- A write turns the phase, and a read clears it. A second write commits where it is equal, and else the update error shows.
abbrev pub shadow_entries : ℕ → RegDesc → List Entry
shadow_entries i r =
    drive 1 (equal_net i) (all_equal r r.fields)
    ∷ drive 1 (commit_net i) (and (second_write i) (net (equal_net i)))
    ∷ drive 1 (next_phase_net i) (pick (net (we i)) (inv (net (phase_net i))) (pick (net (re i)) (lit 1 0) (net (phase_net i))))
    ∷ assign (update_error_net r) (and (second_write i) (inv (net (equal_net i))))
    ∷ []

abbrev pub item_fields : ℕ → Item → List Entry
item_fields i (Reg r) = cond (has_shadow r) (shadow_entries i r) [] ++ fields_entries i r r.fields
item_fields i item = []

abbrev pub rows_fields : ℕ → List LaidRow → List Entry
rows_fields i [] = []
rows_fields i (row ∷ rows) = item_fields i row.item ++ rows_fields (i + 1) rows

abbrev pub item_windows : ℕ → Item → List Entry
item_windows i (Window w) =
    assign (window_we w) (net (we i)) ∷ assign (window_re w) (net (re i)) ∷ assign (window_addr w) (net reg_addr)
    ∷ assign (window_wdata w) (net reg_wdata) ∷ assign (window_be w) (net reg_be) ∷ []
item_windows i item = []

abbrev pub rows_windows : ℕ → List LaidRow → List Entry
rows_windows i [] = []
rows_windows i (row ∷ rows) = item_windows i row.item ++ rows_windows (i + 1) rows

-- ---- 5: the flip-flops

abbrev pub parameter : List ℕ → Expression → Parameter
parameter n x = record { name = n; value = x }

abbrev pub connection : List ℕ → Expression → Connection
connection n x = record { name = n; value = x }

-- the flip-flop of this width and reset value, which takes the next value from one net, and gives its value to another
abbrev pub flop : ℕ → ℕ → List ℕ → List ℕ → List ℕ → Entry
flop width reset instance from to =
    inst flop_name (parameter (codes "Width") (lit 0 width) ∷ parameter (codes "ResetValue") (lit width reset) ∷ []) instance
    (connection (codes "clk_i") (net (codes "clk_i")) ∷ connection (codes "rst_ni") (net (codes "rst_ni"))
    ∷ connection (codes "d_i") (net from) ∷ connection (codes "q_o") (net to) ∷ [])

abbrev pub flop_of : RegDesc → FieldDesc → Entry
flop_of r f = flop (width_of f) f.resval (flop_instance r f) (next_net r f) (state_net r f)

-- nothing is staged at reset, and the phase is 0
abbrev pub staged_flop : RegDesc → FieldDesc → Entry
staged_flop r f = flop (width_of f) 0 (staged_instance r f) (next_staged_net r f) (staged_net r f)

abbrev pub phase_flop : ℕ → Entry
phase_flop i = flop 1 0 (phase_instance i) (next_phase_net i) (phase_net i)

abbrev pub flops_of : RegDesc → List FieldDesc → List Entry
flops_of r [] = []
flops_of r (f ∷ fs) = flop_of r f ∷ (entry_if (has_shadow r) (staged_flop r f) ++ flops_of r fs)

abbrev pub item_flops : ℕ → Item → List Entry
item_flops i (Reg r) = cond r.hwext [] (flops_of r r.fields) ++ entry_if (has_shadow r) (phase_flop i)
item_flops i item = []

abbrev pub rows_flops : ℕ → List LaidRow → List Entry
rows_flops i [] = []
rows_flops i (row ∷ rows) = item_flops i row.item ++ rows_flops (i + 1) rows

-- ---- the whole

abbrev pub register_entries : LaidFace → List Entry
register_entries face =
    rows_states 0 face.rows ++ (rows_entries face.rows 0 all_ones face.rows ++ (answer_entries face.rows ++ (rows_fields 0 face.rows ++ (rows_windows 0 face.rows ++ rows_flops 0 face.rows))))

-- the register module of this name
unfoldable pub register_module : List ℕ → LaidFace → Module
register_module name face = record { name = name; ports = access_ports ++ rows_ports face.rows; entries = register_entries face }

-- its name: `<block>_reg_top`, or `<block>_<interface>_reg_top` for a named interface
abbrev pub register_module_name : List ℕ → Option (List ℕ) → List ℕ
register_module_name block None = block ++ codes "_reg_top"
register_module_name block (Some interface) = block ++ (codes "_" ++ (interface ++ codes "_reg_top"))

-- the register module of an interface of a block, and those of all its interfaces
abbrev pub module_of_face : LaidBlock → LaidFace → Module
module_of_face laid face = register_module (register_module_name laid.desc.name face.name) face

abbrev pub modules_of : LaidBlock → List Module
modules_of laid = map (module_of_face laid) laid.faces
