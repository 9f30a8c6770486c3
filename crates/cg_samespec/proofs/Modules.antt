-- Register modules do not look at places.
use Rattle.std.proofs.Common.{ℕ, suc, ◌≡◌, ◌+◌, ◌-◌, ◌/◌, Bool, true, false, cond, List, [], ◌∷◌, ◌++◌, map, Option, Some, None, refl, ap, ◌∙◌}
use Rattle.std.specs.Prelude.{max}
use Rattle.std.specs.Option.{option_map}
use Rattle.cg_svspec.specs.Tree.{Expression, Expressions, Entry, and, assign, cat, drive, inv, lit, more, net, none, pick, wire}
use Rattle.cg_svspec.specs.Register.{access_ports, output_port}
use Rattle.cg_desc.specs.declared.block.FieldDesc.{FieldDesc}
use Rattle.cg_desc.specs.declared.block.RegDesc.{RegDesc}
use Rattle.cg_desc.specs.declared.block.Item.{Item}
use Rattle.cg_desc.specs.declared.block.Item.TheVariants.{Reg, Window, SkipTo, Reserved}
use Rattle.cg_desc.specs.declared.block.LaidRow.{LaidRow}
use Rattle.cg_desc.specs.declared.block.LaidFace.{LaidFace}
use Rattle.cg_regspec.specs.NetNames.{base, commit_net, equal_net, hit, next_phase_net, phase_net, rbad, rd, re, reg_re, reg_we, staged_net, state_net, update_error_net, wbad, we, window_base}
use Rattle.cg_regspec.specs.RegisterModule.{all_equal, all_ones, answer_entries, entry_if, equals, equals_and, field_entries, field_ports, fields_entries, fields_ports, flop_of, flops_of, first_state, gap, gate_net, gate_of, gate_or, gated, has_shadow, highest_first, hit_of, item_fields, item_flops, item_gate, item_ports, item_states, item_windows, item_word_text, lacks_strobe, last_byte, last_rd, phase_flop, port_if, read_refused, register_entries, register_module, row_entries, rows_entries, rows_fields, rows_flops, rows_ports, rows_states, rows_windows, same_in_nets, second_write, shadow_entries, shown_part, staged_flop, states_of, width_of, word_parts, write_refused}
use Rattle.cg_blkdone.specs.Places.{field_unplaced, register_unplaced}
use Rattle.cg_samespec.proofs.Items.{item_unplaced, with_fields}
use Rattle.cg_samespec.proofs.Offsets.{laid_unplaced, row_unplaced}

-- ---- ports and stored fields

fields_ports_are : (r : RegDesc) (fs : List FieldDesc) → fields_ports (register_unplaced r) (map field_unplaced fs) ≡ fields_ports r fs
unfolding base
fields_ports_are r [] = refl
fields_ports_are r (f ∷ fs) = ap (λ ports. field_ports r f ++ ports) (fields_ports_are r fs)

item_ports_are : (item : Item) → item_ports (item_unplaced item) ≡ item_ports item
unfolding window_base update_error_net
item_ports_are (Reg r) = ap (λ ports. ports ++ port_if (has_shadow r) (output_port 1 (update_error_net r))) (fields_ports_are r r.fields)
item_ports_are (Window w) = refl
item_ports_are (SkipTo to at) = refl
item_ports_are (Reserved words at) = refl

rows_ports_are : (rows : List LaidRow) → rows_ports (map row_unplaced rows) ≡ rows_ports rows
rows_ports_are [] = refl
rows_ports_are (row ∷ rows) = λ k. item_ports_are row.item k ++ rows_ports_are rows k

states_are : (r : RegDesc) (fs : List FieldDesc) → states_of (register_unplaced r) (map field_unplaced fs) ≡ states_of r fs
unfolding base
states_are r [] = refl
states_are r (f ∷ fs) =
    ap (λ entries. wire (width_of f) (state_net r f) ∷ (entry_if (has_shadow r) (wire (width_of f) (staged_net r f)) ++ entries)) (states_are r fs)

item_states_are : (i : ℕ) (item : Item) → item_states i (item_unplaced item) ≡ item_states i item
item_states_are i (Reg r) = λ k. cond r.hwext [] (states_are r r.fields k) ++ entry_if (has_shadow r) (wire 1 (phase_net i))
item_states_are i (Window w) = refl
item_states_are i (SkipTo to at) = refl
item_states_are i (Reserved words at) = refl

rows_states_are : (i : ℕ) (rows : List LaidRow) → rows_states i (map row_unplaced rows) ≡ rows_states i rows
rows_states_are i [] = refl
rows_states_are i (row ∷ rows) = λ k. item_states_are i row.item k ++ rows_states_are (i + 1) rows k

-- ---- the rows

hit_is : (row : LaidRow) (item : Item) → hit_of (row_unplaced row) (item_unplaced item) ≡ hit_of row item
hit_is row (Reg r) = refl
hit_is row (Window w) = refl
hit_is row (SkipTo to at) = refl
hit_is row (Reserved words at) = refl

last_byte_is : (byte : ℕ) (fs : List FieldDesc) → last_byte byte (map field_unplaced fs) ≡ last_byte byte fs
last_byte_is byte [] = refl
last_byte_is byte (f ∷ fs) = last_byte_is (f.msb / 8) fs

write_refused_is : (item : Item) → write_refused (item_unplaced item) ≡ write_refused item
write_refused_is (Reg r) = ap lacks_strobe (last_byte_is 0 r.fields)
write_refused_is (Window w) = refl
write_refused_is (SkipTo to at) = refl
write_refused_is (Reserved words at) = refl

read_refused_is : (item : Item) → read_refused (item_unplaced item) ≡ read_refused item
read_refused_is (Reg r) = refl
read_refused_is (Window w) = refl
read_refused_is (SkipTo to at) = refl
read_refused_is (Reserved words at) = refl

-- the net of a register's first field
first_state_is : (r : RegDesc) (fs : List FieldDesc) → first_state (register_unplaced r) (map field_unplaced fs) ≡ first_state r fs
unfolding base
first_state_is r [] = refl
first_state_is r (f ∷ fs) = refl

-- the net of the gate of a name, behind this item
gate_or_is : (item : Item) (name : List ℕ) (later : Option (List ℕ)) → gate_or (item_unplaced item) name later ≡ gate_or item name later
gate_or_is (Reg r) name later = ap (λ net. cond (same_in_nets r.name name) net later) (first_state_is r r.fields)
gate_or_is (Window w) name later = refl
gate_or_is (SkipTo to at) name later = refl
gate_or_is (Reserved words at) name later = refl

gate_net_is : (all : List LaidRow) (name : List ℕ) → gate_net (map row_unplaced all) name ≡ gate_net all name
gate_net_is [] name = refl
gate_net_is (row ∷ rows) name = ap (gate_or (item_unplaced row.item) name) (gate_net_is rows name) ∙ gate_or_is row.item name (gate_net rows name)

gate_of_is : (all : List LaidRow) (name : Option (List ℕ)) → gate_of (map row_unplaced all) name ≡ gate_of all name
gate_of_is all None = refl
gate_of_is all (Some name) = gate_net_is all name

item_gate_is : (all : List LaidRow) (item : Item) → item_gate (map row_unplaced all) (item_unplaced item) ≡ item_gate all item
item_gate_is all (Reg r) = gate_of_is all r.regwen
item_gate_is all (Window w) = refl
item_gate_is all (SkipTo to at) = refl
item_gate_is all (Reserved words at) = refl

word_parts_are : (r : RegDesc) (from : ℕ) (below : Expressions) (fs : List FieldDesc)
    → word_parts (register_unplaced r) from below (map field_unplaced fs) ≡ word_parts r from below fs
unfolding base
word_parts_are r from below [] = refl
word_parts_are r from below (f ∷ fs) = word_parts_are r (suc f.msb) (more (shown_part r f) (gap (f.lsb - from) below)) fs

item_word_is : (item : Item) → item_word_text (item_unplaced item) ≡ item_word_text item
unfolding window_base
item_word_is (Reg r) = ap cat (word_parts_are r 0 none r.fields)
item_word_is (Window w) = refl
item_word_is (SkipTo to at) = refl
item_word_is (Reserved words at) = refl

-- the wires of row i, by what its item says
abbrev row_of : ℕ → Expression → Expression → Expression → Expression → Option (List ℕ) → Expression → List Entry
row_of i before hits write read gate word =
    drive 1 (hit i) hits
    ∷ drive 1 (wbad i) (and (net (hit i)) write)
    ∷ drive 1 (rbad i) (and (net (hit i)) read)
    ∷ drive 1 (we i) (gated (and (and (net reg_we) (net (hit i))) (inv (net (wbad i)))) gate)
    ∷ drive 1 (re i) (and (and (net reg_re) (net (hit i))) (inv (net (rbad i))))
    ∷ drive 32 (rd i) (pick (net (hit i)) word before)
    ∷ []

row_entries_are : (all : List LaidRow) (i : ℕ) (before : Expression) (row : LaidRow) → row_entries (map row_unplaced all) i before (row_unplaced row) ≡ row_entries all i before row
row_entries_are all i before row =
    λ k. row_of i before (hit_is row row.item k) (write_refused_is row.item k) (read_refused_is row.item k) (item_gate_is all row.item k) (item_word_is row.item k)

rows_entries_are : (all : List LaidRow) (i : ℕ) (before : Expression) (rows : List LaidRow)
    → rows_entries (map row_unplaced all) i before (map row_unplaced rows) ≡ rows_entries all i before rows
rows_entries_are all i before [] = refl
rows_entries_are all i before (row ∷ rows) = λ k. row_entries_are all i before row k ++ rows_entries_are all (i + 1) (net (rd i)) rows k

-- ---- the answer

last_is : (i : ℕ) (before : Expression) (rows : List LaidRow) → last_rd i before (map row_unplaced rows) ≡ last_rd i before rows
last_is i before [] = refl
last_is i before (row ∷ rows) = last_is (i + 1) (net (rd i)) rows

highest_are : (name : ℕ → List ℕ) (i : ℕ) (below : Expressions) (rows : List LaidRow) → highest_first name i below (map row_unplaced rows) ≡ highest_first name i below rows
highest_are name i below [] = refl
highest_are name i below (row ∷ rows) = highest_are name (i + 1) (more (net (name i)) below) rows

answer_is : (rows : List LaidRow) → answer_entries (map row_unplaced rows) ≡ answer_entries rows
answer_is rows = rw (highest_are hit 0 none rows, highest_are wbad 0 none rows, highest_are rbad 0 none rows, last_is 0 all_ones rows) refl

-- ---- the fields, windows and flip-flops

fields_entries_are : (i : ℕ) (r : RegDesc) (fs : List FieldDesc) → fields_entries i (register_unplaced r) (map field_unplaced fs) ≡ fields_entries i r fs
unfolding base
fields_entries_are i r [] = refl
fields_entries_are i r (f ∷ fs) = ap (λ entries. field_entries i r f ++ entries) (fields_entries_are i r fs)

equals_and_are : (x : Expression) (r : RegDesc) (fs : List FieldDesc) → equals_and x (register_unplaced r) (map field_unplaced fs) ≡ equals_and x r fs
unfolding base
equals_and_are x r [] = refl
equals_and_are x r (f ∷ fs) = equals_and_are (and x (equals r f)) r fs

all_equal_are : (r : RegDesc) (fs : List FieldDesc) → all_equal (register_unplaced r) (map field_unplaced fs) ≡ all_equal r fs
unfolding base
all_equal_are r [] = refl
all_equal_are r (f ∷ fs) = equals_and_are (equals r f) r fs

shadow_entries_are : (i : ℕ) (r : RegDesc) → shadow_entries i (register_unplaced r) ≡ shadow_entries i r
unfolding update_error_net
shadow_entries_are i r =
    ap (λ equal. drive 1 (equal_net i) equal ∷ drive 1 (commit_net i) (and (second_write i) (net (equal_net i)))
    ∷ drive 1 (next_phase_net i) (pick (net (we i)) (inv (net (phase_net i))) (pick (net (re i)) (lit 1 0) (net (phase_net i))))
    ∷ assign (update_error_net r) (and (second_write i) (inv (net (equal_net i)))) ∷ []) (all_equal_are r r.fields)

item_fields_are : (i : ℕ) (item : Item) → item_fields i (item_unplaced item) ≡ item_fields i item
item_fields_are i (Reg r) = λ k. cond (has_shadow r) (shadow_entries_are i r k) [] ++ fields_entries_are i r r.fields k
item_fields_are i (Window w) = refl
item_fields_are i (SkipTo to at) = refl
item_fields_are i (Reserved words at) = refl

rows_fields_are : (i : ℕ) (rows : List LaidRow) → rows_fields i (map row_unplaced rows) ≡ rows_fields i rows
rows_fields_are i [] = refl
rows_fields_are i (row ∷ rows) = λ k. item_fields_are i row.item k ++ rows_fields_are (i + 1) rows k

item_windows_are : (i : ℕ) (item : Item) → item_windows i (item_unplaced item) ≡ item_windows i item
unfolding window_base
item_windows_are i (Reg r) = refl
item_windows_are i (Window w) = refl
item_windows_are i (SkipTo to at) = refl
item_windows_are i (Reserved words at) = refl

rows_windows_are : (i : ℕ) (rows : List LaidRow) → rows_windows i (map row_unplaced rows) ≡ rows_windows i rows
rows_windows_are i [] = refl
rows_windows_are i (row ∷ rows) = λ k. item_windows_are i row.item k ++ rows_windows_are (i + 1) rows k

flops_are : (r : RegDesc) (fs : List FieldDesc) → flops_of (register_unplaced r) (map field_unplaced fs) ≡ flops_of r fs
unfolding base
flops_are r [] = refl
flops_are r (f ∷ fs) = ap (λ entries. flop_of r f ∷ (entry_if (has_shadow r) (staged_flop r f) ++ entries)) (flops_are r fs)

item_flops_are : (i : ℕ) (item : Item) → item_flops i (item_unplaced item) ≡ item_flops i item
item_flops_are i (Reg r) = λ k. cond r.hwext [] (flops_are r r.fields k) ++ entry_if (has_shadow r) (phase_flop i)
item_flops_are i (Window w) = refl
item_flops_are i (SkipTo to at) = refl
item_flops_are i (Reserved words at) = refl

rows_flops_are : (i : ℕ) (rows : List LaidRow) → rows_flops i (map row_unplaced rows) ≡ rows_flops i rows
rows_flops_are i [] = refl
rows_flops_are i (row ∷ rows) = λ k. item_flops_are i row.item k ++ rows_flops_are (i + 1) rows k

-- ---- the whole

entries_are : (face : LaidFace) → register_entries (laid_unplaced face) ≡ register_entries face
entries_are face = λ k.
    rows_states_are 0 face.rows k ++ (rows_entries_are face.rows 0 all_ones face.rows k ++ (answer_is face.rows k ++ (rows_fields_are 0 face.rows k
    ++ (rows_windows_are 0 face.rows k ++ rows_flops_are 0 face.rows k))))

-- the register module of an interface but for places is that of the interface
pub register_module_is : (name : List ℕ) (face : LaidFace) → register_module name (laid_unplaced face) ≡ register_module name face
unfolding register_module
register_module_is name face = λ k. record { name = name; ports = access_ports ++ rows_ports_are face.rows k; entries = entries_are face k }
