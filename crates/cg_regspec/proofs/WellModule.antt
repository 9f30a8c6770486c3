-- The register module of a laid interface is well formed where none of its names repeats, and it is a register module.
use Rattle.std.proofs.Common.{◌≡◌, ℕ, ◌+◌, ◌^◌, ◌≤◌, Bool, true, false, cond, List, [], ◌∷◌, ◌++◌, length, refl, sym, subst, arith, None}
use Rattle.cg_svspec.specs.Characters.{IsName}
use Rattle.cg_svspec.specs.Names.{Among, Differ, module_names, first_repeat}
use Rattle.cg_svspec.specs.Printable.{AllOf}
use Rattle.cg_svspec.specs.Tree.{Port, Entry, wire, drive, assign, inst}
use Rattle.cg_svspec.specs.WellFormed.{port_nets, inputs_of, instance_driven, WellFormed}
use Rattle.cg_svspec.specs.Register.{access_ports, IsRegisterEntry, IsRegister}
use Rattle.cg_svspec.proofs.NamesLemmas.{among_front, among_back, none_repeats}
use Rattle.cg_desc.specs.BlockStep.{EachField}
use Rattle.cg_desc.specs.Laid.{HasRow, IsLaid}
use Rattle.cg_desc.specs.declared.block.FieldDesc.{FieldDesc}
use Rattle.cg_desc.specs.declared.block.RegDesc.{RegDesc}
use Rattle.cg_desc.specs.declared.block.Item.{Item}
use Rattle.cg_desc.specs.declared.block.Item.TheVariants.{Reg, Window, SkipTo, Reserved}
use Rattle.cg_desc.specs.declared.block.LaidRow.{LaidRow}
use Rattle.cg_desc.specs.declared.block.LaidFace.{LaidFace}
use Rattle.cg_regspec.specs.RegisterModule.{rows_ports, has_shadow, entry_if, staged_flop, phase_flop, states_of, item_states, rows_states, rows_entries, all_ones, answer_entries, rows_fields, rows_windows, flops_of, item_flops, rows_flops, register_entries, register_module}
use Rattle.cg_svspec.proofs.Parts.{all_back, all_join}
use Rattle.cg_svspec.proofs.WellCounts.{balanced_drivers_differ, balanced_outputs_driven, balanced_wires_driven, balanced_inputs_free}
use Rattle.cg_regspec.proofs.WellDrivers.{IsDriven, rows_driven, answers_driven, rows_fields_driven, rows_windows_driven, module_instances, module_balanced}
use Rattle.cg_svspec.proofs.WellSound.{Above, Up, same_up, up_up, after, up_after, Sounds, sounds_join, all_given}
use Rattle.cg_regspec.proofs.WellRows.{FieldFits, field_narrow, ItemOk, RowsOk, rows_few, rows_ok}
use Rattle.cg_regspec.proofs.WellPorts.{PortFits, rows_ports_fit, ports_printable, ports_narrow, access_ports_fit}
use Rattle.cg_regspec.proofs.WellGiven.{PortGiven, ports_given, states_given, access_given, rows_given, rows_shadows}
use Rattle.cg_regspec.proofs.WellEntries.{rows_states_sound, ones_sound, rows_sound, rows_have, answer_sound}
use Rattle.cg_regspec.proofs.WellFields.{rows_fields_sound, rows_windows_sound}
use Rattle.cg_regspec.proofs.WellFlops.{rows_next, rows_flops_sound}

-- ---- all entries

-- the ports
abbrev module_ports : LaidFace → List Port
module_ports face = access_ports ++ rows_ports face.rows

-- the inputs
abbrev module_inputs : LaidFace → List (List ℕ)
module_inputs face = inputs_of (module_ports face)

-- what stands above the first entry
abbrev first_above : LaidFace → Above
first_above face = record { nets = port_nets (module_ports face); known = module_inputs face ++ instance_driven (module_inputs face) (register_entries face) }

-- all ports are printable
ports_fit : (face : LaidFace) → RowsOk face.rows face.rows → AllOf PortFits (module_ports face)
ports_fit face ok = all_join PortFits access_ports (rows_ports face.rows) access_ports_fit (rows_ports_fit face.rows face.rows ok)

-- all entries are printable and fit
entries_sound : (face : LaidFace) → HasRow face.rows → length face.rows ≤ 2 ^ 24 → RowsOk face.rows face.rows → Sounds (module_inputs face) (first_above face) (register_entries face)
entries_sound face some few ok =
    let ins : List (List ℕ) = module_inputs face in
    let rows : List LaidRow = face.rows in
    let states : List Entry = rows_states 0 rows in
    let wires : List Entry = rows_entries rows 0 all_ones rows in
    let answers : List Entry = answer_entries rows in
    let fields : List Entry = rows_fields 0 rows in
    let windows : List Entry = rows_windows 0 rows in
    let e0 : Above = first_above face in
    let e1 : Above = after e0 states in
    let e2 : Above = after e1 wires in
    let e3 : Above = after e2 answers in
    let e4 : Above = after e3 fields in
    let e5 : Above = after e4 windows in
    let up1 : Up e0 e1 = up_after e0 states in
    let up12 : Up e1 e2 = up_after e1 wires in
    let up23 : Up e2 e3 = up_after e2 answers in
    let up34 : Up e3 e4 = up_after e3 fields in
    let up45 : Up e4 e5 = up_after e4 windows in
    let up13 : Up e1 e3 = up_up up12 up23 in
    let driven : List (List ℕ) = instance_driven ins (register_entries face) in
    let states_sound : Sounds ins e0 states = rows_states_sound e0 rows 0 rows ok in
    let ports = ports_given e1 (module_ports face) (ports_printable (module_ports face) (ports_fit face ok)) up1.nets (λ n a. up1.known n (among_front n ins driven a)) in
    let wires_of_states = states_given e1 states (all_given e0 states states_sound.printable)
    (λ n a. up1.known n (among_back n ins driven (subst (λ z. Among n z) (sym (module_instances ins face)) a))) in
    let access = access_given e1 (rows_ports rows) ports in
    let given = rows_given e1 0 rows (all_back (PortGiven e1) access_ports (rows_ports rows) ports) wires_of_states in
    let shadows = rows_shadows e1 0 rows (all_back (PortGiven e1) access_ports (rows_ports rows) ports) wires_of_states in
    let wires_sound : Sounds ins e1 wires = rows_sound e1 rows access given e1 (same_up e1) 0 all_ones (λ f up. ones_sound 1 (omega arith)) rows ok given in
    let have = rows_have e2 rows 0 all_ones rows (all_given e1 wires wires_sound.printable) in
    let answers_sound : Sounds ins e2 answers = answer_sound e1 e2 e2 rows access up12 have (same_up e2) some few in
    let fields_sound : Sounds ins e3 fields = rows_fields_sound e1 e2 e3 0 rows rows access have given shadows up13 up23 ok in
    let next = rows_next e4 0 rows (all_given e3 fields fields_sound.printable) in
    let windows_sound : Sounds ins e4 windows = rows_windows_sound e1 e2 e4 0 rows access have given (up_up up13 up34) (up_up up23 up34) in
    let flops_sound : Sounds ins e5 (rows_flops 0 rows) = rows_flops_sound e1 e4 e5 rows 0 rows access given shadows next (up_up up13 (up_up up34 up45)) up45 ok in
    sounds_join e0 states _ states_sound (sounds_join e1 wires _ wires_sound (sounds_join e2 answers _ answers_sound (sounds_join e3 fields _ fields_sound
    (sounds_join e4 windows _ windows_sound flops_sound))))

-- ---- well formed

-- with names that differ
well_formed_by : (name : List ℕ) (face : LaidFace) → IsName name → IsLaid face → Differ (module_names (register_module name face)) → Sounds (module_inputs face) (first_above face) (register_entries face)
    → WellFormed (register_module name face)
unfolding register_module
well_formed_by name face is_name laid differ sounds = record {
  printable = record {
    name = is_name;
    some_port = tt;
    ports = ports_printable (module_ports face) (ports_fit face (rows_ok face.rows 0 face.rows laid.rows));
    entries = sounds.printable;
  };
  names_differ = differ;
  entries_fit = sounds.fit;
  drivers_differ = balanced_drivers_differ (register_module name face) (module_balanced name face) differ;
  outputs_driven = balanced_outputs_driven (register_module name face) (module_balanced name face);
  wires_driven = balanced_wires_driven (register_module name face) (module_balanced name face);
  inputs_free = balanced_inputs_free (register_module name face) (module_balanced name face) differ;
}

-- The register module of a laid interface is well formed where no name repeats.
pub module_well_formed : (name : List ℕ) (face : LaidFace) → IsName name → IsLaid face → first_repeat (module_names (register_module name face)) ≡ None → WellFormed (register_module name face)
module_well_formed name face is_name laid none =
    well_formed_by name face is_name laid (none_repeats (module_names (register_module name face)) none)
    (entries_sound face laid.some_row (omega (arith, rows_few face.rows 0 face.rows laid.rows)) (rows_ok face.rows 0 face.rows laid.rows))

-- ---- a register module

-- an entry with an expression is one of a register module
driven_entries : (es : List Entry) → AllOf IsDriven es → AllOf IsRegisterEntry es
driven_entries [] a = tt
driven_entries (wire w n ∷ es) a = absurd a.0
driven_entries (drive w n x ∷ es) a = (tt, driven_entries es a.1)
driven_entries (assign n x ∷ es) a = (tt, driven_entries es a.1)
driven_entries (inst m ps n cs ∷ es) a = absurd a.0

-- of a stored field's wires, and its flip-flops
stored_by : (external : Bool) (es : List Entry) → AllOf IsRegisterEntry es → AllOf IsRegisterEntry (cond external [] es)
stored_by true es a = tt
stored_by false es a = a

-- an entry of a register module that is there where a test holds
entry_by : (b : Bool) (e : Entry) → IsRegisterEntry e → AllOf IsRegisterEntry (entry_if b e)
entry_by true e is = (is, tt)
entry_by false e is = tt

-- the wires of states are entries of a register module
states_entries : (r : RegDesc) (fs : List FieldDesc) → AllOf IsRegisterEntry (states_of r fs)
states_entries r [] = tt
states_entries r (f ∷ fs) = (tt, all_join IsRegisterEntry (entry_if (has_shadow r) _) (states_of r fs) (entry_by (has_shadow r) _ tt) (states_entries r fs))

-- those of an item
item_states_entries : (i : ℕ) (item : Item) → AllOf IsRegisterEntry (item_states i item)
item_states_entries i (Reg r) =
    all_join IsRegisterEntry (cond r.hwext [] (states_of r r.fields)) (entry_if (has_shadow r) _) (stored_by r.hwext (states_of r r.fields) (states_entries r r.fields)) (entry_by (has_shadow r) _ tt)
item_states_entries i (Window w) = tt
item_states_entries i (SkipTo to at) = tt
item_states_entries i (Reserved words at) = tt

-- those of all rows
rows_states_entries : (i : ℕ) (rows : List LaidRow) → AllOf IsRegisterEntry (rows_states i rows)
rows_states_entries i [] = tt
rows_states_entries i (row ∷ rows) = all_join IsRegisterEntry (item_states i row.item) (rows_states (i + 1) rows) (item_states_entries i row.item) (rows_states_entries (i + 1) rows)

-- so are flip-flops of at most 32 bits
flops_entries : (r : RegDesc) (fs : List FieldDesc) → EachField FieldFits fs → AllOf IsRegisterEntry (flops_of r fs)
flops_entries r [] fit = tt
flops_entries r (f ∷ fs) fit = (
  (refl, field_narrow f fit.0),
  all_join IsRegisterEntry (entry_if (has_shadow r) (staged_flop r f)) (flops_of r fs) (entry_by (has_shadow r) (staged_flop r f) (refl, field_narrow f fit.0)) (flops_entries r fs fit.1),
)

-- those of an item
item_flops_entries : (all : List LaidRow) (first i : ℕ) (item : Item) → ItemOk all first item → AllOf IsRegisterEntry (item_flops i item)
item_flops_entries all first i (Reg r) ok =
    all_join IsRegisterEntry (cond r.hwext [] (flops_of r r.fields)) (entry_if (has_shadow r) (phase_flop i)) (stored_by r.hwext (flops_of r r.fields) (flops_entries r r.fields ok.each))
    (entry_by (has_shadow r) (phase_flop i) (refl, omega arith))
item_flops_entries all first i (Window w) ok = tt
item_flops_entries all first i (SkipTo to at) ok = absurd ok
item_flops_entries all first i (Reserved words at) ok = absurd ok

-- those of all rows
rows_flops_entries : (all : List LaidRow) (i : ℕ) (rows : List LaidRow) → RowsOk all rows → AllOf IsRegisterEntry (rows_flops i rows)
rows_flops_entries all i [] ok = tt
rows_flops_entries all i (row ∷ rows) ok =
    all_join IsRegisterEntry (item_flops i row.item) (rows_flops (i + 1) rows) (item_flops_entries all row.first i row.item ok.0) (rows_flops_entries all (i + 1) rows ok.1)

-- so are all entries of the module
module_entries : (face : LaidFace) → RowsOk face.rows face.rows → AllOf IsRegisterEntry (register_entries face)
module_entries face ok =
    let wires : List Entry = rows_entries face.rows 0 all_ones face.rows in
    all_join IsRegisterEntry (rows_states 0 face.rows) _ (rows_states_entries 0 face.rows)
    (all_join IsRegisterEntry wires _ (driven_entries wires (rows_driven face.rows 0 all_ones face.rows))
    (all_join IsRegisterEntry (answer_entries face.rows) _ (driven_entries (answer_entries face.rows) (answers_driven face.rows))
    (all_join IsRegisterEntry (rows_fields 0 face.rows) _ (driven_entries (rows_fields 0 face.rows) (rows_fields_driven 0 face.rows))
    (all_join IsRegisterEntry (rows_windows 0 face.rows) _ (driven_entries (rows_windows 0 face.rows) (rows_windows_driven 0 face.rows)) (rows_flops_entries face.rows 0 face.rows ok)))))

-- The register module of a laid interface is a register module.
pub module_is_register : (name : List ℕ) (face : LaidFace) → IsLaid face → IsRegister (register_module name face)
unfolding register_module
module_is_register name face laid = record {
  others = rows_ports face.rows;
  ports = refl;
  narrow = ports_narrow (rows_ports face.rows) (rows_ports_fit face.rows face.rows (rows_ok face.rows 0 face.rows laid.rows));
  entries = module_entries face (rows_ok face.rows 0 face.rows laid.rows);
}
