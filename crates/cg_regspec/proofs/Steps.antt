-- A valuation of a register module is the step of its interface's register block.
use Rattle.std.proofs.Common.{◌≡◌, ℕ, ◌+◌, Bool, true, false, not, cond, ◌&&◌, ◌||◌, List, [], ◌∷◌, ◌++◌, length, refl, ap, sym, subst, ◌∙◌}
use Rattle.std.proofs.Math.Bool.{and-false, and-true}
use Rattle.cg_svspec.specs.Printable.{AllOf}
use Rattle.cg_svspec.specs.Tree.{Expression, net, Entry}
use Rattle.cg_svspec.specs.Register.{access_ports}
use Rattle.cg_svspec.specs.Value.{Values, Valuation, HasWidths, AllHold, InputHolds, InputFits, StateFitsIn}
use Rattle.cg_desc.specs.Target.{Target, IsTarget, target_at}
use Rattle.cg_desc.specs.Shadow.{is_shadowed}
use Rattle.cg_desc.specs.BlockStep.{Access, is_read, is_write, is_accepted, is_error, is_at, WindowSteps, RegisterSteps, ItemSteps, EachRow, BlockStep}
use Rattle.cg_desc.specs.Laid.{IsLaid}
use Rattle.cg_desc.proofs.OneTarget.{each_address_has_one_target}
use Rattle.cg_desc.specs.declared.block.RegDesc.{RegDesc}
use Rattle.cg_desc.specs.declared.block.WindowDesc.{WindowDesc}
use Rattle.cg_desc.specs.declared.block.Item.{Item}
use Rattle.cg_desc.specs.declared.block.Item.TheVariants.{Reg, Window, SkipTo, Reserved}
use Rattle.cg_desc.specs.declared.block.LaidRow.{LaidRow}
use Rattle.cg_desc.specs.declared.block.LaidFace.{LaidFace}
use Rattle.cg_regspec.specs.NetNames.{rd}
use Rattle.cg_regspec.specs.RegisterModule.{register_module, rows_ports, rows_states, rows_entries, all_ones, answer_entries, has_shadow, shadow_entries, fields_entries, item_fields, rows_fields, item_windows, rows_windows, rows_flops}
use Rattle.cg_regspec.specs.Meaning.{Carries, fields_in, state_in, hardware_in, outcome_in}
use Rattle.cg_svspec.proofs.Parts.{hold_front, hold_back, all_front, all_back}
use Rattle.cg_regspec.proofs.Wires.{CarryAccess, RegisterWires, ItemWires, RowsWires, ItemPhase, RowsPhases, rows_wires, rows_phases}
use Rattle.cg_regspec.proofs.Rows.{RowHolds}
use Rattle.cg_regspec.proofs.AllRows.{RowsHold, rows_hold}
use Rattle.cg_regspec.proofs.Answer.{answers}
use Rattle.cg_regspec.proofs.Fields.{where_true, fields_step}
use Rattle.cg_regspec.proofs.Shadows.{write_is, shadow_steps}

-- ---- a window

-- the step of a window in row i
window_steps : (v state next inputs : Values) (face : LaidFace) (target : Target) (a : Access) (i : ℕ) (before : Expression) (w : WindowDesc) → CarryAccess v a
    → RowHolds v face target a (fields_in state) (hardware_in inputs) i before (Window w) → AllHold v state next (item_windows i (Window w))
    → WindowSteps face target a (outcome_in v next) i w
window_steps v state next inputs face target a i before w carry has holds = record {
  write_seen = rw (holds.0, has.writes, and-true (is_at target i)) refl;
  read_seen = rw (holds.1.0, has.reads) refl;
  address_seen = holds.1.1.0 ∙ carry.address;
  data_seen = holds.1.1.1.0 ∙ carry.data_in;
  strobes_seen = holds.1.1.1.1.0 ∙ carry.strobes;
}

-- ---- a register

-- the step of a register in row i
register_steps : (v state next inputs : Values) (face : LaidFace) (target : Target) (a : Access) (i : ℕ) (before : Expression) (r : RegDesc) → CarryAccess v a
    → RowHolds v face target a (fields_in state) (hardware_in inputs) i before (Reg r) → RegisterWires v state next inputs r → ItemPhase v state next i (Reg r)
    → AllHold v state next (item_fields i (Reg r)) → RegisterSteps face target a (state_in state) (hardware_in inputs) (outcome_in v next) i r
register_steps v state next inputs face target a i before r carry has wires phase holds =
    let shadow : List Entry = cond (has_shadow r) (shadow_entries i r) [] in
    let front : AllHold v state next shadow = hold_front v state next shadow (fields_entries i r r.fields) holds in
    let fields : AllHold v state next (fields_entries i r r.fields) = hold_back v state next shadow (fields_entries i r r.fields) holds in
    record {
      fields = fields_step v state next inputs face target a i r r.fields carry (write_is v state next inputs face target a i r carry has.writes has.reads phase wires front) has.reads wires fields;
      shadow = where_true (is_shadowed r) _ (λ e. shadow_steps v state next inputs face target a i r e carry has.writes has.reads phase wires front fields);
    }

-- ---- each row

-- the step of an item in row i
item_steps : (v state next inputs : Values) (face : LaidFace) (target : Target) (a : Access) (i : ℕ) (before : Expression) (item : Item) → CarryAccess v a
    → RowHolds v face target a (fields_in state) (hardware_in inputs) i before item → ItemWires v state next inputs item → ItemPhase v state next i item
    → AllHold v state next (item_fields i item) → AllHold v state next (item_windows i item)
    → ItemSteps face target a (state_in state) (hardware_in inputs) (outcome_in v next) i item
item_steps v state next inputs face target a i before (Reg r) carry has wires phase fields windows =
    register_steps v state next inputs face target a i before r carry has wires phase fields
item_steps v state next inputs face target a i before (Window w) carry has wires phase fields windows = window_steps v state next inputs face target a i before w carry has windows
item_steps v state next inputs face target a i before (SkipTo to at) carry has wires phase fields windows = tt
item_steps v state next inputs face target a i before (Reserved words at) carry has wires phase fields windows = tt

-- the step of the rows from number i on
rows_step : (v state next inputs : Values) (face : LaidFace) (target : Target) (a : Access) (i : ℕ) (before : Expression) (rows : List LaidRow) → CarryAccess v a
    → RowsHold v face target a (fields_in state) (hardware_in inputs) i before rows → RowsWires v state next inputs rows → RowsPhases v state next i rows
    → AllHold v state next (rows_fields i rows) → AllHold v state next (rows_windows i rows)
    → EachRow (ItemSteps face target a (state_in state) (hardware_in inputs) (outcome_in v next)) i rows
rows_step v state next inputs face target a i before [] carry has wires phases fields windows = tt
rows_step v state next inputs face target a i before (row ∷ rows) carry has wires phases fields windows = (
  item_steps v state next inputs face target a i before row.item carry has.0 wires.0 phases.0 (hold_front v state next (item_fields i row.item) (rows_fields (i + 1) rows) fields)
      (hold_front v state next (item_windows i row.item) (rows_windows (i + 1) rows) windows),
  rows_step v state next inputs face target a (i + 1) (net (rd i)) rows carry has.1 wires.1 phases.1 (hold_back v state next (item_fields i row.item) (rows_fields (i + 1) rows) fields)
      (hold_back v state next (item_windows i row.item) (rows_windows (i + 1) rows) windows),
)

-- ---- the whole

-- the nine ports carry the access, with its widths
carry_access : (v inputs : Values) (a : Access) → Carries inputs a → AllOf (InputHolds v inputs) access_ports → AllOf (InputFits inputs) access_ports → CarryAccess v a
carry_access v inputs a carries hold fit = record {
  we = hold.1.1.0 ∙ carries.we;
  re = hold.1.1.1.0 ∙ carries.re;
  address = hold.1.1.1.1.0 ∙ carries.address;
  data_in = hold.1.1.1.1.1.0 ∙ carries.data_in;
  strobes = hold.1.1.1.1.1.1.0 ∙ carries.strobes;
  small = carries.small;
  data_width = ap length (sym carries.data_in) ∙ fit.1.1.1.1.1.0;
  strobes_width = ap length (sym carries.strobes) ∙ fit.1.1.1.1.1.1.0;
}

-- the entries of the module, by their groups
record Groups (v state next : Values) (face : LaidFace) : Type 0 where
  rows : AllHold v state next (rows_entries face.rows 0 all_ones face.rows)
  answer : AllHold v state next (answer_entries face.rows)
  fields : AllHold v state next (rows_fields 0 face.rows)
  windows : AllHold v state next (rows_windows 0 face.rows)
  flops : AllHold v state next (rows_flops 0 face.rows)

-- the groups, one after the other
groups : (v state next : Values) (face : LaidFace)
    → AllHold v state next (rows_states 0 face.rows ++ (rows_entries face.rows 0 all_ones face.rows ++ (answer_entries face.rows ++ (rows_fields 0 face.rows ++ (rows_windows 0 face.rows ++ rows_flops 0 face.rows)))))
    → Groups v state next face
groups v state next face holds =
    let from_rows = hold_back v state next (rows_states 0 face.rows) _ holds in
    let from_answer = hold_back v state next (rows_entries face.rows 0 all_ones face.rows) _ from_rows in
    let from_fields = hold_back v state next (answer_entries face.rows) _ from_answer in
    let from_windows = hold_back v state next (rows_fields 0 face.rows) _ from_fields in
    record {
      rows = hold_front v state next (rows_entries face.rows 0 all_ones face.rows) _ from_rows;
      answer = hold_front v state next (answer_entries face.rows) _ from_answer;
      fields = hold_front v state next (rows_fields 0 face.rows) _ from_fields;
      windows = hold_front v state next (rows_windows 0 face.rows) _ from_windows;
      flops = hold_back v state next (rows_windows 0 face.rows) _ from_windows;
    }

-- an accepted read is no error
no_error : (w rd accepted : Bool) → (rd && accepted) ≡ true → ((w || rd) && not accepted) ≡ false
no_error w rd true e = and-false (w || rd)
no_error w true false e = cc
no_error w false false e = cc

-- from the groups of the entries
step_of_groups : (inputs state v next : Values) (face : LaidFace) (a : Access) → IsLaid face → CarryAccess v a → RowsWires v state next inputs face.rows → RowsPhases v state next 0 face.rows
    → Groups v state next face
    → BlockStep face (target_at face a.address) a (state_in state) (hardware_in inputs) (outcome_in v next)
step_of_groups inputs state v next face a laid carry wires phases parts =
    let target = target_at face a.address in
    let has = rows_hold v state next inputs face a carry wires laid.rows parts.rows in
    let says = answers v state next face target a (fields_in state) (hardware_in inputs) carry has parts.answer in
    record {
      response = rw says.faults refl;
      data_of_error = where_true (is_error face target a) _ (λ e. says.shows ∙ rw e refl);
      data_of_read = where_true (is_read a.kind && is_accepted face target a) _ (λ e. says.shows ∙ rw (no_error (is_write a.kind) (is_read a.kind) (is_accepted face target a) e) refl);
      each = rows_step v state next inputs face target a 0 all_ones face.rows carry has wires phases parts.fields parts.windows;
    }

-- the states' widths, which the flip-flops have
flops_fit : (state : Values) (face : LaidFace)
    → AllOf (StateFitsIn state) (rows_states 0 face.rows ++ (rows_entries face.rows 0 all_ones face.rows ++ (answer_entries face.rows ++ (rows_fields 0 face.rows ++ (rows_windows 0 face.rows ++ rows_flops 0 face.rows)))))
    → AllOf (StateFitsIn state) (rows_flops 0 face.rows)
flops_fit state face fit =
    all_back (StateFitsIn state) (rows_windows 0 face.rows) _
    (all_back (StateFitsIn state) (rows_fields 0 face.rows) _
    (all_back (StateFitsIn state) (answer_entries face.rows) _
    (all_back (StateFitsIn state) (rows_entries face.rows 0 all_ones face.rows) _ (all_back (StateFitsIn state) (rows_states 0 face.rows) _ fit))))

-- each valuation of the register module is the block's step at what going down the rows finds
step_at : (name : List ℕ) (face : LaidFace) → IsLaid face → (inputs state v next : Values) (a : Access) → HasWidths (register_module name face) inputs state → Carries inputs a
    → Valuation (register_module name face) inputs state v next → BlockStep face (target_at face a.address) a (state_in state) (hardware_in inputs) (outcome_in v next)
unfolding register_module
step_at name face laid inputs state v next a widths carries valuation =
    let parts = groups v state next face valuation.entries_hold in
    let carry = carry_access v inputs a carries (all_front (InputHolds v inputs) access_ports (rows_ports face.rows) valuation.inputs_hold)
    (all_front (InputFits inputs) access_ports (rows_ports face.rows) widths.inputs_fit) in
    let fit = flops_fit state face widths.states_fit in
    let wires = rows_wires v state next inputs 0 face.rows parts.flops fit
    (all_back (InputHolds v inputs) access_ports (rows_ports face.rows) valuation.inputs_hold) (all_back (InputFits inputs) access_ports (rows_ports face.rows) widths.inputs_fit) in
    step_of_groups inputs state v next face a laid carry wires (rows_phases v state next 0 face.rows parts.flops fit) parts

-- and so at what the address is
pub module_steps : (name : List ℕ) (face : LaidFace) → IsLaid face → (inputs state v next : Values) (a : Access) (target : Target) → HasWidths (register_module name face) inputs state
    → Carries inputs a → IsTarget face a.address target → Valuation (register_module name face) inputs state v next
    → BlockStep face target a (state_in state) (hardware_in inputs) (outcome_in v next)
module_steps name face laid inputs state v next a target widths carries is valuation =
    subst (λ t. BlockStep face t a (state_in state) (hardware_in inputs) (outcome_in v next)) (sym ((each_address_has_one_target face laid a.address).one target is))
    (step_at name face laid inputs state v next a widths carries valuation)
