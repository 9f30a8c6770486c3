-- The nets that come from outside: the access, what hardware brings, and the states.
use Rattle.std.proofs.Common.{◌≡◌, ℕ, ◌+◌, ◌^◌, ◌<◌, Bool, true, false, cond, List, [], ◌∷◌, ◌++◌, length, refl}
use Rattle.cg_svspec.specs.Printable.{AllOf}
use Rattle.cg_svspec.specs.Bits.{bits}
use Rattle.cg_svspec.specs.Tree.{Port, Entry}
use Rattle.cg_svspec.specs.Value.{Values, Holds, AllHold, InputHolds, InputFits, StateFitsIn}
use Rattle.cg_svspec.specs.Register.{input_port, output_port}
use Rattle.cg_desc.specs.BlockStep.{Access, is_read, is_write, EachField}
use Rattle.cg_desc.specs.declared.block.FieldDesc.{FieldDesc}
use Rattle.cg_desc.specs.declared.block.RegDesc.{RegDesc}
use Rattle.cg_desc.specs.declared.block.Item.{Item}
use Rattle.cg_desc.specs.declared.block.Item.TheVariants.{Reg, Window, SkipTo, Reserved}
use Rattle.cg_desc.specs.declared.block.LaidRow.{LaidRow}
use Rattle.cg_regspec.specs.NetNames.{reg_we, reg_re, reg_addr, reg_wdata, reg_be, phase_net, next_phase_net, state_net, next_net, staged_net, next_staged_net, update_error_net, q_net, qe_net, re_net, d_net, de_net, window_rdata}
use Rattle.cg_regspec.specs.RegisterModule.{width_of, has_q, has_qe, has_re, has_d, has_de, has_shadow, port_if, field_ports, fields_ports, item_ports, rows_ports, entry_if, staged_flop, phase_flop, flops_of, item_flops, rows_flops}
use Rattle.cg_svspec.proofs.Parts.{hold_front, hold_back, all_front, all_back}

-- the nets carry the access
pub record CarryAccess (v : Values) (a : Access) : Type 0 where
  pub we : v reg_we ≡ is_write a.kind ∷ []
  pub re : v reg_re ≡ is_read a.kind ∷ []
  pub address : v reg_addr ≡ bits 32 a.address
  pub data_in : v reg_wdata ≡ a.data_in
  pub strobes : v reg_be ≡ a.strobes
  pub small : a.address < 2 ^ 32
  pub data_width : length a.data_in ≡ 32
  pub strobes_width : length a.strobes ≡ 4

-- a field's nets that hold a state or an input, where the field has them
pub record FieldWires (v state next inputs : Values) (r : RegDesc) (f : FieldDesc) : Type 0 where
  pub stored : r.hwext ≡ false → v (state_net r f) ≡ state (state_net r f)
  pub stored_next : r.hwext ≡ false → next (state_net r f) ≡ v (next_net r f)
  pub stored_width : r.hwext ≡ false → length (state (state_net r f)) ≡ width_of f
  pub brought : has_d r f ≡ true → v (d_net r f) ≡ inputs (d_net r f)
  pub brought_width : has_d r f ≡ true → length (inputs (d_net r f)) ≡ width_of f
  pub strobe : has_de r f ≡ true → v (de_net r f) ≡ inputs (de_net r f)
  pub staged : has_shadow r ≡ true → v (staged_net r f) ≡ state (staged_net r f)
  pub staged_next : has_shadow r ≡ true → next (staged_net r f) ≡ v (next_staged_net r f)

-- the nets of each field of a register
abbrev pub RegisterWires : Values → Values → Values → Values → RegDesc → Type 0
RegisterWires v state next inputs r = EachField (FieldWires v state next inputs r) r.fields

-- the net that holds a phase
pub record PhaseWires (v state next : Values) (i : ℕ) : Type 0 where
  pub stored : v (phase_net i) ≡ state (phase_net i)
  pub stored_next : next (phase_net i) ≡ v (next_phase_net i)
  pub stored_width : length (state (phase_net i)) ≡ 1

-- the phase of an item in row i, if it has one
abbrev pub ItemPhase : Values → Values → Values → ℕ → Item → Type 0
ItemPhase v state next i (Reg r) = has_shadow r ≡ true → PhaseWires v state next i
ItemPhase v state next i (Window w) = Unit {0}
ItemPhase v state next i (SkipTo to at) = Unit {0}
ItemPhase v state next i (Reserved words at) = Unit {0}

-- the phases of all rows from number i on
abbrev pub RowsPhases : Values → Values → Values → ℕ → List LaidRow → Type 0
RowsPhases v state next i [] = Unit {0}
RowsPhases v state next i (row ∷ rows) = ItemPhase v state next i row.item × RowsPhases v state next (i + 1) rows

-- the nets of an item
abbrev pub ItemWires : Values → Values → Values → Values → Item → Type 0
ItemWires v state next inputs (Reg r) = RegisterWires v state next inputs r
ItemWires v state next inputs (Window w) = v (window_rdata w) ≡ inputs (window_rdata w)
ItemWires v state next inputs (SkipTo to at) = Unit {0}
ItemWires v state next inputs (Reserved words at) = Unit {0}

-- the nets of all rows
abbrev pub RowsWires : Values → Values → Values → Values → List LaidRow → Type 0
RowsWires v state next inputs [] = Unit {0}
RowsWires v state next inputs (row ∷ rows) = ItemWires v state next inputs row.item × RowsWires v state next inputs rows

-- a port that is there where the test holds
port_there : (P : Port → Type 0) (b : Bool) (p : Port) → AllOf P (port_if b p) → b ≡ true → P p
port_there P true p h e = h.0
port_there P false p h e = cc

-- the last two ports of a field, where they are there
last_ports : (P : Port → Type 0) (c d : Bool) (p q : Port) (xs ys zs : List Port) → AllOf P (xs ++ (ys ++ (zs ++ (port_if c p ++ port_if d q)))) → (c ≡ true → P p) × (d ≡ true → P q)
last_ports P c d p q xs ys zs h =
    let last = all_back P zs (port_if c p ++ port_if d q) (all_back P ys _ (all_back P xs _ h)) in
    (port_there P c p (all_front P (port_if c p) (port_if d q) last), port_there P d q (all_back P (port_if c p) (port_if d q) last))

-- what a field's ports `d` and `de` say
brought_ports : (P : Port → Type 0) (r : RegDesc) (f : FieldDesc) → AllOf P (field_ports r f)
    → (has_d r f ≡ true → P (input_port (width_of f) (d_net r f))) × (has_de r f ≡ true → P (input_port 1 (de_net r f)))
brought_ports P r f h =
    last_ports P (has_d r f) (has_de r f) (input_port (width_of f) (d_net r f)) (input_port 1 (de_net r f)) (port_if (has_q r f) (output_port (width_of f) (q_net r f)))
    (port_if (has_qe r f) (output_port 1 (qe_net r f))) (port_if (has_re r f) (output_port 1 (re_net r f))) h

-- what an entry that is there where the test holds says
pub entry_holds : (v state next : Values) (b : Bool) (e : Entry) → AllHold v state next (entry_if b e) → b ≡ true → Holds v state next e
entry_holds v state next true e h is = h.0
entry_holds v state next false e h is = cc

-- a register with a shadow stores its fields
pub shadow_stored : (r : RegDesc) → has_shadow r ≡ true → r.hwext ≡ false
shadow_stored r is = by r.hwext is where
  by : (external : Bool) → cond external false r.shadowed ≡ true → external ≡ false
  by true e = cc
  by false e = refl

-- the nets of a register's fields, from its flip-flops and its ports
field_wires : (v state next inputs : Values) (r : RegDesc) (fs : List FieldDesc) → (r.hwext ≡ false → AllHold v state next (flops_of r fs))
    → (r.hwext ≡ false → AllOf (StateFitsIn state) (flops_of r fs)) → AllOf (InputHolds v inputs) (fields_ports r fs) → AllOf (InputFits inputs) (fields_ports r fs)
    → EachField (FieldWires v state next inputs r) fs
field_wires v state next inputs r [] flops fit inputs_hold inputs_fit = tt
field_wires v state next inputs r (f ∷ fs) flops fit inputs_hold inputs_fit =
    let hold = brought_ports (InputHolds v inputs) r f (all_front (InputHolds v inputs) (field_ports r f) (fields_ports r fs) inputs_hold) in
    let wide = brought_ports (InputFits inputs) r f (all_front (InputFits inputs) (field_ports r f) (fields_ports r fs) inputs_fit) in
    let shadow : List Entry = entry_if (has_shadow r) (staged_flop r f) in
    let staged : has_shadow r ≡ true → Holds v state next (staged_flop r f) =
    λ e. entry_holds v state next (has_shadow r) (staged_flop r f) (hold_front v state next shadow (flops_of r fs) (flops (shadow_stored r e)).1) e in (
      record {
        stored = λ e. (flops e).0.0;
        stored_next = λ e. (flops e).0.1;
        stored_width = λ e. (fit e).0;
        brought = hold.0;
        brought_width = wide.0;
        strobe = hold.1;
        staged = λ e. (staged e).0;
        staged_next = λ e. (staged e).1;
      },
      field_wires v state next inputs r fs (λ e. hold_back v state next shadow (flops_of r fs) (flops e).1) (λ e. all_back (StateFitsIn state) shadow (flops_of r fs) (fit e).1)
          (all_back (InputHolds v inputs) (field_ports r f) (fields_ports r fs) inputs_hold) (all_back (InputFits inputs) (field_ports r f) (fields_ports r fs) inputs_fit),
    )

-- a register that is not external has its flip-flops
flops_hold : (v state next : Values) (b : Bool) (es : List Entry) → AllHold v state next (cond b [] es) → b ≡ false → AllHold v state next es
flops_hold v state next true es h e = cc
flops_hold v state next false es h e = h

-- and they have their widths
flops_fit : (state : Values) (b : Bool) (es : List Entry) → AllOf (StateFitsIn state) (cond b [] es) → b ≡ false → AllOf (StateFitsIn state) es
flops_fit state true es h e = cc
flops_fit state false es h e = h

-- the nets of a register, from its flip-flops and its ports
register_wires : (v state next inputs : Values) (i : ℕ) (r : RegDesc) → AllHold v state next (item_flops i (Reg r)) → AllOf (StateFitsIn state) (item_flops i (Reg r))
    → AllOf (InputHolds v inputs) (item_ports (Reg r)) → AllOf (InputFits inputs) (item_ports (Reg r)) → RegisterWires v state next inputs r
register_wires v state next inputs i r flops fit inputs_hold inputs_fit =
    let fields : List Entry = cond r.hwext [] (flops_of r r.fields) in
    let phase : List Entry = entry_if (has_shadow r) (phase_flop i) in
    let update : List Port = port_if (has_shadow r) (output_port 1 (update_error_net r)) in
    field_wires v state next inputs r r.fields (flops_hold v state next r.hwext (flops_of r r.fields) (hold_front v state next fields phase flops))
    (flops_fit state r.hwext (flops_of r r.fields) (all_front (StateFitsIn state) fields phase fit))
    (all_front (InputHolds v inputs) (fields_ports r r.fields) update inputs_hold) (all_front (InputFits inputs) (fields_ports r r.fields) update inputs_fit)

-- the nets of an item, from its flip-flops and its ports
item_wires : (v state next inputs : Values) (i : ℕ) (item : Item) → AllHold v state next (item_flops i item) → AllOf (StateFitsIn state) (item_flops i item)
    → AllOf (InputHolds v inputs) (item_ports item) → AllOf (InputFits inputs) (item_ports item) → ItemWires v state next inputs item
item_wires v state next inputs i (Reg r) flops fit inputs_hold inputs_fit = register_wires v state next inputs i r flops fit inputs_hold inputs_fit
item_wires v state next inputs i (Window w) flops fit inputs_hold inputs_fit = inputs_hold.1.1.1.1.1.0
item_wires v state next inputs i (SkipTo to at) flops fit inputs_hold inputs_fit = tt
item_wires v state next inputs i (Reserved words at) flops fit inputs_hold inputs_fit = tt

-- the nets of all rows, from theirs
pub rows_wires : (v state next inputs : Values) (i : ℕ) (rows : List LaidRow) → AllHold v state next (rows_flops i rows) → AllOf (StateFitsIn state) (rows_flops i rows)
    → AllOf (InputHolds v inputs) (rows_ports rows) → AllOf (InputFits inputs) (rows_ports rows) → RowsWires v state next inputs rows
rows_wires v state next inputs i [] flops fit inputs_hold inputs_fit = tt
rows_wires v state next inputs i (row ∷ rows) flops fit inputs_hold inputs_fit = (
  item_wires v state next inputs i row.item (hold_front v state next (item_flops i row.item) (rows_flops (i + 1) rows) flops)
      (all_front (StateFitsIn state) (item_flops i row.item) (rows_flops (i + 1) rows) fit)
      (all_front (InputHolds v inputs) (item_ports row.item) (rows_ports rows) inputs_hold) (all_front (InputFits inputs) (item_ports row.item) (rows_ports rows) inputs_fit),
  rows_wires v state next inputs (i + 1) rows (hold_back v state next (item_flops i row.item) (rows_flops (i + 1) rows) flops)
      (all_back (StateFitsIn state) (item_flops i row.item) (rows_flops (i + 1) rows) fit)
      (all_back (InputHolds v inputs) (item_ports row.item) (rows_ports rows) inputs_hold) (all_back (InputFits inputs) (item_ports row.item) (rows_ports rows) inputs_fit),
)

-- ---- phases

-- the width of a state that is there where the test holds
entry_fits : (state : Values) (b : Bool) (e : Entry) → AllOf (StateFitsIn state) (entry_if b e) → b ≡ true → StateFitsIn state e
entry_fits state true e h is = h.0
entry_fits state false e h is = cc

-- the net of a phase, from its flip-flop
register_phase : (v state next : Values) (i : ℕ) (r : RegDesc) → AllHold v state next (item_flops i (Reg r)) → AllOf (StateFitsIn state) (item_flops i (Reg r)) → has_shadow r ≡ true
    → PhaseWires v state next i
register_phase v state next i r flops fit is =
    let fields : List Entry = cond r.hwext [] (flops_of r r.fields) in
    let phase : List Entry = entry_if (has_shadow r) (phase_flop i) in
    let here : Holds v state next (phase_flop i) = entry_holds v state next (has_shadow r) (phase_flop i) (hold_back v state next fields phase flops) is in
    record {
      stored = here.0;
      stored_next = here.1;
      stored_width = entry_fits state (has_shadow r) (phase_flop i) (all_back (StateFitsIn state) fields phase fit) is;
    }

-- of an item
item_phase : (v state next : Values) (i : ℕ) (item : Item) → AllHold v state next (item_flops i item) → AllOf (StateFitsIn state) (item_flops i item) → ItemPhase v state next i item
item_phase v state next i (Reg r) flops fit = register_phase v state next i r flops fit
item_phase v state next i (Window w) flops fit = tt
item_phase v state next i (SkipTo to at) flops fit = tt
item_phase v state next i (Reserved words at) flops fit = tt

-- of all rows
pub rows_phases : (v state next : Values) (i : ℕ) (rows : List LaidRow) → AllHold v state next (rows_flops i rows) → AllOf (StateFitsIn state) (rows_flops i rows)
    → RowsPhases v state next i rows
rows_phases v state next i [] flops fit = tt
rows_phases v state next i (row ∷ rows) flops fit = (
  item_phase v state next i row.item (hold_front v state next (item_flops i row.item) (rows_flops (i + 1) rows) flops)
      (all_front (StateFitsIn state) (item_flops i row.item) (rows_flops (i + 1) rows) fit),
  rows_phases v state next (i + 1) rows (hold_back v state next (item_flops i row.item) (rows_flops (i + 1) rows) flops)
      (all_back (StateFitsIn state) (item_flops i row.item) (rows_flops (i + 1) rows) fit),
)
