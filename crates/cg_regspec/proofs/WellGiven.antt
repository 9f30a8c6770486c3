-- What stands above the entries of a register module: its ports, and the wires of its states.
use Rattle.std.proofs.Common.{◌≡◌, ℕ, ◌+◌, Bool, true, false, cond, inl, inr, List, [], ◌∷◌, ◌++◌, refl, codes}
use Rattle.cg_svspec.specs.Names.{Among}
use Rattle.cg_svspec.specs.Printable.{IsPrintablePort, AllOf}
use Rattle.cg_svspec.specs.Tree.{Port, Entry, wire, drive, assign, inst}
use Rattle.cg_svspec.specs.Register.{access_ports, input_port, output_port}
use Rattle.cg_svspec.specs.WellFormed.{Declares, port_nets, inputs_of}
use Rattle.cg_desc.specs.BlockStep.{EachField}
use Rattle.cg_desc.specs.declared.block.FieldDesc.{FieldDesc}
use Rattle.cg_desc.specs.declared.block.RegDesc.{RegDesc}
use Rattle.cg_desc.specs.declared.block.WindowDesc.{WindowDesc}
use Rattle.cg_desc.specs.declared.block.Item.{Item}
use Rattle.cg_desc.specs.declared.block.Item.TheVariants.{Reg, Window, SkipTo, Reserved}
use Rattle.cg_desc.specs.declared.block.LaidRow.{LaidRow}
use Rattle.cg_regspec.specs.NetNames.{reg_we, reg_re, reg_addr, reg_wdata, reg_be, reg_rdata, reg_error, phase_net, state_net, staged_net, update_error_net, q_net, qe_net, re_net, d_net, de_net, window_we, window_re, window_addr, window_wdata, window_be, window_rdata}
use Rattle.cg_regspec.specs.RegisterModule.{width_of, has_q, has_qe, has_re, port_if, has_d, has_de, has_shadow, field_ports, fields_ports, item_ports, rows_ports, entry_if, states_of, item_states, rows_states}
use Rattle.cg_svspec.proofs.Parts.{all_front, all_back}
use Rattle.cg_svspec.proofs.WellCounts.{plain_of}
use Rattle.cg_svspec.proofs.WellSound.{Above, Declared, Has, GivenBy}
use Rattle.cg_regspec.proofs.Wires.{shadow_stored}

-- ---- from ports and states

-- an input may be used, and an output is declared
abbrev pub PortGiven : Above → Port → Type 0
PortGiven e p = cond p.input (Has e p.name p.width) (Declared e p.name p.width)

-- ports stand above where their nets and the names of inputs do
pub ports_given : (e : Above) (ps : List Port) → AllOf IsPrintablePort ps → ((n : List ℕ) (w : ℕ) → Declares (port_nets ps) n w → Declares e.nets n w)
    → ((n : List ℕ) → Among n (inputs_of ps) → Among n e.known) → AllOf (PortGiven e) ps
ports_given e [] printable nets known = tt
ports_given e (p ∷ ps) printable nets known = by (ports_given e ps printable.1 (λ n w d. nets n w (inr d))) p.input known where
  declared : Declared e p.name p.width
  declared = record { name = printable.0.1; net = nets p.name p.width (inl (refl, refl)) }

  by : (((n : List ℕ) → Among n (inputs_of ps) → Among n e.known) → AllOf (PortGiven e) ps) → (b : Bool)
      → ((n : List ℕ) → Among n (cond b (p.name ∷ inputs_of ps) (inputs_of ps)) → Among n e.known)
      → cond b (Has e p.name p.width) (Declared e p.name p.width) × AllOf (PortGiven e) ps
  by later true known = (record { declared = declared; known = known p.name (inl refl) }, later (λ n a. known n (inr a)))
  by later false known = (declared, later known)

-- the wire of a state may be used
abbrev pub StateGiven : Above → Entry → Type 0
StateGiven e (wire w n) = Has e n w
StateGiven e (drive w n x) = Unit {0}
StateGiven e (assign n x) = Unit {0}
StateGiven e (inst m ps n cs) = Unit {0}

-- states stand above where their wires are declared and their names known
pub states_given : (e : Above) (es : List Entry) → AllOf (GivenBy e) es → ((n : List ℕ) → Among n (plain_of es) → Among n e.known) → AllOf (StateGiven e) es
states_given e [] given known = tt
states_given e (wire w n ∷ es) given known = (record { declared = given.0; known = known n (inl refl) }, states_given e es given.1 (λ m a. known m (inr a)))
states_given e (drive w n x ∷ es) given known = (tt, states_given e es given.1 known)
states_given e (assign n x ∷ es) given known = (tt, states_given e es given.1 known)
states_given e (inst m ps n cs ∷ es) given known = (tt, states_given e es given.1 known)

-- ---- what the parts have

-- the ports of the access
pub record AccessGiven (e : Above) : Type 0 where
  pub clock : Has e (codes "clk_i") 1
  pub reset : Has e (codes "rst_ni") 1
  pub write : Has e reg_we 1
  pub read : Has e reg_re 1
  pub address : Has e reg_addr 32
  pub data_in : Has e reg_wdata 32
  pub strobes : Has e reg_be 4
  pub data_out : Declared e reg_rdata 32
  pub fault : Declared e reg_error 1

-- the ports of the access are the first ones
pub access_given : (e : Above) (others : List Port) → AllOf (PortGiven e) (access_ports ++ others) → AccessGiven e
access_given e others h = record {
  clock = h.0;
  reset = h.1.0;
  write = h.1.1.0;
  read = h.1.1.1.0;
  address = h.1.1.1.1.0;
  data_in = h.1.1.1.1.1.0;
  strobes = h.1.1.1.1.1.1.0;
  data_out = h.1.1.1.1.1.1.1.0;
  fault = h.1.1.1.1.1.1.1.1.0;
}

-- a field's nets, where it has them
pub record FieldGiven (e : Above) (r : RegDesc) (f : FieldDesc) : Type 0 where
  pub state : r.hwext ≡ false → Has e (state_net r f) (width_of f)
  pub brought : has_d r f ≡ true → Has e (d_net r f) (width_of f)
  pub strobe : has_de r f ≡ true → Has e (de_net r f) 1
  pub value_seen : has_q r f ≡ true → Declared e (q_net r f) (width_of f)
  pub write_seen : has_qe r f ≡ true → Declared e (qe_net r f) 1
  pub read_seen : has_re r f ≡ true → Declared e (re_net r f) 1
  pub staged : has_shadow r ≡ true → Has e (staged_net r f) (width_of f)

-- of each field of a register
abbrev pub RegisterGiven : Above → RegDesc → Type 0
RegisterGiven e r = EachField (FieldGiven e r) r.fields

-- a window's ports
pub record WindowGiven (e : Above) (w : WindowDesc) : Type 0 where
  pub write : Declared e (window_we w) 1
  pub read : Declared e (window_re w) 1
  pub address : Declared e (window_addr w) 32
  pub data_in : Declared e (window_wdata w) 32
  pub strobes : Declared e (window_be w) 4
  pub read_data : Has e (window_rdata w) 32

-- of an item
abbrev pub ItemGiven : Above → Item → Type 0
ItemGiven e (Reg r) = RegisterGiven e r
ItemGiven e (Window w) = WindowGiven e w
ItemGiven e (SkipTo to at) = Unit {0}
ItemGiven e (Reserved words at) = Unit {0}

-- of all rows
abbrev pub RowsGiven : Above → List LaidRow → Type 0
RowsGiven e [] = Unit {0}
RowsGiven e (row ∷ rows) = ItemGiven e row.item × RowsGiven e rows

-- the phase and the update error of a register with a shadow in row i
pub record ShadowGiven (e : Above) (i : ℕ) (r : RegDesc) : Type 0 where
  pub phase : Has e (phase_net i) 1
  pub update_error : Declared e (update_error_net r) 1

-- of an item
abbrev pub ItemShadow : Above → ℕ → Item → Type 0
ItemShadow e i (Reg r) = has_shadow r ≡ true → ShadowGiven e i r
ItemShadow e i (Window w) = Unit {0}
ItemShadow e i (SkipTo to at) = Unit {0}
ItemShadow e i (Reserved words at) = Unit {0}

-- of all rows from number i on
abbrev pub RowsShadows : Above → ℕ → List LaidRow → Type 0
RowsShadows e i [] = Unit {0}
RowsShadows e i (row ∷ rows) = ItemShadow e i row.item × RowsShadows e (i + 1) rows

-- a state that is there where the test holds
state_there : (e : Above) (b : Bool) (w : ℕ) (n : List ℕ) → AllOf (StateGiven e) (entry_if b (wire w n)) → b ≡ true → Has e n w
state_there e true w n h is = h.0
state_there e false w n h is = cc

-- a port that is there where the test holds
there : (P : Port → Type 0) (b : Bool) (p : Port) → AllOf P (port_if b p) → b ≡ true → P p
there P true p h e = h.0
there P false p h e = cc

-- the nets of the fields of a register, from its ports and states
fields_given : (e : Above) (r : RegDesc) (fs : List FieldDesc) → AllOf (PortGiven e) (fields_ports r fs) → (r.hwext ≡ false → AllOf (StateGiven e) (states_of r fs))
    → EachField (FieldGiven e r) fs
fields_given e r [] ports states = tt
fields_given e r (f ∷ fs) ports states =
    let P = PortGiven e in
    let shadow : List Entry = entry_if (has_shadow r) (wire (width_of f) (staged_net r f)) in
    let q = port_if (has_q r f) (output_port (width_of f) (q_net r f)) in
    let qe = port_if (has_qe r f) (output_port 1 (qe_net r f)) in
    let re = port_if (has_re r f) (output_port 1 (re_net r f)) in
    let d = port_if (has_d r f) (input_port (width_of f) (d_net r f)) in
    let de = port_if (has_de r f) (input_port 1 (de_net r f)) in
    let here : AllOf P (q ++ (qe ++ (re ++ (d ++ de)))) = all_front P (field_ports r f) (fields_ports r fs) ports in
    let second : AllOf P (qe ++ (re ++ (d ++ de))) = all_back P q _ here in
    let third : AllOf P (re ++ (d ++ de)) = all_back P qe _ second in
    let fourth : AllOf P (d ++ de) = all_back P re _ third in (
      record {
        state = λ stored. (states stored).0;
        staged = λ is. state_there e (has_shadow r) (width_of f) (staged_net r f) (all_front (StateGiven e) shadow (states_of r fs) (states (shadow_stored r is)).1) is;
        brought = there P (has_d r f) _ (all_front P d de fourth);
        strobe = there P (has_de r f) _ (all_back P d de fourth);
        value_seen = there P (has_q r f) _ (all_front P q _ here);
        write_seen = there P (has_qe r f) _ (all_front P qe _ second);
        read_seen = there P (has_re r f) _ (all_front P re _ third);
      },
      fields_given e r fs (all_back P (field_ports r f) (fields_ports r fs) ports) (λ stored. all_back (StateGiven e) shadow (states_of r fs) (states stored).1),
    )

-- a register that is not external has its states
stored_states : (e : Above) (b : Bool) (es : List Entry) → AllOf (StateGiven e) (cond b [] es) → b ≡ false → AllOf (StateGiven e) es
stored_states e true es h is = cc
stored_states e false es h is = h

-- those of an item
item_given : (e : Above) (i : ℕ) (item : Item) → AllOf (PortGiven e) (item_ports item) → AllOf (StateGiven e) (item_states i item) → ItemGiven e item
item_given e i (Reg r) ports states =
    let fields : List Entry = cond r.hwext [] (states_of r r.fields) in
    fields_given e r r.fields (all_front (PortGiven e) (fields_ports r r.fields) (port_if (has_shadow r) (output_port 1 (update_error_net r))) ports)
    (stored_states e r.hwext (states_of r r.fields) (all_front (StateGiven e) fields (entry_if (has_shadow r) (wire 1 (phase_net i))) states))
item_given e i (Window w) ports states =
    record { write = ports.0; read = ports.1.0; address = ports.1.1.0; data_in = ports.1.1.1.0; strobes = ports.1.1.1.1.0; read_data = ports.1.1.1.1.1.0 }
item_given e i (SkipTo to at) ports states = tt
item_given e i (Reserved words at) ports states = tt

-- those of all rows
pub rows_given : (e : Above) (i : ℕ) (rows : List LaidRow) → AllOf (PortGiven e) (rows_ports rows) → AllOf (StateGiven e) (rows_states i rows) → RowsGiven e rows
rows_given e i [] ports states = tt
rows_given e i (row ∷ rows) ports states = (
  item_given e i row.item (all_front (PortGiven e) (item_ports row.item) (rows_ports rows) ports) (all_front (StateGiven e) (item_states i row.item) (rows_states (i + 1) rows) states),
  rows_given e (i + 1) rows (all_back (PortGiven e) (item_ports row.item) (rows_ports rows) ports) (all_back (StateGiven e) (item_states i row.item) (rows_states (i + 1) rows) states),
)

-- the shadow of an item
item_shadow : (e : Above) (i : ℕ) (item : Item) → AllOf (PortGiven e) (item_ports item) → AllOf (StateGiven e) (item_states i item) → ItemShadow e i item
item_shadow e i (Reg r) ports states = λ is. record {
  phase = state_there e (has_shadow r) 1 (phase_net i) (all_back (StateGiven e) (cond r.hwext [] (states_of r r.fields)) (entry_if (has_shadow r) (wire 1 (phase_net i))) states) is;
  update_error = there (PortGiven e) (has_shadow r) (output_port 1 (update_error_net r))
      (all_back (PortGiven e) (fields_ports r r.fields) (port_if (has_shadow r) (output_port 1 (update_error_net r))) ports) is;
}
item_shadow e i (Window w) ports states = tt
item_shadow e i (SkipTo to at) ports states = tt
item_shadow e i (Reserved words at) ports states = tt

-- those of all rows
pub rows_shadows : (e : Above) (i : ℕ) (rows : List LaidRow) → AllOf (PortGiven e) (rows_ports rows) → AllOf (StateGiven e) (rows_states i rows) → RowsShadows e i rows
rows_shadows e i [] ports states = tt
rows_shadows e i (row ∷ rows) ports states = (
  item_shadow e i row.item (all_front (PortGiven e) (item_ports row.item) (rows_ports rows) ports) (all_front (StateGiven e) (item_states i row.item) (rows_states (i + 1) rows) states),
  rows_shadows e (i + 1) rows (all_back (PortGiven e) (item_ports row.item) (rows_ports rows) ports) (all_back (StateGiven e) (item_states i row.item) (rows_states (i + 1) rows) states),
)
