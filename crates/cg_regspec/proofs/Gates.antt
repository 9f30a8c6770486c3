-- A register's gate: its one bit is the net that the write wire of the register is cut by.
use Rattle.std.proofs.Common.{◌≡◌, ℕ, suc, ◌-◌, Bool, true, false, cond, ◌&&◌, List, [], ◌∷◌, length, refl, ap, sym, ◌∙◌, arith, Option, Some, None}
use Rattle.std.proofs.Math.Bool.{and-true}
use Rattle.cg_svspec.specs.Bits.{Bits, any_bit, zipped}
use Rattle.cg_svspec.specs.Tree.{Expression, net, and}
use Rattle.cg_svspec.specs.Value.{Values, eval}
use Rattle.cg_desc.specs.Gates.{has_name, register_named}
use Rattle.cg_desc.specs.BlockStep.{is_open, is_open_at}
use Rattle.cg_desc.specs.Laid.{IsGateAt, GateFits}
use Rattle.cg_desc.specs.declared.block.FieldDesc.{FieldDesc}
use Rattle.cg_desc.specs.declared.block.RegDesc.{RegDesc}
use Rattle.cg_desc.specs.declared.block.Item.{Item}
use Rattle.cg_desc.specs.declared.block.Item.TheVariants.{Reg, Window, SkipTo, Reserved}
use Rattle.cg_desc.specs.declared.block.LaidRow.{LaidRow}
use Rattle.cg_desc.specs.declared.block.LaidFace.{LaidFace}
use Rattle.cg_regspec.specs.NetNames.{state_net}
use Rattle.cg_regspec.specs.RegisterModule.{gate_of, gated}
use Rattle.cg_regspec.specs.Meaning.{fields_in}
use Rattle.cg_regspec.proofs.Tables.{OneBit, gate_parts, first_net, gate_net_is}
use Rattle.cg_regspec.proofs.Wires.{RegisterWires, RowsWires, ItemWires}

-- the nets of a register, if there is one
abbrev WiresAt : Values → Values → Values → Values → Option RegDesc → Type 0
WiresAt v state next inputs None = Unit {0}
WiresAt v state next inputs (Some g) = RegisterWires v state next inputs g

-- the first register of the name, or a later one
either_at : (v state next inputs : Values) (b : Bool) (r : RegDesc) (later : Option RegDesc) → RegisterWires v state next inputs r → WiresAt v state next inputs later
    → WiresAt v state next inputs (cond b (Some r) later)
either_at v state next inputs true r later here there = here
either_at v state next inputs false r later here there = there

-- with one row more
named_in : (v state next inputs : Values) (first words : ℕ) (item : Item) (rows : List LaidRow) (name : List ℕ) → ItemWires v state next inputs item
    → WiresAt v state next inputs (register_named rows name) → WiresAt v state next inputs (register_named (record { first = first; words = words; item = item } ∷ rows) name)
named_in v state next inputs first words (Reg r) rows name here there = either_at v state next inputs (has_name r name) r (register_named rows name) here there
named_in v state next inputs first words (Window w) rows name here there = there
named_in v state next inputs first words (SkipTo to at) rows name here there = there
named_in v state next inputs first words (Reserved spare at) rows name here there = there

-- the register of a name has its nets
named_wires : (v state next inputs : Values) (rows : List LaidRow) (name : List ℕ) → RowsWires v state next inputs rows → WiresAt v state next inputs (register_named rows name)
named_wires v state next inputs [] name wires = tt
named_wires v state next inputs (row ∷ rows) name wires =
    named_in v state next inputs row.first row.words row.item rows name wires.0 (named_wires v state next inputs rows name wires.1)

-- a field of one bit has width 1
one_wide : (m l : ℕ) → m ≡ l → suc m - l ≡ 1
one_wide m l e = omega arith

-- the net of one bit cuts
one_bit_cuts : (b : Bool) (xs : Bits) → length xs ≡ 1 → zipped ◌&&◌ (b ∷ []) xs ≡ (b && any_bit xs) ∷ []
one_bit_cuts b [] one = absurd (omega arith)
one_bit_cuts b (true ∷ []) one = refl
one_bit_cuts b (false ∷ []) one = refl
one_bit_cuts b (x ∷ (y ∷ ys)) one = absurd (omega arith)

-- an expression with a net of one bit
cut_by : (v : Values) (x : Expression) (b : Bool) (n : List ℕ) (bit : Bits) → eval v x ≡ b ∷ [] → v n ≡ bit → length bit ≡ 1 → eval v (and x (net n)) ≡ (b && any_bit bit) ∷ []
cut_by v x b n bit holds is one = rw (holds, is) (one_bit_cuts b bit one)

-- the gate of this register, whose fields are these
gate_with : (v state next inputs : Values) (g : RegDesc) (fs : List FieldDesc) (x : Expression) (b : Bool) → (g.hwext ≡ false) × OneBit fs
    → RegisterWires v state next inputs (record g { fields = fs }) → eval v x ≡ b ∷ []
    → eval v (gated x (first_net (Some (record g { fields = fs })))) ≡ (b && is_open_at (fields_in state) (Some (record g { fields = fs }))) ∷ []
gate_with v state next inputs g [] x b gate wires holds = absurd gate.1
gate_with v state next inputs g (f ∷ []) x b gate wires holds =
    let net = state_net (record g { fields = f ∷ [] }) f in
    cut_by v x b net (state net) holds (wires.0.stored gate.0) (wires.0.stored_width gate.0 ∙ one_wide f.msb f.lsb gate.1)
gate_with v state next inputs g (f ∷ (h ∷ fs)) x b gate wires holds = absurd gate.1

-- the gate, if there is one of the name
gate_at : (v state next inputs : Values) (o : Option RegDesc) (x : Expression) (b : Bool) → IsGateAt o → WiresAt v state next inputs o → eval v x ≡ b ∷ []
    → eval v (gated x (first_net o)) ≡ (b && is_open_at (fields_in state) o) ∷ []
gate_at v state next inputs None x b gate wires holds = absurd gate
gate_at v state next inputs (Some g) x b gate wires holds = gate_with v state next inputs g g.fields x b (gate_parts g gate) wires holds

-- with and without a gate
gate_by : (v state next inputs : Values) (face : LaidFace) (r : RegDesc) (o : Option (List ℕ)) → RowsWires v state next inputs face.rows → GateFits face.rows o
    → (x : Expression) (b : Bool) → eval v x ≡ b ∷ [] → eval v (gated x (gate_of face.rows o)) ≡ (b && is_open face (fields_in state) (record r { regwen = o })) ∷ []
gate_by v state next inputs face r None wires fits x b holds = holds ∙ ap (λ z. z ∷ []) (sym (and-true b))
gate_by v state next inputs face r (Some name) wires fits x b holds =
    rw (gate_net_is face.rows name) (gate_at v state next inputs (register_named face.rows name) x b fits (named_wires v state next inputs face.rows name wires) holds)

-- a register's write wire is cut by its gate, if it has one
pub gate_cuts : (v state next inputs : Values) (face : LaidFace) (r : RegDesc) → RowsWires v state next inputs face.rows → GateFits face.rows r.regwen
    → (x : Expression) (b : Bool) → eval v x ≡ b ∷ [] → eval v (gated x (gate_of face.rows r.regwen)) ≡ (b && is_open face (fields_in state) r) ∷ []
gate_cuts v state next inputs face r wires fits = gate_by v state next inputs face r r.regwen wires fits
