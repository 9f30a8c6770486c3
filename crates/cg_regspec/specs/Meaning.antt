-- What a register module means: its step is the step of the block's interface.
use Rattle.std.specs.Prelude.{◌≡◌, ℕ, suc, ◌-◌, ◌^◌, ◌<◌, Bool, false, not, List, [], ◌∷◌}
use Rattle.cg_svspec.specs.Bits.{Bits, bits}
use Rattle.cg_svspec.specs.Tree.{Module}
use Rattle.cg_svspec.specs.Value.{Values, Valuation, HasWidths, IsReset}
use Rattle.cg_svspec.specs.WellFormed.{WellFormed}
use Rattle.cg_svspec.specs.Register.{IsRegister, KeepsWidths}
use Rattle.cg_desc.specs.Target.{Target, IsTarget}
use Rattle.cg_desc.specs.Shadow.{is_shadowed}
use Rattle.cg_desc.specs.BlockStep.{Access, is_read, is_write, Fields, State, Hardware, Outcome, BlockStep, EachField, EachRow, Where}
use Rattle.cg_desc.specs.declared.block.RegDesc.{RegDesc}
use Rattle.cg_desc.specs.declared.block.Item.{Item}
use Rattle.cg_desc.specs.declared.block.Item.TheVariants.{Reg}
use Rattle.cg_desc.specs.declared.block.LaidFace.{LaidFace}
use Rattle.cg_regspec.specs.NetNames.{reg_we, reg_re, reg_addr, reg_wdata, reg_be, reg_rdata, reg_error, phase_net, state_net, staged_net, q_net, qe_net, re_net, d_net, de_net, update_error_net, window_we, window_re, window_addr, window_wdata, window_be, window_rdata}
use Rattle.cg_regspec.specs.Ports.{HasPortsOf}

-- the bit of a net of width 1
abbrev pub bit_of : Bits → Bool
bit_of [] = false
bit_of (b ∷ bs) = b

-- the module's inputs carry the access
pub record Carries (inputs : Values) (a : Access) : Type 0 where
  pub we : inputs reg_we ≡ is_write a.kind ∷ []
  pub re : inputs reg_re ≡ is_read a.kind ∷ []
  pub address : inputs reg_addr ≡ bits 32 a.address
  pub data_in : inputs reg_wdata ≡ a.data_in
  pub strobes : inputs reg_be ≡ a.strobes
  pub small : a.address < 2 ^ 32

-- the stored fields' values, as the module's states have them
abbrev pub fields_in : Values → Fields
fields_in state = λ r f. state (state_net r f)

-- and all that the block keeps
abbrev pub state_in : Values → State
state_in state = record {
  values = fields_in state;
  staged = λ r f. state (staged_net r f);
  phase = λ i. bit_of (state (phase_net i));
}

-- what hardware brings, as the inputs have it
abbrev pub hardware_in : Values → Hardware
hardware_in inputs = record {
  d = λ r f. inputs (d_net r f);
  de = λ r f. bit_of (inputs (de_net r f));
  read_data = λ w. inputs (window_rdata w);
}

-- What comes of a clock, as the nets and the next states have it. An output has the value of its net, so hardware sees just these
-- values at the ports of those names.
abbrev pub outcome_in : Values → Values → Outcome
outcome_in v next = record {
  has_error = bit_of (v reg_error);
  data_out = v reg_rdata;
  next = state_in next;
  q = λ r f. v (q_net r f);
  qe = λ r f. bit_of (v (qe_net r f));
  re = λ r f. bit_of (v (re_net r f));
  update_error = λ r. bit_of (v (update_error_net r));
  window_we = λ w. bit_of (v (window_we w));
  window_re = λ w. bit_of (v (window_re w));
  window_address = λ w. v (window_addr w);
  window_data = λ w. v (window_wdata w);
  window_strobes = λ w. v (window_be w);
}

-- a shadowed register has nothing staged, and its phase is 0
pub record ShadowIsReset (state : Values) (i : ℕ) (r : RegDesc) : Type 0 where
  pub staged : EachField (λ f. state (staged_net r f) ≡ bits (suc f.msb - f.lsb) 0) r.fields
  pub phase : state (phase_net i) ≡ false ∷ []

-- each stored field has its reset value
pub record RegisterIsReset (state : Values) (i : ℕ) (r : RegDesc) : Type 0 where
  pub fields : Where (not r.hwext) (EachField (λ f. state (state_net r f) ≡ bits (suc f.msb - f.lsb) f.resval) r.fields)
  pub shadow : Where (is_shadowed r) (ShadowIsReset state i r)

abbrev pub ItemIsReset : Values → ℕ → Item → Type 0
ItemIsReset state i (Reg r) = RegisterIsReset state i r
ItemIsReset state i item = Unit {0}

abbrev pub StateIsReset : LaidFace → Values → Type 0
StateIsReset face state = EachRow (ItemIsReset state) 0 face.rows

-- The module of this name acts as the register block of the interface. Its outputs are the answer to an access and what hardware
-- sees; its inputs are the access and what hardware brings. It is a well-formed register module. Its states at reset exist, are the
-- fields' reset values with nothing staged, and have their widths, and so have the outputs, and the states after each clock. It has a valuation for all inputs
-- and states of their widths, and each of its valuations is the block's step at what the address is, for every access at every address of 32 bits.
pub record RegisterMeans (name : List ℕ) (m : Module) (face : LaidFace) : Type 0 where
  pub named : m.name ≡ name
  pub ports : HasPortsOf m face
  pub well_formed : WellFormed m
  pub is_register : IsRegister m
  pub widths : KeepsWidths m
  pub resets : (state : Values) → IsReset m state → StateIsReset face state
  pub has_reset : (state : Values) → StateIsReset face state → IsReset m state
  pub has_valuation : (inputs state : Values) → HasWidths m inputs state → (v : Values) × (next : Values) × Valuation m inputs state v next
  pub steps : (inputs state v next : Values) (a : Access) (target : Target) → HasWidths m inputs state → Carries inputs a → IsTarget face a.address target
      → Valuation m inputs state v next → BlockStep face target a (state_in state) (hardware_in inputs) (outcome_in v next)
