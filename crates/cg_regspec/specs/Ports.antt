-- Which ports the register module of an interface has, each as a fact: software asks by some, hardware sees and brings values by the
-- others. The fields' ports are told by what the block's step shows hardware, and by what it looks at of what hardware brings.
use Rattle.std.specs.Prelude.{◌≡◌, ℕ, suc, ◌-◌, ◌↔◌, true, List, codes}
use Rattle.cg_svspec.specs.Tree.{Module}
use Rattle.cg_svspec.specs.Names.{Among, Differ, port_names}
use Rattle.cg_svspec.specs.Register.{input_port, output_port}
use Rattle.cg_desc.specs.Shadow.{is_shadowed}
use Rattle.cg_desc.specs.BlockStep.{shows_q, shows_qe, shows_re, brings_d, brings_de}
use Rattle.cg_desc.specs.declared.block.FieldDesc.{FieldDesc}
use Rattle.cg_desc.specs.declared.block.RegDesc.{RegDesc}
use Rattle.cg_desc.specs.declared.block.WindowDesc.{WindowDesc}
use Rattle.cg_desc.specs.declared.block.Item.TheVariants.{Reg, Window}
use Rattle.cg_desc.specs.declared.block.LaidRow.{LaidRow}
use Rattle.cg_desc.specs.declared.block.LaidFace.{LaidFace}
use Rattle.cg_regspec.specs.NetNames.{reg_we, reg_re, reg_addr, reg_wdata, reg_be, reg_rdata, reg_error, q_net, qe_net, re_net, d_net, de_net, update_error_net, window_we, window_re, window_addr, window_wdata, window_be, window_rdata}

-- the interface has a register with this field
pub record FieldOf (face : LaidFace) (r : RegDesc) (f : FieldDesc) : Type 0 where
  pub row : LaidRow
  pub in_face : Among row face.rows
  pub is_register : row.item ≡ Reg r
  pub in_register : Among f r.fields

-- the interface has this register
pub record RegisterOf (face : LaidFace) (r : RegDesc) : Type 0 where
  pub row : LaidRow
  pub in_face : Among row face.rows
  pub is_register : row.item ≡ Reg r

-- the interface has this window
pub record WindowOf (face : LaidFace) (w : WindowDesc) : Type 0 where
  pub row : LaidRow
  pub in_face : Among row face.rows
  pub is_window : row.item ≡ Window w

-- an output of the module: its width and its name
pub data IsOutput (face : LaidFace) : ℕ → List ℕ → Type 0 where
  -- the answer to an access
  answer_data : IsOutput face 32 reg_rdata
  answer_error : IsOutput face 1 reg_error
  -- what hardware sees of a field: its value, that software writes it, and that software reads it
  field_value : (r : RegDesc) (f : FieldDesc) → FieldOf face r f → shows_q r f ≡ true → IsOutput face (suc f.msb - f.lsb) (q_net r f)
  field_written : (r : RegDesc) (f : FieldDesc) → FieldOf face r f → shows_qe r f ≡ true → IsOutput face 1 (qe_net r f)
  field_read : (r : RegDesc) (f : FieldDesc) → FieldOf face r f → shows_re r f ≡ true → IsOutput face 1 (re_net r f)
  -- what it sees of a shadowed register: that a second write differs
  update_error : (r : RegDesc) → RegisterOf face r → is_shadowed r ≡ true → IsOutput face 1 (update_error_net r)
  -- what hardware sees of a window: the strobes of a write and of a read, the address, the write data and the byte strobes
  window_written : (w : WindowDesc) → WindowOf face w → IsOutput face 1 (window_we w)
  window_read : (w : WindowDesc) → WindowOf face w → IsOutput face 1 (window_re w)
  window_address : (w : WindowDesc) → WindowOf face w → IsOutput face 32 (window_addr w)
  window_data : (w : WindowDesc) → WindowOf face w → IsOutput face 32 (window_wdata w)
  window_strobes : (w : WindowDesc) → WindowOf face w → IsOutput face 4 (window_be w)

-- an input of the module: its width and its name
pub data IsInput (face : LaidFace) : ℕ → List ℕ → Type 0 where
  -- the clock, and the reset, which is there while it is 0
  clock : IsInput face 1 (codes "clk_i")
  reset : IsInput face 1 (codes "rst_ni")
  -- an access: that it is a write, that it is a read, its address, its data, and a strobe for each byte
  access_write : IsInput face 1 reg_we
  access_read : IsInput face 1 reg_re
  access_address : IsInput face 32 reg_addr
  access_data : IsInput face 32 reg_wdata
  access_strobes : IsInput face 4 reg_be
  -- what hardware brings for a field: a value, and a strobe with it
  hardware_value : (r : RegDesc) (f : FieldDesc) → FieldOf face r f → brings_d r f ≡ true → IsInput face (suc f.msb - f.lsb) (d_net r f)
  hardware_strobe : (r : RegDesc) (f : FieldDesc) → FieldOf face r f → brings_de r f ≡ true → IsInput face 1 (de_net r f)
  -- what hardware brings for a window
  hardware_word : (w : WindowDesc) → WindowOf face w → IsInput face 32 (window_rdata w)

-- the module has just these outputs and inputs, each once
pub record HasPortsOf (m : Module) (face : LaidFace) : Type 0 where
  pub outputs : (width : ℕ) (name : List ℕ) → Among (output_port width name) m.ports ↔ IsOutput face width name
  pub inputs : (width : ℕ) (name : List ℕ) → Among (input_port width name) m.ports ↔ IsInput face width name
  pub each_once : Differ (port_names m.ports)
