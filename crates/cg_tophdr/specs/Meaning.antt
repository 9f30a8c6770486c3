-- What a top's header means: its constants are the places and sizes of interfaces, and the numbers of interrupts, alerts and pins.
use Rattle.std.specs.Prelude.{◌≡◌, ◌↔◌, ℕ, suc, List, codes, slice_get, Some}
use Rattle.cg_svspec.specs.Names.{Among, Differ}
use Rattle.cg_desc.specs.Ends.{InstanceIs}
use Rattle.cg_desc.specs.Merged.{BaseIs, FaceAt, design_of}
use Rattle.cg_desc.specs.declared.block.AlertDesc.{AlertDesc}
use Rattle.cg_desc.specs.declared.block.IntrDesc.{IntrDesc}
use Rattle.cg_desc.specs.declared.block.IoDesc.{IoDesc}
use Rattle.cg_desc.specs.declared.block.LaidFace.{LaidFace}
use Rattle.cg_desc.specs.declared.top.InstDesc.{InstDesc}
use Rattle.cg_desc.specs.declared.top.MergedTop.{MergedTop}
use Rattle.cg_hdrspec.specs.Header.{Constant, constant, IsHeader}
use Rattle.cg_irq.specs.Numbers.{AlertAt, InterruptAt}
use Rattle.cg_irq.specs.declared.bits.Bit.{Bit}
use Rattle.cg_irq.specs.declared.bits.IrqMap.{IrqMap}
use Rattle.cg_pinmux.specs.Pins.{IsPortBit}
use Rattle.cg_pinmux.specs.declared.map.PinMap.{PinMap}
use Rattle.cg_tophdr.specs.TopHeader.{base_of, bit_name, interface_name, size_of, top_header_names}

-- the number of a bit of an instance's port, among these bits
pub data IsPinConstant (m : MergedTop) (kind : List ℕ) (bits : List Bit) : Constant → Type 0 where
  pin : (n : ℕ) (b : Bit) (inst : InstDesc) (port : IoDesc) → slice_get bits n ≡ Some b → InstanceIs (design_of m) b.inst inst → IsPortBit m b port
      → IsPinConstant m kind bits (constant (bit_name m.top.name kind inst.name port.name port.width b.bit) n)

-- The constants of a top: the base and the size of each device interface of each instance, the number of each bit of an interrupt, counted
-- from 1, of each alert, and of each bit of a port that a pin is chosen for, counted from 0.
pub data IsTopConstant (m : MergedTop) (numbers : IrqMap) (pins : PinMap) : Constant → Type 0 where
  base : (i f base : ℕ) (inst : InstDesc) (face : LaidFace) → InstanceIs (design_of m) i inst → FaceAt m i f face → BaseIs m i f base
      → IsTopConstant m numbers pins (constant (base_of (interface_name m.top.name inst.name face.name)) base)
  size : (i f : ℕ) (inst : InstDesc) (face : LaidFace) → InstanceIs (design_of m) i inst → FaceAt m i f face
      → IsTopConstant m numbers pins (constant (size_of (interface_name m.top.name inst.name face.name)) face.size)
  interrupt : (n : ℕ) (b : Bit) (inst : InstDesc) (interrupt : IntrDesc) → slice_get numbers.intr n ≡ Some b → InstanceIs (design_of m) b.inst inst
      → InterruptAt m b.inst b.item interrupt
      → IsTopConstant m numbers pins (constant (bit_name m.top.name (codes "IRQ") inst.name interrupt.name interrupt.width b.bit) (suc n))
  alert : (n : ℕ) (b : Bit) (inst : InstDesc) (alert : AlertDesc) → slice_get numbers.alert n ≡ Some b → InstanceIs (design_of m) b.inst inst
      → AlertAt m b.inst b.item alert → IsTopConstant m numbers pins (constant (bit_name m.top.name (codes "ALERT") inst.name alert.name 1 b.bit) n)
  input : {c : Constant} → IsPinConstant m (codes "MIO_IN") pins.ins c → IsTopConstant m numbers pins c
  output : {c : Constant} → IsPinConstant m (codes "MIO_OUT") pins.outs c → IsTopConstant m numbers pins c

-- The text is a header. Its constants are those of the top, and no name is defined twice, so that each thing has its own.
pub record TopHeaderMeans (m : MergedTop) (numbers : IrqMap) (pins : PinMap) (text : List ℕ) : Type 0 where
  pub constants : List Constant
  pub is_header : IsHeader text constants
  pub members : (c : Constant) → Among c constants ↔ IsTopConstant m numbers pins c
  pub differ : Differ (top_header_names m numbers pins)
