-- What the nets of a top's module carry: interrupts, alerts and pins bit by bit, and the sources of clocks and resets.
use Rattle.std.specs.Prelude.{◌≡◌, ◌≢◌, ℕ, ◌<◌, false, List, [], ◌∷◌, ◌++◌, codes, flat_map, get_or, length, map, Some, None}
use Rattle.cg_clkrst.specs.declared.tie.Owner.TheVariants as owner
use Rattle.cg_clkrst.specs.declared.tie.Tie.{Tie}
use Rattle.cg_desc.specs.declared.block.AlertDesc.{AlertDesc}
use Rattle.cg_desc.specs.declared.block.IntrDesc.{IntrDesc}
use Rattle.cg_desc.specs.declared.top.MergedTop.{MergedTop}
use Rattle.cg_irq.specs.declared.bits.IrqMap.{IrqMap}
use Rattle.cg_pinmux.specs.declared.map.PinMap.{PinMap}
use Rattle.cg_svspec.specs.Names.{Among}
use Rattle.cg_svspec.specs.Register.{input_port}
use Rattle.cg_svspec.specs.Tree.{net, Module}
use Rattle.cg_svspec.specs.Value.{Values, Valuation, eval, connection_at}
use Rattle.cg_topspec.specs.Clashes.{clash_lists, first_clash}
use Rattle.cg_topspec.specs.Fits.{FitsTop}
use Rattle.cg_topspec.specs.Modules.{HasModules}
use Rattle.cg_topspec.specs.Nets.{Pin, bit_at, interrupt_bit, alert_bit, pin_output_bit, pin_input_net, pin_output_net, interrupt_net, alert_net, input_pins, output_pins}
use Rattle.cg_topspec.specs.Top.{counting, instance_of, block_of}
use Rattle.cg_topspec.specs.TopModule.{top_module, top_ports, pad_outputs, pin_source, port_bit, source_net, instance_connections, crossbar_connections, interrupt_connection, alert_connection, pin_input_connection, pin_output_connection}

-- ---- vectors

-- bit k of a net that has its width
abbrev pub BitIsRead : Type 0
BitIsRead = (v : Values) (name : List ℕ) (width k : ℕ) → length (v name) ≡ width → k < width → eval v (bit_at name width k) ≡ get_or (v name) k false ∷ []

-- Bit 0 of `intr_src` is 0, and behind it stand the bits of the interrupts in the order of their numbers. So stand the alerts' in
-- `alert_src`, and the outputs' in `mio_out`; each bit of `pad_out` is that of the output that is tied to the pad, or 0; and each bit
-- of a port that takes bits in is its bit of `mio_in`, that of its pad, or 0.
pub record VectorsAre (m : MergedTop) (numbers : IrqMap) (pins : PinMap) (v : Values) : Type 0 where
  pub interrupts : v (codes "intr_src") ≡ false ∷ flat_map (eval v) (map (interrupt_bit m) numbers.intr)
  pub alerts : numbers.alert ≢ [] → v (codes "alert_src") ≡ flat_map (eval v) (map (alert_bit m) numbers.alert)
  pub outputs : pins.outs ≢ [] → v (codes "mio_out") ≡ flat_map (eval v) (map (pin_output_bit m) pins.outs)
  pub pads : m.top.pads ≢ [] → v (codes "pad_out") ≡ flat_map (eval v) (pad_outputs m pins)
  pub inputs : (i : ℕ) (p : Pin) → i < length m.top.insts → Among p (input_pins (block_of m i))
      → v (pin_input_net (instance_of m i).name p.port) ≡ flat_map (eval v) (map (λ k. pin_source m pins (port_bit i p.number k)) (counting 0 p.port.width))

-- in every valuation of a top's module
abbrev pub VectorsHold : Type 0
VectorsHold =
    (m : MergedTop) (numbers : IrqMap) (ties : List Tie) (pins : PinMap) (inputs given v next : Values) → Valuation (top_module m numbers ties pins) inputs given v next
    → VectorsAre m numbers pins v

-- ---- connections

-- Each clock and reset port of an instance and each clock of a crossbar has its source's net, which is a port of the top; and each
-- interrupt, alert and pin of an instance has its own net.
pub record ConnectionsAre (m : MergedTop) (numbers : IrqMap) (ties : List Tie) (pins : PinMap) : Type 0 where
  pub instances : (t : Tie) (i : ℕ) → Among t ties → t.owner ≡ owner.Inst i → i < length m.top.insts
      → (connection_at t.port (instance_connections m ties i) ≡ Some (net (source_net t.reset t.source))) × Among (input_port 1 (source_net t.reset t.source)) (top_ports m numbers pins)
  pub crossbars : (t : Tie) (x : ℕ) → Among t ties → t.owner ≡ owner.Xbar x → x < length m.xbars
      → (connection_at (codes "c_" ++ t.port) (crossbar_connections m ties x) ≡ Some (net (source_net t.reset t.source))) × Among (input_port 1 (source_net t.reset t.source)) (top_ports m numbers pins)
  pub interrupts : (i : ℕ) (interrupt : IntrDesc) → i < length m.top.insts → Among interrupt (block_of m i).desc.intrs
      → connection_at (interrupt_connection (instance_of m i).name interrupt).name (instance_connections m ties i) ≡ Some (net (interrupt_net (instance_of m i).name interrupt))
  pub alerts : (i : ℕ) (alert : AlertDesc) → i < length m.top.insts → Among alert (block_of m i).desc.alerts
      → connection_at (alert_connection (instance_of m i).name alert).name (instance_connections m ties i) ≡ Some (net (alert_net (instance_of m i).name alert))
  pub pins_in : (i : ℕ) (p : Pin) → i < length m.top.insts → Among p (input_pins (block_of m i))
      → connection_at (pin_input_connection (instance_of m i).name p).name (instance_connections m ties i) ≡ Some (net (pin_input_net (instance_of m i).name p.port))
  pub pins_out : (i : ℕ) (p : Pin) → i < length m.top.insts → Among p (output_pins (block_of m i))
      → connection_at (pin_output_connection (instance_of m i).name p).name (instance_connections m ties i) ≡ Some (net (pin_output_net (instance_of m i).name p.port))

abbrev pub ConnectionsHold : Type 0
ConnectionsHold =
    (m : MergedTop) (numbers : IrqMap) (ties : List Tie) (pins : PinMap) (ms : List Module) → FitsTop m numbers ties pins → first_clash (clash_lists m numbers ties pins) ≡ None
    → HasModules m (top_module m numbers ties pins ∷ ms) → ConnectionsAre m numbers ties pins
