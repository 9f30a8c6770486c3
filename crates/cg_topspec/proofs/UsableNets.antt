-- Nets of instances, and vectors of pins, that may be used behind the wires of a top's module.
use Rattle.std.proofs.Common.{List, [], arith, codes, flat_map, inl, length, map, refl, ℕ, ◌<◌, ◌∷◌}
use Rattle.cg_clkrst.specs.declared.tie.Tie.{Tie}
use Rattle.cg_desc.specs.declared.block.AlertDesc.{AlertDesc}
use Rattle.cg_desc.specs.declared.block.IntrDesc.{IntrDesc}
use Rattle.cg_svspec.specs.Names.{Among}
use Rattle.cg_svspec.specs.Register.{input_port, output_port}
use Rattle.cg_svspec.specs.Tree.{Entry, Port, wire}
use Rattle.cg_topspec.proofs.Built.{Built, instance_wires, top_ports}
use Rattle.cg_topspec.proofs.Fitting.{IsUsable, usable_up}
use Rattle.cg_topspec.proofs.ListLemmas.{in_back, in_counting, in_each, in_front, in_map}
use Rattle.cg_topspec.proofs.NoClash.{source_of}
use Rattle.cg_topspec.proofs.ReadBits.{IsGiven, IsVectorIn, of_alert, of_inputs, of_interrupt, of_output, of_pads}
use Rattle.cg_topspec.proofs.Tied.{source_is_port}
use Rattle.cg_topspec.proofs.Usable.{IsGood, above_all, behind_wires, drive_usable, input_usable, top_wires, up_wires, wire_usable}
use Rattle.cg_topspec.specs.Nets.{Pin, alert_net, input_pins, interrupt_net, output_pins, pin_input_net, pin_output_net}
use Rattle.cg_topspec.specs.Top.{block_of, counting, instance_numbers, instance_of, ordered}
use Rattle.cg_topspec.specs.TopModule.{alert_wires, bits_of, clock_ports, interrupt_wires, node_ports, node_wires, number_ports, pin_input_wire, pin_output_wires, pin_ports, pin_source, port_bit, reset_ports, source_net, vector_port}
use Rattle.cg_clkrst.specs.Ties.{port_of as tie_port}

module _ (top : Built) (good : IsGood top) where
  -- ---- clocks, resets and nets of instances

  pub source_usable : (t : Tie) → Among t top.ties → IsUsable (behind_wires top) (source_net t.reset t.source) 1
  source_usable t a =
      usable_up (source_net t.reset t.source) 1 (up_wires top good)
      (input_usable top good (input_port 1 (source_net t.reset t.source))
      (source_is_port top.merged top.numbers top.pins (tie_port t) t.source (source_of top.merged top.ties good.fits.ties_are t a)) refl)

  pub of_instance : (i : ℕ) → i < length top.merged.top.insts → (e : Entry) → Among e (instance_wires top i) → Among e (top_wires top)
  of_instance i less e a =
      in_back e (flat_map (node_wires top.merged) (ordered top.merged)) _
      (in_each (instance_wires top) (instance_numbers top.merged) i e (in_counting 0 (length top.merged.top.insts) i (omega arith) (omega (arith, less))) a)

  module _ (i : ℕ) (less : i < length top.merged.top.insts) where
    pub interrupt_usable : (x : IntrDesc) → Among x (block_of top.merged i).desc.intrs
        → IsUsable (behind_wires top) (interrupt_net (instance_of top.merged i).name x) x.width
    interrupt_usable x a =
        wire_usable top good x.width (interrupt_net (instance_of top.merged i).name x)
        (of_instance i less (wire x.width (interrupt_net (instance_of top.merged i).name x))
        (in_front _ (interrupt_wires top.merged i) _ (in_map (λ (y : IntrDesc). wire y.width (interrupt_net (instance_of top.merged i).name y))
        (block_of top.merged i).desc.intrs x a)))

    pub alert_usable : (x : AlertDesc) → Among x (block_of top.merged i).desc.alerts
        → IsUsable (behind_wires top) (alert_net (instance_of top.merged i).name x) 1
    alert_usable x a =
        wire_usable top good 1 (alert_net (instance_of top.merged i).name x) (of_instance i less (wire 1 (alert_net (instance_of top.merged i).name x))
        (in_back _ (interrupt_wires top.merged i) _ (in_front _ (alert_wires top.merged i) _
        (in_map (λ (y : AlertDesc). wire 1 (alert_net (instance_of top.merged i).name y)) (block_of top.merged i).desc.alerts x a))))

    pub output_usable : (p : Pin) → Among p (output_pins (block_of top.merged i))
        → IsUsable (behind_wires top) (pin_output_net (instance_of top.merged i).name p.port) p.port.width
    output_usable p a =
        wire_usable top good p.port.width (pin_output_net (instance_of top.merged i).name p.port)
        (of_instance i less (wire p.port.width (pin_output_net (instance_of top.merged i).name p.port))
        (in_back _ (interrupt_wires top.merged i) _ (in_back _ (alert_wires top.merged i) _ (in_front _ (pin_output_wires top.merged i) _
        (in_map (λ (q : Pin). wire q.port.width (pin_output_net (instance_of top.merged i).name q.port)) (output_pins (block_of top.merged i)) p a)))))

    pub pin_input_usable : (p : Pin) → Among p (input_pins (block_of top.merged i))
        → IsUsable (behind_wires top) (pin_input_net (instance_of top.merged i).name p.port) p.port.width
    pin_input_usable p a =
        drive_usable top good p.port.width (pin_input_net (instance_of top.merged i).name p.port)
        (bits_of (map (λ k. pin_source top.merged top.pins (port_bit i p.number k)) (counting 0 p.port.width)))
        (of_instance i less (pin_input_wire top.merged top.pins i p)
        (in_back _ (interrupt_wires top.merged i) _ (in_back _ (alert_wires top.merged i) _ (in_back _ (pin_output_wires top.merged i) _
        (in_map (pin_input_wire top.merged top.pins i) (input_pins (block_of top.merged i)) p a)))))

  -- ---- the nets of which bits are read

  vector_there : {A : Type 0} (port : ℕ → List ℕ → Port) (name : List ℕ) (xs : List A) → 0 < length xs
      → Among (port (length xs) name) (vector_port port name xs)
  vector_there port name [] some = absurd (omega (arith, some))
  vector_there port name (x ∷ xs) some = inl refl

  -- a port of pins
  pub pin_port_there : (p : Port) → Among p (pin_ports top.merged top.pins) → Among p (top_ports top)
  pin_port_there p a =
      in_back p (clock_ports top.merged) _ (in_back p (reset_ports top.merged) _
      (in_back p (flat_map (node_ports top.merged) (ordered top.merged)) _ (in_back p (number_ports top.numbers) _ a)))

  pub vector_usable : (name : List ℕ) (width : ℕ) → IsVectorIn top.merged top.pins name width → IsUsable (above_all top) name width
  vector_usable name width (of_inputs some) =
      input_usable top good (input_port width (codes "mio_in")) (pin_port_there _
      (in_front _ (vector_port input_port (codes "mio_in") top.pins.ins) _ (vector_there input_port (codes "mio_in") top.pins.ins some))) refl
  vector_usable name width (of_pads some) =
      input_usable top good (input_port width (codes "pad_in"))
      (pin_port_there _ (in_back _ (vector_port input_port (codes "mio_in") top.pins.ins) _
      (in_back _ (vector_port output_port (codes "mio_out") top.pins.outs) _
      (in_front _ (vector_port input_port (codes "pad_in") top.merged.top.pads) _ (vector_there input_port (codes "pad_in") top.merged.top.pads some))))) refl

  pub given_usable : (name : List ℕ) (width : ℕ) → IsGiven top.merged name width → IsUsable (behind_wires top) name width
  given_usable name width (of_interrupt i x less a) = interrupt_usable i less x a
  given_usable name width (of_alert i x less a) = alert_usable i less x a
  given_usable name width (of_output i p less a) = output_usable i less p a
