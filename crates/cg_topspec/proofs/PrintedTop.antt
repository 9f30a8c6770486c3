-- The module of a top can be printed: its ports, nets and instances are of the grammar.
use Rattle.std.proofs.Common.{Bool, List, [], arith, codes, false, flat_map, length, map, refl, suc, true, zero, ℕ, ◌<◌, ◌∷◌, ◌≤◌}
use Rattle.cg_busspec.proofs.WellLinks.{bit_width, request_width, response_width}
use Rattle.cg_clkrst.specs.declared.tie.Tie.{Tie}
use Rattle.cg_desc.specs.Merged.{IsMerged}
use Rattle.cg_desc.specs.declared.top.MergedTop.{MergedTop}
use Rattle.cg_desc.specs.declared.top.NodeEnd.{NodeEnd}
use Rattle.cg_desc.specs.declared.top.NodeEnd.TheVariants.{Face, Host, Outside, Xbar}
use Rattle.cg_irq.specs.declared.bits.IrqMap.{IrqMap}
use Rattle.cg_pinmux.specs.declared.map.PinMap.{PinMap}
use Rattle.cg_svspec.proofs.Parts.{all_join}
use Rattle.cg_svspec.proofs.WellNames.{literal_name, prefix_name}
use Rattle.cg_svspec.specs.Characters.{IsName}
use Rattle.cg_svspec.specs.Links.{Link}
use Rattle.cg_svspec.specs.Names.{Among}
use Rattle.cg_svspec.specs.Printable.{AllOf, IsPrintable, IsPrintableEntry, IsPrintablePort, IsSomeOf, IsWidth}
use Rattle.cg_svspec.specs.Register.{input_port, output_port}
use Rattle.cg_svspec.specs.Tree.{Expression, Port, lit, wire}
use Rattle.cg_topspec.proofs.Built.{IsNode}
use Rattle.cg_topspec.proofs.EachItem.{each_flat, each_mapped, some_back}
use Rattle.cg_topspec.proofs.ListLemmas.{from_counting, from_each}
use Rattle.cg_topspec.proofs.NetNames.{LinkNamed, alert_named, clock_named, interrupt_named, own_named, pin_input_named, pin_output_named, reset_named}
use Rattle.cg_topspec.proofs.NoClash.{its_node}
use Rattle.cg_topspec.proofs.Nodes.{node_of_all}
use Rattle.cg_topspec.proofs.PartNames.{input_valid, interrupt_valid, output_valid, short_each}
use Rattle.cg_topspec.proofs.PrintedBits.{bits_printable, given_good, vector_good}
use Rattle.cg_topspec.proofs.PrintedInstances.{crossbar_printable, instance_printable}
use Rattle.cg_topspec.proofs.ReadBits.{IsBit, IsGiven, IsVectorIn, alert_is_bit, interrupt_is_bit, nought, output_is_bit, pad_is_bit, source_is_bit}
use Rattle.cg_topspec.specs.Fits.{FitsTop}
use Rattle.cg_topspec.specs.Nets.{Pin, alert_bit, alert_net, clock_net, input_pins, interrupt_bit, interrupt_net, output_pins, own_link, pin_output_bit, pin_output_net, reset_net}
use Rattle.cg_topspec.specs.Top.{NodeId, block_of, counting, crossbar_numbers, end_of, instance_numbers, instance_of, is_host, ordered, ordered_in}
use Rattle.cg_topspec.specs.TopModule.{alert_wires, clock_ports, crossbar_entry, end_ports, end_wires, instance_entry, instance_wires, interrupt_wires, node_ports, node_wires, number_ports, pad_driver, pad_outputs, pin_input_wire, pin_input_wires, pin_output_wires, pin_ports, pin_source, port_bit, reset_ports, top_assigns, top_entries, top_instances, top_module, top_nets, top_ports, vector_assign, vector_port}
use Rattle.cg_topspec.specs.WellFormed.{HasFewBits, TopModuleIsPrintable}

short_width : (w : ℕ) → 0 < w → w ≤ 65536 → IsWidth w
short_width w some few = (some, omega (arith, few))

-- a port with a bit for each of these, by a name that is written out
vector_printable : {A : Type 0} (port : ℕ → List ℕ → Port) → ((w : ℕ) (n : List ℕ) → IsWidth w → IsName n → IsPrintablePort (port w n)) → (name : List ℕ)
    → IsName name → (xs : List A) → length xs ≤ 65536
    → AllOf IsPrintablePort (vector_port port name xs)
vector_printable port good name named [] few = tt
vector_printable port good name named (x ∷ xs) few = (good (length (x ∷ xs)) name (short_width (length (x ∷ xs)) (omega arith) few) named, tt)

input_good : (w : ℕ) (n : List ℕ) → IsWidth w → IsName n → IsPrintablePort (input_port w n)
input_good w n wide named = (wide, named)

output_good : (w : ℕ) (n : List ℕ) → IsWidth w → IsName n → IsPrintablePort (output_port w n)
output_good w n wide named = (wide, named)

link_ports_printable : (host : Bool) (l : Link) (e : NodeEnd) → LinkNamed l → AllOf IsPrintablePort (end_ports host l e)
link_ports_printable true l Outside named = ((request_width, named.request), ((response_width, named.response), tt))
link_ports_printable false l Outside named = ((request_width, named.request), ((response_width, named.response), tt))
link_ports_printable true l (Xbar x) named = tt
link_ports_printable false l (Xbar x) named = tt
link_ports_printable true l (Face i f) named = tt
link_ports_printable false l (Face i f) named = tt
link_ports_printable true l (Host i f) named = tt
link_ports_printable false l (Host i f) named = tt

link_wires_printable : (host : Bool) (l : Link) (e : NodeEnd) → LinkNamed l → AllOf IsPrintableEntry (end_wires host l e)
link_wires_printable true l Outside named = tt
link_wires_printable false l Outside named = tt
link_wires_printable true l (Xbar x) named = tt
link_wires_printable false l (Xbar x) named = ((request_width, named.request), ((response_width, named.response), tt))
link_wires_printable true l (Face i f) named = ((request_width, named.request), ((response_width, named.response), tt))
link_wires_printable false l (Face i f) named = ((request_width, named.request), ((response_width, named.response), tt))
link_wires_printable true l (Host i f) named = ((request_width, named.request), ((response_width, named.response), tt))
link_wires_printable false l (Host i f) named = ((request_width, named.request), ((response_width, named.response), tt))

-- a node among those in the order of the text is a node
pub from_ordered : (m : MergedTop) (n : NodeId) → Among n (ordered m) → IsNode m n
from_ordered m n a =
    let from = from_each (ordered_in m) (crossbar_numbers m) n a in
    node_of_all m from.0 n (its_node m from.0 n from.2)

module _ (m : MergedTop) (numbers : IrqMap) (ties : List Tie) (pins : PinMap) (fits : FitsTop m numbers ties pins) (few : HasFewBits numbers pins) where
  merged : IsMerged m
  merged = fits.merged

  -- ---- ports

  ports_printable : AllOf IsPrintablePort (top_ports m numbers pins)
  ports_printable =
      all_join IsPrintablePort (clock_ports m) _ (each_mapped IsPrintablePort (λ s. input_port 1 (clock_net s)) m.top.sources
      (λ s a. (bit_width, clock_named m merged s a)))
      (all_join IsPrintablePort (reset_ports m) _ (each_mapped IsPrintablePort (λ r. input_port 1 (reset_net r)) m.top.resets
      (λ r a. (bit_width, reset_named m merged r a)))
      (all_join IsPrintablePort (flat_map (node_ports m) (ordered m)) _
      (each_flat IsPrintablePort (node_ports m) (ordered m)
      (λ n a. link_ports_printable (is_host m n) (own_link m n) (end_of m n) (own_named m merged n (from_ordered m n a))))
      (all_join IsPrintablePort (number_ports numbers) (pin_ports m pins) number_ports_printable pin_ports_printable))) where
        number_ports_printable : AllOf IsPrintablePort (number_ports numbers)
        number_ports_printable = (
          (short_width (suc (length numbers.intr)) (omega arith) (omega (arith, few.interrupts)), literal_name (codes "intr_src") refl refl),
          vector_printable output_port output_good (codes "alert_src") (literal_name (codes "alert_src") refl refl) numbers.alert (omega (arith, few.alerts)),
        )

        pin_ports_printable : AllOf IsPrintablePort (pin_ports m pins)
        pin_ports_printable =
            all_join IsPrintablePort (vector_port input_port (codes "mio_in") pins.ins) _
            (vector_printable input_port input_good (codes "mio_in") (literal_name (codes "mio_in") refl refl) pins.ins few.inputs)
            (all_join IsPrintablePort (vector_port output_port (codes "mio_out") pins.outs) _
            (vector_printable output_port output_good (codes "mio_out") (literal_name (codes "mio_out") refl refl) pins.outs few.outputs)
            (all_join IsPrintablePort (vector_port input_port (codes "pad_in") m.top.pads) _
            (vector_printable input_port input_good (codes "pad_in") (literal_name (codes "pad_in") refl refl) m.top.pads (omega (arith, merged.top.few_pads)))
            (vector_printable output_port output_good (codes "pad_out") (literal_name (codes "pad_out") refl refl) m.top.pads
            (omega (arith, merged.top.few_pads)))))

  some_port : IsSomeOf (top_ports m numbers pins)
  some_port = some_back (clock_ports m) _ (some_back (reset_ports m) _ (some_back (flat_map (node_ports m) (ordered m)) _ tt))

  -- ---- wires

  pin_wire_printable : (i : ℕ) → i < length m.top.insts → (p : Pin) → Among p (input_pins (block_of m i)) → IsPrintableEntry (pin_input_wire m pins i p)
  pin_wire_printable i less p a =
      let valid = input_valid m merged i less p a in (
        short_width p.port.width valid.some_bit (omega (arith, valid.few_bits)),
        pin_input_named m merged i less p a,
        bits_printable (IsVectorIn m pins) (vector_good m merged pins few.inputs) (map source (counting 0 p.port.width))
            (some_mapped p.port.width valid.some_bit)
            (each_mapped (IsBit (IsVectorIn m pins)) source (counting 0 p.port.width) (λ k b. source_is_bit m numbers ties pins fits (port_bit i p.number k))),
      ) where
        source : ℕ → Expression
        source k = pin_source m pins (port_bit i p.number k)

        some_mapped : (w : ℕ) → 0 < w → IsSomeOf (map source (counting 0 w))
        some_mapped zero some = absurd (omega (arith, some))
        some_mapped (suc w) some = tt

  instance_wires_printable : (i : ℕ) → i < length m.top.insts → AllOf IsPrintableEntry (instance_wires m pins i)
  instance_wires_printable i less =
      all_join IsPrintableEntry (interrupt_wires m i) _
      (each_mapped IsPrintableEntry (λ x. wire x.width (interrupt_net (instance_of m i).name x)) (block_of m i).desc.intrs
      (λ x a. let valid = interrupt_valid m merged i less x a in
      (short_width x.width valid.some_bit (omega (arith, valid.few_bits)), interrupt_named m merged i less x a)))
      (all_join IsPrintableEntry (alert_wires m i) _
      (each_mapped IsPrintableEntry (λ x. wire 1 (alert_net (instance_of m i).name x)) (block_of m i).desc.alerts
      (λ x a. (bit_width, alert_named m merged i less x a)))
      (all_join IsPrintableEntry (pin_output_wires m i) (pin_input_wires m pins i)
      (each_mapped IsPrintableEntry (λ p. wire p.port.width (pin_output_net (instance_of m i).name p.port)) (output_pins (block_of m i))
      (λ p a. let valid = output_valid m merged i less p a in
      (short_width p.port.width valid.some_bit (omega (arith, valid.few_bits)), pin_output_named m merged i less p a)))
      (each_mapped IsPrintableEntry (pin_input_wire m pins i) (input_pins (block_of m i)) (pin_wire_printable i less))))

  -- ---- assigns

  assign_printable : (name : List ℕ) → IsName name → (xs : List Expression) → AllOf (IsBit (IsGiven m)) xs → AllOf IsPrintableEntry (vector_assign name xs)
  assign_printable name named [] all = tt
  assign_printable name named (x ∷ xs) all = ((named, bits_printable (IsGiven m) (given_good m merged) (x ∷ xs) tt all), tt)

  assigns_printable : AllOf IsPrintableEntry (top_assigns m numbers pins)
  assigns_printable =
      all_join IsPrintableEntry (vector_assign (codes "intr_src") (lit 1 0 ∷ map (interrupt_bit m) numbers.intr)) _
      (assign_printable (codes "intr_src") (literal_name (codes "intr_src") refl refl) (lit 1 0 ∷ map (interrupt_bit m) numbers.intr)
      (nought, each_mapped (IsBit (IsGiven m)) (interrupt_bit m) numbers.intr (interrupt_is_bit m numbers ties pins fits)))
      (all_join IsPrintableEntry (vector_assign (codes "alert_src") (map (alert_bit m) numbers.alert)) _
      (assign_printable (codes "alert_src") (literal_name (codes "alert_src") refl refl) (map (alert_bit m) numbers.alert)
      (each_mapped (IsBit (IsGiven m)) (alert_bit m) numbers.alert (alert_is_bit m numbers ties pins fits)))
      (all_join IsPrintableEntry (vector_assign (codes "mio_out") (map (pin_output_bit m) pins.outs)) _
      (assign_printable (codes "mio_out") (literal_name (codes "mio_out") refl refl) (map (pin_output_bit m) pins.outs)
      (each_mapped (IsBit (IsGiven m)) (pin_output_bit m) pins.outs (output_is_bit m numbers ties pins fits)))
      (assign_printable (codes "pad_out") (literal_name (codes "pad_out") refl refl) (pad_outputs m pins)
      (each_mapped (IsBit (IsGiven m)) (λ pad. pad_driver m pad pins.pads) (counting 0 (length m.top.pads))
      (λ pad a. pad_is_bit m numbers ties pins fits pad)))))

  -- ---- the whole

  pub entries_printable : AllOf IsPrintableEntry (top_entries m numbers ties pins)
  entries_printable =
      all_join IsPrintableEntry (top_nets m numbers pins) (top_instances m ties)
      (all_join IsPrintableEntry (flat_map (node_wires m) (ordered m)) _
      (each_flat IsPrintableEntry (node_wires m) (ordered m)
      (λ n a. link_wires_printable (is_host m n) (own_link m n) (end_of m n) (own_named m merged n (from_ordered m n a))))
      (all_join IsPrintableEntry (flat_map (instance_wires m pins) (instance_numbers m)) (top_assigns m numbers pins)
      (each_flat IsPrintableEntry (instance_wires m pins) (instance_numbers m)
      (λ i a. instance_wires_printable i (below (length m.top.insts) i a))) assigns_printable))
      (all_join IsPrintableEntry (map (instance_entry m ties) (instance_numbers m)) (map (crossbar_entry m ties) (crossbar_numbers m))
      (each_mapped IsPrintableEntry (instance_entry m ties) (instance_numbers m)
      (λ i a. instance_printable m merged ties fits.ties_are i (below (length m.top.insts) i a)))
      (each_mapped IsPrintableEntry (crossbar_entry m ties) (crossbar_numbers m)
      (λ x a. crossbar_printable m merged ties fits.ties_are x (below (length m.xbars) x a)))) where
        below : (n i : ℕ) → Among i (counting 0 n) → i < n
        below n i a = let range = from_counting 0 n i a in omega (arith, range.1)

  its_module : IsPrintable (top_module m numbers ties pins)
  unfolding top_module
  its_module = record {
    name = prefix_name (codes "top_") m.top.name refl refl (short_each m.top.name merged.top.name);
    some_port = some_port;
    ports = ports_printable;
    entries = entries_printable;
  }

pub top_module_is_printable : TopModuleIsPrintable
top_module_is_printable m numbers ties pins fits few = its_module m numbers ties pins fits few
