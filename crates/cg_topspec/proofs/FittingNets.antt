-- The wires and assignments of a top's module fit: each net that is used is declared and known above, and widths agree.
use Rattle.std.proofs.Common.{Bool, List, [], ap, arith, codes, false, flat_map, inl, inr, length, map, refl, subst, suc, sym, true, ℕ, ◌++◌, ◌<◌, ◌∙◌, ◌∷◌, ◌≡◌, ◌≤◌}
use Rattle.std.proofs.lemmas.List.{length-map}
use Rattle.cg_busspec.proofs.WellLinks.{port_in_nets}
use Rattle.cg_desc.specs.Merged.{IsMerged}
use Rattle.cg_desc.specs.declared.block.AlertDesc.{AlertDesc}
use Rattle.cg_desc.specs.declared.block.IntrDesc.{IntrDesc}
use Rattle.cg_desc.specs.declared.top.NodeEnd.{NodeEnd}
use Rattle.cg_desc.specs.declared.top.NodeEnd.TheVariants.{Face, Host, Outside, Xbar}
use Rattle.cg_svspec.specs.Names.{Among}
use Rattle.cg_svspec.specs.Printable.{AllOf}
use Rattle.cg_svspec.specs.Register.{input_port, output_port}
use Rattle.cg_svspec.specs.Tree.{Expression, Port, lit}
use Rattle.cg_svspec.specs.WellFormed.{Declares, HasWidth}
use Rattle.cg_topspec.proofs.Arrivals.{counting_length}
use Rattle.cg_topspec.proofs.Built.{Built, instance_wires, top_assigns, top_inputs, top_ports}
use Rattle.cg_topspec.proofs.EachItem.{each_mapped}
use Rattle.cg_topspec.proofs.Fitting.{Fits, bits_fit, fits_flat, fits_join, fits_map, usable_up, vector_fits, wires_fit}
use Rattle.cg_topspec.proofs.ListLemmas.{from_counting, in_back, in_front}
use Rattle.cg_topspec.proofs.PartNames.{input_valid}
use Rattle.cg_topspec.proofs.ReadBits.{IsBit, IsGiven, IsVectorIn, alert_is_bit, interrupt_is_bit, nought, output_is_bit, pad_is_bit, source_is_bit}
use Rattle.cg_topspec.proofs.Usable.{IsGood, above_all, behind_wires, top_wires, up_wires}
use Rattle.cg_topspec.proofs.UsableNets.{given_usable, pin_port_there, vector_usable}
use Rattle.cg_topspec.specs.Nets.{Pin, alert_bit, alert_net, input_pins, interrupt_bit, interrupt_net, output_pins, own_link, pin_output_bit, pin_output_net}
use Rattle.cg_topspec.specs.Top.{NodeId, block_of, counting, end_of, instance_numbers, instance_of, is_host, ordered}
use Rattle.cg_topspec.specs.TopModule.{alert_wires, bits_of, clock_ports, end_wires, interrupt_wires, node_ports, node_wires, number_ports, pad_driver, pad_outputs, pin_input_wire, pin_input_wires, pin_output_wires, pin_source, port_bit, reset_ports, vector_assign, vector_port}

module _ (top : Built) (good : IsGood top) where
  merged : IsMerged top.merged
  merged = good.fits.merged

  -- ---- wires

  node_wires_fit : (k : NodeId) → Fits (top_inputs top) (above_all top) (node_wires top.merged k)
  node_wires_fit k = by (is_host top.merged k) (end_of top.merged k) where
    by : (b : Bool) (e : NodeEnd) → Fits (top_inputs top) (above_all top) (end_wires b (own_link top.merged k) e)
    by true (Face i f) = λ e up. tt
    by true (Host i f) = λ e up. tt
    by true (Xbar x) = λ e up. tt
    by true Outside = λ e up. tt
    by false (Face i f) = λ e up. tt
    by false (Host i f) = λ e up. tt
    by false (Xbar x) = λ e up. tt
    by false Outside = λ e up. tt

  pin_wire_fits : (i : ℕ) → i < length top.merged.top.insts → (p : Pin) → Among p (input_pins (block_of top.merged i))
      → Fits (top_inputs top) (above_all top) (pin_input_wire top.merged top.pins i p ∷ [])
  pin_wire_fits i less p a e up =
      let source : ℕ → Expression = λ k. pin_source top.merged top.pins (port_bit i p.number k) in
      let bits = map source (counting 0 p.port.width) in
      let long : length bits ≡ p.port.width = length-map (counting 0 p.port.width) source ∙ counting_length 0 p.port.width in
      let valid = input_valid top.merged merged i less p a in
      let h = bits_fit (IsVectorIn top.merged top.pins) e (λ n w is. usable_up n w up (vector_usable top good n w is)) bits
      (omega (arith, long, valid.few_bits))
      (each_mapped (IsBit (IsVectorIn top.merged top.pins)) source (counting 0 p.port.width)
      (λ k b. source_is_bit top.merged top.numbers top.ties top.pins good.fits (port_bit i p.number k))) in
      (subst (HasWidth e.nets (bits_of bits)) long h.0, h.1, tt)

  instance_wires_fit : (i : ℕ) → i < length top.merged.top.insts → Fits (top_inputs top) (above_all top) (instance_wires top i)
  instance_wires_fit i less =
      let b = above_all top in
      let name = (instance_of top.merged i).name in
      let inputs = top_inputs top in
      fits_join inputs b (interrupt_wires top.merged i) (alert_wires top.merged i ++ (pin_output_wires top.merged i ++ pin_input_wires top.merged top.pins i))
      (wires_fit inputs b (λ (x : IntrDesc). x.width) (interrupt_net name) (block_of top.merged i).desc.intrs)
      (fits_join inputs b (alert_wires top.merged i) (pin_output_wires top.merged i ++ pin_input_wires top.merged top.pins i)
      (wires_fit inputs b (λ (x : AlertDesc). 1) (alert_net name) (block_of top.merged i).desc.alerts)
      (fits_join inputs b (pin_output_wires top.merged i) (pin_input_wires top.merged top.pins i)
      (wires_fit inputs b (λ (p : Pin). p.port.width) (λ (p : Pin). pin_output_net name p.port) (output_pins (block_of top.merged i)))
      (fits_map inputs b (pin_input_wire top.merged top.pins i) (input_pins (block_of top.merged i)) (pin_wire_fits i less))))

  pub below : (n i : ℕ) → Among i (counting 0 n) → i < n
  below n i a = let range = from_counting 0 n i a in omega (arith, range.1)

  pub wires_of_top_fit : Fits (top_inputs top) (above_all top) (top_wires top)
  wires_of_top_fit =
      fits_join (top_inputs top) (above_all top) (flat_map (node_wires top.merged) (ordered top.merged))
      (flat_map (instance_wires top) (instance_numbers top.merged))
      (fits_flat (top_inputs top) (above_all top) (node_wires top.merged) (ordered top.merged) (λ k a. node_wires_fit k))
      (fits_flat (top_inputs top) (above_all top) (instance_wires top) (instance_numbers top.merged)
      (λ i a. instance_wires_fit i (below (length top.merged.top.insts) i a)))

  -- ---- assigns

  port_declared : (p : Port) → Among p (top_ports top) → Declares (behind_wires top).nets p.name p.width
  port_declared p a = (up_wires top good).nets p.name p.width (port_in_nets p (top_ports top) a)

  number_port_there : (p : Port) → Among p (number_ports top.numbers) → Among p (top_ports top)
  number_port_there p a =
      in_back p (clock_ports top.merged) _ (in_back p (reset_ports top.merged) _
      (in_back p (flat_map (node_ports top.merged) (ordered top.merged)) _ (in_front p (number_ports top.numbers) _ a)))

  -- an output with a bit for each of these is declared where there are any
  output_declared : {A : Type 0} (name : List ℕ) (xs : List A) (width : ℕ) → width ≡ length xs
      → ((p : Port) → Among p (vector_port output_port name xs) → Among p (top_ports top)) → 0 < width
      → Declares (behind_wires top).nets name width
  output_declared name [] width same there some = absurd (omega (arith, same, some))
  output_declared name (x ∷ xs) width same there some =
      subst (Declares (behind_wires top).nets name) (sym same)
      (port_declared (output_port (length (x ∷ xs)) name) (there (output_port (length (x ∷ xs)) name) (inl refl)))

  one_vector_fits : (name : List ℕ) (xs : List Expression) → length xs ≤ 65537 → (0 < length xs → Declares (behind_wires top).nets name (length xs))
      → AllOf (IsBit (IsGiven top.merged)) xs
      → Fits (top_inputs top) (behind_wires top) (vector_assign name xs)
  one_vector_fits name xs few target all = vector_fits (top_inputs top) (behind_wires top) (IsGiven top.merged) (given_usable top good) name xs few target all

  interrupts_fit : Fits (top_inputs top) (behind_wires top) (vector_assign (codes "intr_src") (lit 1 0 ∷ map (interrupt_bit top.merged) top.numbers.intr))
  interrupts_fit =
      let bits = lit 1 0 ∷ map (interrupt_bit top.merged) top.numbers.intr in
      let long : length bits ≡ suc (length top.numbers.intr) = ap suc (length-map top.numbers.intr (interrupt_bit top.merged)) in
      one_vector_fits (codes "intr_src") bits (omega (arith, long, good.few.interrupts))
      (λ some. subst (Declares (behind_wires top).nets (codes "intr_src")) (sym long)
      (port_declared (output_port (suc (length top.numbers.intr)) (codes "intr_src")) (number_port_there _ (inl refl)))) (
        nought,
        each_mapped (IsBit (IsGiven top.merged)) (interrupt_bit top.merged) top.numbers.intr
            (interrupt_is_bit top.merged top.numbers top.ties top.pins good.fits),
      )

  alerts_fit : Fits (top_inputs top) (behind_wires top) (vector_assign (codes "alert_src") (map (alert_bit top.merged) top.numbers.alert))
  alerts_fit =
      let bits = map (alert_bit top.merged) top.numbers.alert in
      let long : length bits ≡ length top.numbers.alert = length-map top.numbers.alert (alert_bit top.merged) in
      one_vector_fits (codes "alert_src") bits (omega (arith, long, good.few.alerts))
      (output_declared (codes "alert_src") top.numbers.alert (length bits) long (λ p a. number_port_there p (inr a)))
      (each_mapped (IsBit (IsGiven top.merged)) (alert_bit top.merged) top.numbers.alert (alert_is_bit top.merged top.numbers top.ties top.pins good.fits))

  outs_fit : Fits (top_inputs top) (behind_wires top) (vector_assign (codes "mio_out") (map (pin_output_bit top.merged) top.pins.outs))
  outs_fit =
      let bits = map (pin_output_bit top.merged) top.pins.outs in
      let long : length bits ≡ length top.pins.outs = length-map top.pins.outs (pin_output_bit top.merged) in
      one_vector_fits (codes "mio_out") bits (omega (arith, long, good.few.outputs))
      (output_declared (codes "mio_out") top.pins.outs (length bits) long
      (λ p a. pin_port_there top good p (in_back p (vector_port input_port (codes "mio_in") top.pins.ins) _
      (in_front p (vector_port output_port (codes "mio_out") top.pins.outs) _ a))))
      (each_mapped (IsBit (IsGiven top.merged)) (pin_output_bit top.merged) top.pins.outs (output_is_bit top.merged top.numbers top.ties top.pins good.fits))

  pads_fit : Fits (top_inputs top) (behind_wires top) (vector_assign (codes "pad_out") (pad_outputs top.merged top.pins))
  pads_fit =
      let bits = pad_outputs top.merged top.pins in
      let long : length bits ≡ length top.merged.top.pads =
      length-map (counting 0 (length top.merged.top.pads)) (λ pad. pad_driver top.merged pad top.pins.pads) ∙ counting_length 0 (length top.merged.top.pads) in
      one_vector_fits (codes "pad_out") bits (omega (arith, long, merged.top.few_pads))
      (output_declared (codes "pad_out") top.merged.top.pads (length bits) long
      (λ p a. pin_port_there top good p (in_back p (vector_port input_port (codes "mio_in") top.pins.ins) _
      (in_back p (vector_port output_port (codes "mio_out") top.pins.outs) _
      (in_back p (vector_port input_port (codes "pad_in") top.merged.top.pads) _ a)))))
      (each_mapped (IsBit (IsGiven top.merged)) (λ pad. pad_driver top.merged pad top.pins.pads) (counting 0 (length top.merged.top.pads))
      (λ pad a. pad_is_bit top.merged top.numbers top.ties top.pins good.fits pad))

  pub assigns_fit : Fits (top_inputs top) (behind_wires top) (top_assigns top)
  assigns_fit =
      let inputs = top_inputs top in
      let b = behind_wires top in
      let alerts = vector_assign (codes "alert_src") (map (alert_bit top.merged) top.numbers.alert) in
      let outs = vector_assign (codes "mio_out") (map (pin_output_bit top.merged) top.pins.outs) in
      let pads = vector_assign (codes "pad_out") (pad_outputs top.merged top.pins) in
      fits_join inputs b (vector_assign (codes "intr_src") (lit 1 0 ∷ map (interrupt_bit top.merged) top.numbers.intr))
      (alerts ++ (outs ++ pads)) interrupts_fit
      (fits_join inputs b alerts (outs ++ pads) alerts_fit (fits_join inputs b outs pads outs_fit pads_fit))
