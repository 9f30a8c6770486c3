-- What the entries of a top's module declare and assign: each output that is no node's is assigned, and each plain wire is a link's or
-- an instance's.
use Rattle.std.proofs.Common.{Bool, List, [], arith, codes, false, flat_map, inl, inr, length, map, refl, subst, suc, sym, true, ℕ, ◌++◌, ◌+◌, ◌∷◌, ◌≡◌, ◌⊎◌}
use Rattle.cg_desc.specs.declared.block.AlertDesc.{AlertDesc}
use Rattle.cg_desc.specs.declared.block.IntrDesc.{IntrDesc}
use Rattle.cg_desc.specs.declared.top.NodeEnd.{NodeEnd}
use Rattle.cg_desc.specs.declared.top.NodeEnd.TheVariants.{Face, Host, Outside, Xbar}
use Rattle.cg_svspec.specs.Names.{Among}
use Rattle.cg_svspec.specs.Register.{input_port, output_port}
use Rattle.cg_svspec.specs.Tree.{Entry, Expression, lit, wire}
use Rattle.cg_topspec.proofs.Built.{Built, crossbar_entry, instance_entry, instance_wires, top_assigns, top_entries, top_nets, top_ports}
use Rattle.cg_topspec.proofs.Driving.{at}
use Rattle.cg_topspec.proofs.Entries.{nets_all}
use Rattle.cg_topspec.proofs.EntryCounts.{assigns, assigns_join, assigns_none, driven, driven_none, inputs_are_no_outputs, outputs, outputs_flat, outputs_join, plains, plains_flat, plains_join, plains_map, plains_none}
use Rattle.cg_topspec.proofs.ListLemmas.{from_map, in_parts}
use Rattle.cg_topspec.proofs.Totals.{total}
use Rattle.cg_topspec.specs.Nets.{Pin, alert_bit, alert_net, clock_net, input_pins, interrupt_bit, interrupt_net, output_pins, own_link, pin_output_bit, pin_output_net, reset_net}
use Rattle.cg_topspec.specs.Top.{NodeId, block_of, counting, crossbar_numbers, end_of, instance_numbers, instance_of, is_host, ordered}
use Rattle.cg_topspec.specs.TopModule.{alert_wires, clock_ports, end_wires, interrupt_wires, node_ports, node_wires, number_ports, pad_driver, pad_outputs, pin_input_wire, pin_input_wires, pin_output_wires, pin_ports, reset_ports, top_instances, vector_assign, vector_port}

-- ---- outputs and what is assigned to them

-- an output with a bit for each of these is assigned where it is there
vector_balance : {A : Type 0} (n name : List ℕ) (f : A → Expression) (xs : List A)
    → assigns n (vector_assign name (map f xs)) ≡ outputs n (vector_port output_port name xs)
vector_balance n name f [] = refl
vector_balance n name f (x ∷ xs) = refl

pads_balance : {A : Type 0} (n name : List ℕ) (f : ℕ → Expression) (xs : List A)
    → assigns n (vector_assign name (map f (counting 0 (length xs)))) ≡ outputs n (vector_port output_port name xs)
pads_balance n name f [] = refl
pads_balance n name f (x ∷ xs) = refl

inputs_silent : {A : Type 0} (n name : List ℕ) (xs : List A) → outputs n (vector_port input_port name xs) ≡ 0
inputs_silent n name [] = refl
inputs_silent n name (x ∷ xs) = refl

module _ (top : Built) (n : List ℕ) where
  assigned_outputs : assigns n (top_assigns top) ≡ outputs n (number_ports top.numbers ++ pin_ports top.merged top.pins)
  assigned_outputs =
      let first = vector_assign (codes "intr_src") (lit 1 0 ∷ map (interrupt_bit top.merged) top.numbers.intr) in
      let second = vector_assign (codes "alert_src") (map (alert_bit top.merged) top.numbers.alert) in
      let third = vector_assign (codes "mio_out") (map (pin_output_bit top.merged) top.pins.outs) in
      let fourth = vector_assign (codes "pad_out") (pad_outputs top.merged top.pins) in
      let ins = vector_port input_port (codes "mio_in") top.pins.ins in
      let outs = vector_port output_port (codes "mio_out") top.pins.outs in
      let pads_in = vector_port input_port (codes "pad_in") top.merged.top.pads in
      let pads_out = vector_port output_port (codes "pad_out") top.merged.top.pads in
      let sources = output_port (suc (length top.numbers.intr)) (codes "intr_src") ∷ [] in
      let alerts = vector_port output_port (codes "alert_src") top.numbers.alert in
      sums (assigns n first) (assigns_join n first (second ++ (third ++ fourth))) (assigns_join n second (third ++ fourth)) (assigns_join n third fourth)
      (outputs_join n (number_ports top.numbers) (pin_ports top.merged top.pins)) (outputs_join n sources alerts)
      (outputs_join n ins (outs ++ (pads_in ++ pads_out))) (outputs_join n outs (pads_in ++ pads_out))
      (outputs_join n pads_in pads_out)
      (vector_balance n (codes "alert_src") (alert_bit top.merged) top.numbers.alert)
      (vector_balance n (codes "mio_out") (pin_output_bit top.merged) top.pins.outs)
      (pads_balance n (codes "pad_out") (λ pad. pad_driver top.merged pad top.pins.pads) top.merged.top.pads) (inputs_silent n (codes "mio_in") top.pins.ins)
      (inputs_silent n (codes "pad_in") top.merged.top.pads)
    where
      sums : {whole bc b cd c d all front back alerts t e u f g h : ℕ} (s : ℕ) → whole ≡ s + bc → bc ≡ b + cd → cd ≡ c + d → all ≡ front + back
          → front ≡ s + alerts → back ≡ e + t → t ≡ f + u → u ≡ g + h
          → b ≡ alerts → c ≡ f → d ≡ h → e ≡ 0 → g ≡ 0 → whole ≡ all
      sums k p q r s t u v w x y z i j = omega arith

  pub outputs_of_top : outputs n (top_ports top) ≡ total (λ k. outputs n (node_ports top.merged k)) (ordered top.merged)
      + outputs n (number_ports top.numbers ++ pin_ports top.merged top.pins)
  outputs_of_top =
      let nodes = flat_map (node_ports top.merged) (ordered top.merged) in
      let last = number_ports top.numbers ++ pin_ports top.merged top.pins in
      sums (outputs n last) (outputs_join n (clock_ports top.merged) (reset_ports top.merged ++ (nodes ++ last)))
      (outputs_join n (reset_ports top.merged) (nodes ++ last)) (outputs_join n nodes last)
      (inputs_are_no_outputs n clock_net top.merged.top.sources) (inputs_are_no_outputs n reset_net top.merged.top.resets)
      (outputs_flat n (node_ports top.merged) (ordered top.merged))
    where
      sums : {whole c rest r more k t : ℕ} (l : ℕ) → whole ≡ c + rest → rest ≡ r + more → more ≡ k + l → c ≡ 0 → r ≡ 0 → k ≡ t → whole ≡ t + l
      sums l p q r s t u = omega arith

-- ---- entries that assign, declare or drive nothing

module _ (top : Built) (n : List ℕ) where
  pub nets_drive_none : (inputs : List (List ℕ)) → driven n inputs (top_nets top) ≡ 0
  nets_drive_none inputs =
      driven_none n inputs (top_nets top) (λ e a. nets_all (λ f. driven n inputs (f ∷ []) ≡ 0) (λ w k. refl) (λ w k x. refl) (λ k x. refl) top e a)

  assigns_plain_none : plains n (top_assigns top) ≡ 0
  assigns_plain_none =
      let first = vector_assign (codes "intr_src") (lit 1 0 ∷ map (interrupt_bit top.merged) top.numbers.intr) in
      let second = vector_assign (codes "alert_src") (map (alert_bit top.merged) top.numbers.alert) in
      let third = vector_assign (codes "mio_out") (map (pin_output_bit top.merged) top.pins.outs) in
      let fourth = vector_assign (codes "pad_out") (pad_outputs top.merged top.pins) in
      sums (plains_join n first (second ++ (third ++ fourth))) (plains_join n second (third ++ fourth)) (plains_join n third fourth)
      (silent (codes "intr_src") (lit 1 0 ∷ map (interrupt_bit top.merged) top.numbers.intr))
      (silent (codes "alert_src") (map (alert_bit top.merged) top.numbers.alert))
      (silent (codes "mio_out") (map (pin_output_bit top.merged) top.pins.outs)) (silent (codes "pad_out") (pad_outputs top.merged top.pins))
    where
      silent : (name : List ℕ) (xs : List Expression) → plains n (vector_assign name xs) ≡ 0
      silent name [] = refl
      silent name (x ∷ xs) = refl

      sums : {whole a bc b cd c d : ℕ} → whole ≡ a + bc → bc ≡ b + cd → cd ≡ c + d → a ≡ 0 → b ≡ 0 → c ≡ 0 → d ≡ 0 → whole ≡ 0
      sums p q r s t u v = omega arith

  instances_plain_none : plains n (top_instances top.merged top.ties) ≡ 0
  instances_plain_none =
      plains_none n (top_instances top.merged top.ties) (λ e a. each e
      (in_parts e (map (instance_entry top) (instance_numbers top.merged)) (map (crossbar_entry top) (crossbar_numbers top.merged)) a))
    where
      each : (e : Entry) → Among e (map (instance_entry top) (instance_numbers top.merged)) ⊎ Among e
          (map (crossbar_entry top) (crossbar_numbers top.merged)) → plains n (e ∷ []) ≡ 0
      each e (inl a) = let from = from_map (instance_entry top) (instance_numbers top.merged) e a in subst (λ f. plains n (f ∷ []) ≡ 0) (sym from.2) refl
      each e (inr a) = let from = from_map (crossbar_entry top) (crossbar_numbers top.merged) e a in subst (λ f. plains n (f ∷ []) ≡ 0) (sym from.2) refl

  instances_assign_none : assigns n (top_instances top.merged top.ties) ≡ 0
  instances_assign_none =
      assigns_none n (top_instances top.merged top.ties)
      (λ e a. each e (in_parts e (map (instance_entry top) (instance_numbers top.merged)) (map (crossbar_entry top) (crossbar_numbers top.merged)) a))
    where
      each : (e : Entry) → Among e (map (instance_entry top) (instance_numbers top.merged)) ⊎ Among e
          (map (crossbar_entry top) (crossbar_numbers top.merged)) → assigns n (e ∷ []) ≡ 0
      each e (inl a) = let from = from_map (instance_entry top) (instance_numbers top.merged) e a in subst (λ f. assigns n (f ∷ []) ≡ 0) (sym from.2) refl
      each e (inr a) = let from = from_map (crossbar_entry top) (crossbar_numbers top.merged) e a in subst (λ f. assigns n (f ∷ []) ≡ 0) (sym from.2) refl

  node_wires_assign_none : (k : NodeId) → assigns n (node_wires top.merged k) ≡ 0
  node_wires_assign_none k = by (is_host top.merged k) (end_of top.merged k) where
    by : (b : Bool) (e : NodeEnd) → assigns n (end_wires b (own_link top.merged k) e) ≡ 0
    by true (Face i f) = refl
    by true (Host i f) = refl
    by true (Xbar x) = refl
    by true Outside = refl
    by false (Face i f) = refl
    by false (Host i f) = refl
    by false (Xbar x) = refl
    by false Outside = refl

  -- the wires of an instance
  mapped_assign_none : {A : Type 0} (width : A → ℕ) (name : A → List ℕ) (xs : List A) → assigns n (map (λ x. wire (width x) (name x)) xs) ≡ 0
  mapped_assign_none width name [] = refl
  mapped_assign_none width name (x ∷ xs) = mapped_assign_none width name xs

  driven_pins_none : (i : ℕ) (ps : List Pin)
      → (assigns n (map (pin_input_wire top.merged top.pins i) ps) ≡ 0) × (plains n (map (pin_input_wire top.merged top.pins i) ps) ≡ 0)
  driven_pins_none i [] = (refl, refl)
  driven_pins_none i (p ∷ ps) = driven_pins_none i ps

  instance_wires_assign_none : (i : ℕ) → assigns n (instance_wires top i) ≡ 0
  instance_wires_assign_none i =
      sums (assigns_join n (interrupt_wires top.merged i)
      (alert_wires top.merged i ++ (pin_output_wires top.merged i ++ pin_input_wires top.merged top.pins i)))
      (assigns_join n (alert_wires top.merged i) (pin_output_wires top.merged i ++ pin_input_wires top.merged top.pins i))
      (assigns_join n (pin_output_wires top.merged i) (pin_input_wires top.merged top.pins i))
      (mapped_assign_none (λ (x : IntrDesc). x.width) (λ (x : IntrDesc). interrupt_net (instance_of top.merged i).name x) (block_of top.merged i).desc.intrs)
      (mapped_assign_none (λ (x : AlertDesc). 1) (λ (x : AlertDesc). alert_net (instance_of top.merged i).name x) (block_of top.merged i).desc.alerts)
      (mapped_assign_none (λ (p : Pin). p.port.width) (λ (p : Pin). pin_output_net (instance_of top.merged i).name p.port)
      (output_pins (block_of top.merged i)))
      (driven_pins_none i (input_pins (block_of top.merged i))).0
    where
      sums : {whole a bc b cd c d : ℕ} → whole ≡ a + bc → bc ≡ b + cd → cd ≡ c + d → a ≡ 0 → b ≡ 0 → c ≡ 0 → d ≡ 0 → whole ≡ 0
      sums p q r s t u v = omega arith

  flat_assign_none : {A : Type 0} (f : A → List Entry) (xs : List A) → ((x : A) → assigns n (f x) ≡ 0) → assigns n (flat_map f xs) ≡ 0
  flat_assign_none f [] zero_each = refl
  flat_assign_none f (x ∷ xs) zero_each = omega (arith, assigns_join n (f x) (flat_map f xs), zero_each x, flat_assign_none f xs zero_each)

  pub assigns_of_top : assigns n (top_entries top) ≡ outputs n (number_ports top.numbers ++ pin_ports top.merged top.pins)
  assigns_of_top =
      let nodes = flat_map (node_wires top.merged) (ordered top.merged) in
      let wires = flat_map (instance_wires top) (instance_numbers top.merged) in
      sums (assigns_join n (top_nets top) (top_instances top.merged top.ties)) (assigns_join n nodes (wires ++ top_assigns top))
      (assigns_join n wires (top_assigns top))
      instances_assign_none (flat_assign_none (node_wires top.merged) (ordered top.merged) node_wires_assign_none)
      (flat_assign_none (instance_wires top) (instance_numbers top.merged) instance_wires_assign_none) (assigned_outputs top n)
    where
      sums : {whole a i b rest c d e : ℕ} → whole ≡ a + i → a ≡ b + rest → rest ≡ c + d → i ≡ 0 → b ≡ 0 → c ≡ 0 → d ≡ e → whole ≡ e
      sums p q r s t u v = omega arith

  -- ---- plain wires

  pub instance_plains : (i : ℕ) → plains n (instance_wires top i)
      ≡ total (λ (x : IntrDesc). at n (interrupt_net (instance_of top.merged i).name x)) (block_of top.merged i).desc.intrs
      + (total (λ (x : AlertDesc). at n (alert_net (instance_of top.merged i).name x)) (block_of top.merged i).desc.alerts
      + total (λ (p : Pin). at n (pin_output_net (instance_of top.merged i).name p.port)) (output_pins (block_of top.merged i)))
  instance_plains i =
      sums (plains_join n (interrupt_wires top.merged i) (alert_wires top.merged i ++ (pin_output_wires top.merged i ++ pin_input_wires top.merged top.pins i)))
      (plains_join n (alert_wires top.merged i) (pin_output_wires top.merged i ++ pin_input_wires top.merged top.pins i))
      (plains_join n (pin_output_wires top.merged i) (pin_input_wires top.merged top.pins i))
      (plains_map n (λ (x : IntrDesc). x.width) (λ (x : IntrDesc). interrupt_net (instance_of top.merged i).name x) (block_of top.merged i).desc.intrs)
      (plains_map n (λ (x : AlertDesc). 1) (λ (x : AlertDesc). alert_net (instance_of top.merged i).name x) (block_of top.merged i).desc.alerts)
      (plains_map n (λ (p : Pin). p.port.width) (λ (p : Pin). pin_output_net (instance_of top.merged i).name p.port) (output_pins (block_of top.merged i)))
      (driven_pins_none i (input_pins (block_of top.merged i))).1
    where
      sums : {whole a bc b cd c d p q r : ℕ} → whole ≡ a + bc → bc ≡ b + cd → cd ≡ c + d → a ≡ p → b ≡ q → c ≡ r → d ≡ 0 → whole ≡ p + (q + r)
      sums e f g h i j k = omega arith

  pub plains_of_top : plains n (top_entries top) ≡ total (λ k. plains n (node_wires top.merged k)) (ordered top.merged)
      + total (λ i. plains n (instance_wires top i)) (instance_numbers top.merged)
  plains_of_top =
      let nodes = flat_map (node_wires top.merged) (ordered top.merged) in
      let wires = flat_map (instance_wires top) (instance_numbers top.merged) in
      sums (plains_join n (top_nets top) (top_instances top.merged top.ties)) (plains_join n nodes (wires ++ top_assigns top))
      (plains_join n wires (top_assigns top)) instances_plain_none assigns_plain_none
      (plains_flat n (node_wires top.merged) (ordered top.merged)) (plains_flat n (instance_wires top) (instance_numbers top.merged))
    where
      sums : {whole a i b rest c d p q : ℕ} → whole ≡ a + i → a ≡ b + rest → rest ≡ c + d → i ≡ 0 → d ≡ 0 → b ≡ p → c ≡ q → whole ≡ p + q
      sums e f g h i j k = omega arith
