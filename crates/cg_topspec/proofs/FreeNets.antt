-- Nets that are wires or outputs of a top's module are no inputs.
use Rattle.std.proofs.Common.{Bool, List, [], arith, cond, false, flat_map, inl, inr, length, refl, subst, true, ℕ, ◌<◌, ◌∷◌, ◌≡◌}
use Rattle.cg_desc.specs.Reach.{IsPlain}
use Rattle.cg_desc.specs.declared.top.NodeEnd.{NodeEnd}
use Rattle.cg_desc.specs.declared.top.NodeEnd.TheVariants.{Face, Host, Outside, Xbar}
use Rattle.cg_svspec.proofs.NamesLemmas.{among_by_test, differ_front}
use Rattle.cg_svspec.specs.Names.{Among, Differ, entry_names, is_among, port_names}
use Rattle.cg_svspec.specs.Register.{output_port}
use Rattle.cg_svspec.specs.Tree.{Entry, Port, assign, drive, inst, wire}
use Rattle.cg_svspec.specs.WellFormed.{inputs_of, outputs_of}
use Rattle.cg_topspec.proofs.Arrivals.{output_is_port, output_there}
use Rattle.cg_topspec.proofs.Built.{Built, IsDevice, IsHost, IsNode, instance_wires, top_entries, top_inputs, top_nets, top_ports}
use Rattle.cg_topspec.proofs.ListLemmas.{in_back, in_counting, in_each, in_front}
use Rattle.cg_topspec.proofs.Nets.{NamesDiffer, among_entries, port_or_wire}
use Rattle.cg_topspec.proofs.TopNets.{node_port_there}
use Rattle.cg_topspec.proofs.TopStart.{input_is_port}
use Rattle.cg_topspec.specs.Nets.{own_link}
use Rattle.cg_topspec.specs.Top.{NodeId, end_of, instance_numbers, is_host, ordered}
use Rattle.cg_topspec.specs.TopModule.{end_ports, end_wires, node_wires}

not_among : (names : List (List ℕ)) (n : List ℕ) → (Among n names → ⊥) → is_among names n ≡ false
not_among names n missing = by (is_among names n) refl where
  by : (b : Bool) → is_among names n ≡ b → b ≡ false
  by true e = absurd (missing (among_by_test names n e))
  by false e = refl

-- no port is an input and an output
input_or_output : (ps : List Port) (n : List ℕ) → Differ (port_names ps) → Among n (inputs_of ps) → Among n (outputs_of ps) → ⊥
input_or_output [] n d a b = a
input_or_output (p ∷ ps) n d a b = by p.input (input_or_output ps n d.1) a b where
  here : n ≡ p.name → Among n (port_names ps) → ⊥
  here e c = d.0 (subst (λ k. Among k (port_names ps)) e c)

  by : (t : Bool) → (Among n (inputs_of ps) → Among n (outputs_of ps) → ⊥) → Among n (cond t (p.name ∷ inputs_of ps) (inputs_of ps))
      → Among n (cond t (outputs_of ps) (p.name ∷ outputs_of ps)) → ⊥
  by true again (inl e) b = here e (output_is_port ps n b)
  by true again (inr a) b = again a b
  by false again a (inl e) = here e (input_is_port ps n a)
  by false again a (inr b) = again a b

module _ (top : Built) (names : NamesDiffer top) where
  abbrev pub IsFree : List ℕ → Type 0
  IsFree name = is_among (top_inputs top) name ≡ false

  pub wire_free : (name : List ℕ) → Among name (entry_names (top_entries top)) → IsFree name
  wire_free name a = not_among (top_inputs top) name (λ b. port_or_wire top names name (input_is_port (top_ports top) name b) a)

  pub output_free : (p : Port) → Among p (top_ports top) → p.input ≡ false → IsFree p.name
  output_free p a e =
      not_among (top_inputs top) p.name
      (λ b. input_or_output (top_ports top) p.name (differ_front (port_names (top_ports top)) (entry_names (top_entries top)) names) b
      (output_there (top_ports top) p a e))

  -- ---- nets of links

  -- a net of a node's wires
  node_wire_free : (k : NodeId) (name : List ℕ) → IsNode top.merged k
      → Among name (entry_names (end_wires (is_host top.merged k) (own_link top.merged k) (end_of top.merged k))) → IsFree name
  node_wire_free k name there a = wire_free name (among_entries top k name there a)

  node_port_free : (k : NodeId) (p : Port) → IsNode top.merged k → Among p (end_ports (is_host top.merged k) (own_link top.merged k) (end_of top.merged k))
      → p.input ≡ false → IsFree p.name
  node_port_free k p there a e = output_free p (node_port_there top k there p a) e

  pub host_response_free : (k : NodeId) → IsHost top.merged k → IsPlain (end_of top.merged k) → IsFree (own_link top.merged k).response
  host_response_free k host plain = by (end_of top.merged k) refl plain where
    wired : Among (own_link top.merged k).response (entry_names (end_wires (is_host top.merged k) (own_link top.merged k) (end_of top.merged k)))
        → IsFree (own_link top.merged k).response
    wired a = node_wire_free k (own_link top.merged k).response host.0 a

    by : (e : NodeEnd) → end_of top.merged k ≡ e → IsPlain e → IsFree (own_link top.merged k).response
    by (Face i f) e p = wired (rw (host.1, e) (inr (inl refl)))
    by (Host i f) e p = wired (rw (host.1, e) (inr (inl refl)))
    by (Xbar x) e p = absurd p
    by Outside e p = node_port_free k (output_port 33 (own_link top.merged k).response) host.0 (rw (host.1, e) (inr (inl refl))) refl

  pub host_request_free : (k : NodeId) (i f : ℕ) → IsHost top.merged k → end_of top.merged k ≡ Host i f → IsFree (own_link top.merged k).request
  host_request_free k i f host e = node_wire_free k (own_link top.merged k).request host.0 (rw (host.1, e) (inl refl))

  pub device_request_free : (k : NodeId) → IsDevice top.merged k → IsFree (own_link top.merged k).request
  device_request_free k device = by (end_of top.merged k) refl where
    wired : Among (own_link top.merged k).request (entry_names (end_wires (is_host top.merged k) (own_link top.merged k) (end_of top.merged k)))
        → IsFree (own_link top.merged k).request
    wired a = node_wire_free k (own_link top.merged k).request device.0 a

    by : (e : NodeEnd) → end_of top.merged k ≡ e → IsFree (own_link top.merged k).request
    by (Face i f) e = wired (rw (device.1, e) (inl refl))
    by (Host i f) e = wired (rw (device.1, e) (inl refl))
    by (Xbar x) e = wired (rw (device.1, e) (inl refl))
    by Outside e = node_port_free k (output_port 70 (own_link top.merged k).request) device.0 (rw (device.1, e) (inl refl)) refl

  pub device_response_free : (k : NodeId) → IsDevice top.merged k → (end_of top.merged k ≡ Outside → ⊥) → IsFree (own_link top.merged k).response
  device_response_free k device other = by (end_of top.merged k) refl where
    wired : Among (own_link top.merged k).response (entry_names (end_wires (is_host top.merged k) (own_link top.merged k) (end_of top.merged k)))
        → IsFree (own_link top.merged k).response
    wired a = node_wire_free k (own_link top.merged k).response device.0 a

    by : (e : NodeEnd) → end_of top.merged k ≡ e → IsFree (own_link top.merged k).response
    by (Face i f) e = wired (rw (device.1, e) (inr (inl refl)))
    by (Host i f) e = wired (rw (device.1, e) (inr (inl refl)))
    by (Xbar x) e = wired (rw (device.1, e) (inr (inl refl)))
    by Outside e = absurd (other e)

  -- ---- nets of instances

  -- a wire of an instance is a wire of the module
  pub instance_wire_free : (i w : ℕ) (name : List ℕ) → i < length top.merged.top.insts → Among (wire w name) (instance_wires top i) → IsFree name
  instance_wire_free i w name less a =
      wire_free name
      (wire_name w name (top_entries top)
      (in_front (wire w name) (top_nets top) _ (in_back (wire w name) (flat_map (node_wires top.merged) (ordered top.merged)) _
      (in_front (wire w name) (flat_map (instance_wires top) (instance_numbers top.merged)) _
      (in_each (instance_wires top) (instance_numbers top.merged) i (wire w name)
      (in_counting 0 (length top.merged.top.insts) i (omega arith) (omega (arith, less))) a)))))
    where
      wire_name : (w : ℕ) (n : List ℕ) (es : List Entry) → Among (wire w n) es → Among n (entry_names es)
      wire_name w n [] a = absurd a
      wire_name w n (wire v k ∷ es) (inl e) = let same : n ≡ k = cc in inl same
      wire_name w n (wire v k ∷ es) (inr a) = inr (wire_name w n es a)
      wire_name w n (drive v k x ∷ es) (inl e) = absurd cc
      wire_name w n (drive v k x ∷ es) (inr a) = inr (wire_name w n es a)
      wire_name w n (assign k x ∷ es) (inl e) = absurd cc
      wire_name w n (assign k x ∷ es) (inr a) = wire_name w n es a
      wire_name w n (inst p ps k cs ∷ es) (inl e) = absurd cc
      wire_name w n (inst p ps k cs ∷ es) (inr a) = inr (wire_name w n es a)
