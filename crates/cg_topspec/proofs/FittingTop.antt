-- The entries of a top's module fit: each net that is used is declared and known above, and widths agree.
use Rattle.std.proofs.Common.{List, None, Option, Some, [], ap, append_assoc, codes, filter, flat_map, length, map, refl, subst, suc, sym, ℕ, ◌++◌, ◌<◌, ◌∙◌, ◌∷◌, ◌≡◌}
use Rattle.cg_clkrst.specs.declared.tie.Tie.{Tie}
use Rattle.cg_desc.specs.Reach.{IsPlain}
use Rattle.cg_desc.specs.declared.block.HostFace.{HostFace}
use Rattle.cg_desc.specs.declared.block.LaidFace.{LaidFace}
use Rattle.cg_svspec.proofs.Parts.{all_join}
use Rattle.cg_svspec.specs.Links.{Link}
use Rattle.cg_svspec.specs.Printable.{AllOf}
use Rattle.cg_svspec.specs.Walk.{response_name}
use Rattle.cg_svspec.specs.WellFormed.{EntriesFit}
use Rattle.cg_topspec.proofs.ApartNames.{clock_only, is_listed_gives}
use Rattle.cg_topspec.proofs.Built.{Built, crossbar_connections, crossbar_entry, instance_connections, instance_entry, instance_wires, top_assigns, top_entries, top_inputs}
use Rattle.cg_topspec.proofs.EachItem.{each_flat, each_mapped}
use Rattle.cg_topspec.proofs.Fitting.{Fits, IsUsable, IsWired, fits_behind, fits_join, fits_map, instance_fits, wired}
use Rattle.cg_topspec.proofs.FittingNets.{assigns_fit, below, wires_of_top_fit}
use Rattle.cg_topspec.proofs.Nets.{from_those}
use Rattle.cg_topspec.proofs.NoClash.{its_node, source_of}
use Rattle.cg_topspec.proofs.Nodes.{node_of_all}
use Rattle.cg_topspec.proofs.TopConnections.{device_node_is, host_node_is}
use Rattle.cg_topspec.proofs.Usable.{IsGood, LinkUsable, above_all, behind_wires, device_usable, host_usable, link_usable, top_wires}
use Rattle.cg_topspec.proofs.UsableNets.{alert_usable, interrupt_usable, output_usable, pin_input_usable, source_usable}
use Rattle.cg_topspec.specs.Nets.{alert_net, clock_net, input_pins, interrupt_net, link_of, output_pins, own_link, pin_input_net, pin_output_net}
use Rattle.cg_topspec.specs.Top.{NodeId, block_of, crossbar_numbers, crossbar_of, device_node, host_node, instance_numbers, instance_of, ordered, ordered_in}
use Rattle.cg_topspec.specs.TopModule.{address_width, alert_connection, crossbar_clock, crossbar_module_name, crossbar_ties, face_connections, face_request, host_connections, host_face_request, host_face_response, instance_ties, interrupt_connection, is_instance, is_listed, joined_at, link_connections, net_connections, node_connections, node_wires, pin_input_connection, pin_output_connection, port_link, source_net, tie_connection, top_instances}
use Rattle.cg_clkrst.specs.Ties.{port_of as tie_port}

module _ (top : Built) (good : IsGood top) where
  -- ---- instances

  link_wired : (request response : List ℕ) (l : Link) → LinkUsable top good l → AllOf (IsWired (behind_wires top)) (link_connections request response l)
  link_wired request response l h = (wired (behind_wires top) request l.request 70 h.request, (wired (behind_wires top) response l.response 33 h.response, tt))

  joined_wired : (request response : List ℕ) (o : Option NodeId) → ((k : NodeId) → o ≡ Some k → LinkUsable top good (own_link top.merged k))
      → AllOf (IsWired (behind_wires top)) (joined_at top.merged request response o)
  joined_wired request response None h = tt
  joined_wired request response (Some k) h = link_wired request response (own_link top.merged k) (h k refl)

  faces_wired : (i f : ℕ) (faces : List LaidFace) → AllOf (IsWired (behind_wires top)) (face_connections top.merged i f faces)
  faces_wired i f [] = tt
  faces_wired i f (face ∷ faces) =
      all_join (IsWired (behind_wires top)) (joined_at top.merged (face_request face.name) (response_name face.name) (device_node top.merged i f))
      (face_connections top.merged i (suc f) faces)
      (joined_wired (face_request face.name) (response_name face.name) (device_node top.merged i f)
      (λ k e. device_usable top good k (device_node_is top i f k e).0)) (faces_wired i (suc f) faces)

  hosts_wired : (i f : ℕ) (faces : List HostFace) → AllOf (IsWired (behind_wires top)) (host_connections top.merged i f faces)
  hosts_wired i f [] = tt
  hosts_wired i f (face ∷ faces) =
      all_join (IsWired (behind_wires top)) (joined_at top.merged (host_face_request face.name) (host_face_response face.name) (host_node top.merged i f))
      (host_connections top.merged i (suc f) faces)
      (joined_wired (host_face_request face.name) (host_face_response face.name) (host_node top.merged i f)
      (λ k e. let is = host_node_is top i f k e in host_usable top good k is.0 (subst IsPlain (sym is.1) tt))) (hosts_wired i (suc f) faces)

  nets_wired : (i : ℕ) → i < length top.merged.top.insts
      → AllOf (IsWired (behind_wires top)) (net_connections (instance_of top.merged i).name (block_of top.merged i))
  nets_wired i less =
      let name = (instance_of top.merged i).name in
      let b = behind_wires top in
      all_join (IsWired b) (map (interrupt_connection name) (block_of top.merged i).desc.intrs) _
      (each_mapped (IsWired b) (interrupt_connection name) (block_of top.merged i).desc.intrs
      (λ x a. wired b (codes "intr_" ++ (x.name ++ codes "_o")) (interrupt_net name x) x.width (interrupt_usable top good i less x a)))
      (all_join (IsWired b) (map (alert_connection name) (block_of top.merged i).desc.alerts) _
      (each_mapped (IsWired b) (alert_connection name) (block_of top.merged i).desc.alerts
      (λ x a. wired b (codes "alert_" ++ (x.name ++ codes "_o")) (alert_net name x) 1 (alert_usable top good i less x a)))
      (all_join (IsWired b) (map (pin_input_connection name) (input_pins (block_of top.merged i)))
      (map (pin_output_connection name) (output_pins (block_of top.merged i)))
      (each_mapped (IsWired b) (pin_input_connection name) (input_pins (block_of top.merged i))
      (λ p a. wired b (codes "cio_" ++ (p.port.name ++ codes "_i")) (pin_input_net name p.port) p.port.width (pin_input_usable top good i less p a)))
      (each_mapped (IsWired b) (pin_output_connection name) (output_pins (block_of top.merged i))
      (λ p a. wired b (codes "cio_" ++ (p.port.name ++ codes "_o")) (pin_output_net name p.port) p.port.width (output_usable top good i less p a)))))

  ties_wired : (i : ℕ) → AllOf (IsWired (behind_wires top)) (instance_ties top.ties i)
  ties_wired i =
      each_mapped (IsWired (behind_wires top)) tie_connection (filter (λ (t : Tie). is_instance i t.owner) top.ties)
      (λ t a. wired (behind_wires top) t.port (source_net t.reset t.source) 1
      (source_usable top good t (from_those (λ (t : Tie). is_instance i t.owner) top.ties t a).0))

  clocks_wired : (x : ℕ) → AllOf (IsWired (behind_wires top)) (crossbar_ties top.ties x)
  clocks_wired x =
      each_mapped (IsWired (behind_wires top)) crossbar_clock (filter (λ (t : Tie). is_listed x t.owner) top.ties)
      (λ t a. let from = from_those (λ (t : Tie). is_listed x t.owner) top.ties t a in
      let clock = clock_only top.merged x (tie_port t) t.source (source_of top.merged top.ties good.fits.ties_are t from.0)
      (is_listed_gives x t.owner from.1) in
      wired (behind_wires top) (codes "c_" ++ t.port) (clock_net t.source) 1
      (subst (λ b. IsUsable (behind_wires top) (source_net b t.source) 1) clock (source_usable top good t from.0)))

  block_instance_fits : (i : ℕ) → i < length top.merged.top.insts → Fits (top_inputs top) (behind_wires top) (instance_entry top i ∷ [])
  block_instance_fits i less =
      instance_fits (top_inputs top) (behind_wires top) (block_of top.merged i).desc.name (map address_width (block_of top.merged i).faces)
      (codes "u_" ++ (instance_of top.merged i).name) (instance_connections top i)
      (good.types i less)
      (all_join (IsWired (behind_wires top)) (instance_ties top.ties i) _ (ties_wired i)
      (all_join (IsWired (behind_wires top)) (face_connections top.merged i 0 (block_of top.merged i).faces) _ (faces_wired i 0 (block_of top.merged i).faces)
      (all_join (IsWired (behind_wires top)) (host_connections top.merged i 0 (block_of top.merged i).desc.hosts)
      (net_connections (instance_of top.merged i).name (block_of top.merged i))
      (hosts_wired i 0 (block_of top.merged i).desc.hosts) (nets_wired i less))))

  crossbar_instance_fits : (x : ℕ) → Fits (top_inputs top) (behind_wires top) (crossbar_entry top x ∷ [])
  crossbar_instance_fits x =
      instance_fits (top_inputs top) (behind_wires top) (crossbar_module_name top.merged x) [] (codes "u_xbar_" ++ (crossbar_of top.merged x).name)
      (crossbar_connections top x) refl
      (all_join (IsWired (behind_wires top)) (crossbar_ties top.ties x) (flat_map (node_connections top.merged) (ordered_in top.merged x)) (clocks_wired x)
      (each_flat (IsWired (behind_wires top)) (node_connections top.merged) (ordered_in top.merged x)
      (λ k a. link_wired (port_link top.merged k).request (port_link top.merged k).response (link_of top.merged k)
      (link_usable top good k (node_of_all top.merged x k (its_node top.merged x k a))))))

  instances_fit : Fits (top_inputs top) (behind_wires top) (top_instances top.merged top.ties)
  instances_fit =
      fits_join (top_inputs top) (behind_wires top) (map (instance_entry top) (instance_numbers top.merged))
      (map (crossbar_entry top) (crossbar_numbers top.merged))
      (fits_map (top_inputs top) (behind_wires top) (instance_entry top) (instance_numbers top.merged)
      (λ i a. block_instance_fits i (below top good (length top.merged.top.insts) i a)))
      (fits_map (top_inputs top) (behind_wires top) (crossbar_entry top) (crossbar_numbers top.merged) (λ x a. crossbar_instance_fits x))

  -- ---- the whole

  pub entries_fit : EntriesFit (top_inputs top) (above_all top).nets (above_all top).known (top_entries top)
  entries_fit =
      subst (EntriesFit (top_inputs top) (above_all top).nets (above_all top).known) (sym whole)
      (fits_behind (top_inputs top) (above_all top) (top_wires top) (top_assigns top ++ top_instances top.merged top.ties) (wires_of_top_fit top good)
      (fits_join (top_inputs top) (behind_wires top) (top_assigns top) (top_instances top.merged top.ties) (assigns_fit top good) instances_fit)) where
        whole : top_entries top ≡ top_wires top ++ (top_assigns top ++ top_instances top.merged top.ties)
        whole =
            ap (λ z. z ++ top_instances top.merged top.ties) (sym
            (append_assoc (flat_map (node_wires top.merged) (ordered top.merged)) (flat_map (instance_wires top) (instance_numbers top.merged))
            (top_assigns top)))
            ∙ append_assoc (top_wires top) (top_assigns top) (top_instances top.merged top.ties)
