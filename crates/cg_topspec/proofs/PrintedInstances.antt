-- The instances of a top's module can be printed: their names, parameters and connections are of the grammar.
use Rattle.std.proofs.Common.{Bool, List, None, Option, Some, [], arith, codes, cond, false, filter, leb, length, map, not, refl, subst, suc, sym, true, zero, ℕ, ◌&&◌, ◌++◌, ◌/◌, ◌<◌, ◌∷◌, ◌≡◌, ◌≤◌}
use Rattle.std.specs.List.{list_all}
use Rattle.cg_busspec.specs.CrossbarModule.{connection, halvings}
use Rattle.cg_clkrst.specs.Ports.{TiePort}
use Rattle.cg_clkrst.specs.Ties.{AreTies, HasSource}
use Rattle.cg_clkrst.specs.declared.tie.Tie.{Tie}
use Rattle.cg_desc.specs.Merged.{IsMerged, IsValidLaidBlock}
use Rattle.cg_desc.specs.Valid.{IsNameIfAny, IsShortNameIfAny, IsValidInterface}
use Rattle.cg_desc.specs.declared.block.FaceDesc.{FaceDesc}
use Rattle.cg_desc.specs.declared.block.HostFace.{HostFace}
use Rattle.cg_desc.specs.declared.block.LaidFace.{LaidFace}
use Rattle.cg_desc.specs.declared.top.MergedTop.{MergedTop}
use Rattle.cg_space.proofs.Tabling.{all_of}
use Rattle.cg_svspec.proofs.Parts.{all_join}
use Rattle.cg_svspec.proofs.Runs.{each_passes}
use Rattle.cg_svspec.proofs.WellNames.{has_underscore, is_word, literal_name, prefix_name, word_characters}
use Rattle.cg_svspec.specs.Characters.{Each, IsName, is_name_character}
use Rattle.cg_svspec.specs.Names.{Among}
use Rattle.cg_svspec.specs.Printable.{AllOf, IsPrintableConnection, IsPrintableEntry, IsPrintableParameter}
use Rattle.cg_svspec.specs.Tree.{net}
use Rattle.cg_svspec.specs.Walk.{address_width_name, response_name}
use Rattle.cg_topspec.proofs.ApartNames.{clock_only, is_listed_gives}
use Rattle.cg_topspec.proofs.Built.{IsNode}
use Rattle.cg_topspec.proofs.EachItem.{each_flat, each_item, each_mapped, some_front}
use Rattle.cg_topspec.proofs.ListLemmas.{found_in, from_map, in_map}
use Rattle.cg_topspec.proofs.NetNames.{alert_named, clock_named, interrupt_named, link_named, own_named, pin_input_named, pin_output_named, port_named, reset_named}
use Rattle.cg_topspec.proofs.Nets.{from_those}
use Rattle.cg_topspec.proofs.NoClash.{its_node, source_of}
use Rattle.cg_topspec.proofs.Nodes.{node_of_all}
use Rattle.cg_topspec.proofs.PartNames.{alert_valid, both_each, crossbar_each, input_valid, instance_each, interrupt_valid, output_valid, short_each, suffix_name, valid_block}
use Rattle.cg_topspec.proofs.PrintedBits.{net_printable}
use Rattle.cg_topspec.proofs.TieNames.{crossbar_tied, instance_tied, tie_named}
use Rattle.cg_topspec.specs.Nets.{alert_net, clock_net, input_pins, interrupt_net, link_of, output_pins, own_link, pin_input_net, pin_output_net}
use Rattle.cg_topspec.specs.Top.{NodeId, all_nodes, block_of, crossbar_of, device_node, end_of, host_node, instance_of, is_device_face, is_host, is_host_face, ordered_in}
use Rattle.cg_topspec.specs.TopModule.{address_width, alert_connection, crossbar_clock, crossbar_entry, crossbar_ties, face_connections, face_request, host_connections, host_face_request, host_face_response, instance_entry, instance_ties, interrupt_connection, is_instance, is_listed, joined_at, net_connections, node_connections, pin_input_connection, pin_output_connection, port_link, source_net, tie_connection}
use Rattle.cg_clkrst.specs.Ties.{port_of as tie_port}

to_net : (port name : List ℕ) → IsName port → IsName name → IsPrintableConnection (connection port (net name))
to_net port name p n = (p, net_printable name n)

-- ---- names of an interface's connections

face_request_named : (f : Option (List ℕ)) → IsNameIfAny f → IsName (face_request f)
face_request_named None h = literal_name (codes "tl_req_i") refl refl
face_request_named (Some f) h = suffix_name f (codes "_tl_req_i") h.0 refl refl

face_response_named : (f : Option (List ℕ)) → IsNameIfAny f → IsName (response_name f)
face_response_named None h = literal_name (codes "tl_rsp_o") refl refl
face_response_named (Some f) h = suffix_name f (codes "_tl_rsp_o") h.0 refl refl

host_request_named : (f : Option (List ℕ)) → IsNameIfAny f → IsName (host_face_request f)
host_request_named None h = literal_name (codes "tl_h_req_o") refl refl
host_request_named (Some f) h = suffix_name f (codes "_tl_req_o") h.0 refl refl

host_response_named : (f : Option (List ℕ)) → IsNameIfAny f → IsName (host_face_response f)
host_response_named None h = literal_name (codes "tl_h_rsp_i") refl refl
host_response_named (Some f) h = suffix_name f (codes "_tl_rsp_i") h.0 refl refl

width_named : (f : Option (List ℕ)) → IsNameIfAny f → IsName (address_width_name f)
width_named None h = literal_name (codes "Aw") refl refl
width_named (Some f) h = prefix_name (codes "Aw_") f refl refl (word_characters f h.0)

-- a number is halved as often as is allowed at most
halvings_few : (fuel n : ℕ) → halvings fuel n ≤ fuel
halvings_few zero n = omega arith
halvings_few (suc fuel) n = by (leb n 1) (halvings_few fuel (n / 2)) where
  by : (b : Bool) → halvings fuel (n / 2) ≤ fuel → cond b 0 (suc (halvings fuel (n / 2))) ≤ suc fuel
  by true h = omega arith
  by false h = omega (arith, h)

-- a good name or none, of at most 40 characters
short_if_any : (f : Option (List ℕ)) → IsShortNameIfAny f → IsNameIfAny f
short_if_any None h = tt
short_if_any (Some f) h = h.0

module _ (m : MergedTop) (merged : IsMerged m) where
  joined_printable : (request response : List ℕ) → IsName request → IsName response → (o : Option NodeId) → ((n : NodeId) → o ≡ Some n → IsNode m n)
      → AllOf IsPrintableConnection (joined_at m request response o)
  joined_printable request response p q None there = tt
  joined_printable request response p q (Some n) there =
      let named = own_named m merged n (there n refl) in
      (to_net request (own_link m n).request p named.request, (to_net response (own_link m n).response q named.response, tt))

  faces_printable : (i f : ℕ) (faces : List LaidFace) → AllOf (λ (face : LaidFace). IsNameIfAny face.name) faces
      → AllOf IsPrintableConnection (face_connections m i f faces)
  faces_printable i f [] all = tt
  faces_printable i f (face ∷ faces) all =
      all_join IsPrintableConnection (joined_at m (face_request face.name) (response_name face.name) (device_node m i f)) (face_connections m i (suc f) faces)
      (joined_printable (face_request face.name) (response_name face.name) (face_request_named face.name all.0) (face_response_named face.name all.0)
      (device_node m i f)
      (λ n e. (found_in (λ k. not (is_host m k) && is_device_face i f (end_of m k)) (all_nodes m) n e).0))
      (faces_printable i (suc f) faces all.1)

  hosts_printable : (i f : ℕ) (faces : List HostFace) → AllOf (λ (face : HostFace). IsShortNameIfAny face.name) faces
      → AllOf IsPrintableConnection (host_connections m i f faces)
  hosts_printable i f [] all = tt
  hosts_printable i f (face ∷ faces) all =
      all_join IsPrintableConnection (joined_at m (host_face_request face.name) (host_face_response face.name) (host_node m i f))
      (host_connections m i (suc f) faces)
      (joined_printable (host_face_request face.name) (host_face_response face.name) (host_request_named face.name (short_if_any face.name all.0))
      (host_response_named face.name (short_if_any face.name all.0)) (host_node m i f)
      (λ n e. (found_in (λ k. is_host m k && is_host_face i f (end_of m k)) (all_nodes m) n e).0))
      (hosts_printable i (suc f) faces all.1)

  module _ (i : ℕ) (less : i < length m.top.insts) where
    block_valid : IsValidLaidBlock (block_of m i)
    block_valid = valid_block m merged i less

    -- interfaces have the names that the block gives them
    faces_named : AllOf (λ (face : LaidFace). IsNameIfAny face.name) (block_of m i).faces
    faces_named =
        all_of (λ (face : LaidFace). IsNameIfAny face.name) (block_of m i).faces
        (λ face a. let from = from_map (λ (f : FaceDesc). f.name) (block_of m i).desc.faces face.name
        (subst (Among face.name) block_valid.named (in_map (λ (f : LaidFace). f.name) (block_of m i).faces face a)) in
        subst IsNameIfAny (sym from.2) (each_item IsValidInterface (block_of m i).desc.faces block_valid.block.interfaces from.0 from.1).name)

    parameters_printable : AllOf IsPrintableParameter (map address_width (block_of m i).faces)
    parameters_printable =
        each_mapped IsPrintableParameter address_width (block_of m i).faces
        (λ face a. (
          width_named face.name (each_item (λ (f : LaidFace). IsNameIfAny f.name)
              (block_of m i).faces faces_named face a),
          omega (arith, halvings_few 32 face.size),
        ))

    port_each : (start name end : List ℕ) → is_word start ≡ true → has_underscore start ≡ true → Each is_name_character name
        → list_all is_name_character end ≡ true → IsName (start ++ (name ++ end))
    port_each start name end w h e f = prefix_name start (name ++ end) w h (both_each name end e (each_passes is_name_character end f))

    nets_printable : AllOf IsPrintableConnection (net_connections (instance_of m i).name (block_of m i))
    nets_printable =
        all_join IsPrintableConnection (map (interrupt_connection (instance_of m i).name) (block_of m i).desc.intrs) _
        (each_mapped IsPrintableConnection (interrupt_connection (instance_of m i).name) (block_of m i).desc.intrs
        (λ x a. to_net (codes "intr_" ++ (x.name ++ codes "_o")) (interrupt_net (instance_of m i).name x)
        (port_each (codes "intr_") x.name (codes "_o") refl refl (word_characters x.name (interrupt_valid m merged i less x a).name) refl)
        (interrupt_named m merged i less x a)))
        (all_join IsPrintableConnection (map (alert_connection (instance_of m i).name) (block_of m i).desc.alerts) _
        (each_mapped IsPrintableConnection (alert_connection (instance_of m i).name) (block_of m i).desc.alerts
        (λ x a. to_net (codes "alert_" ++ (x.name ++ codes "_o")) (alert_net (instance_of m i).name x)
        (port_each (codes "alert_") x.name (codes "_o") refl refl (word_characters x.name (alert_valid m merged i less x a)) refl)
        (alert_named m merged i less x a)))
        (all_join IsPrintableConnection (map (pin_input_connection (instance_of m i).name) (input_pins (block_of m i))) _
        (each_mapped IsPrintableConnection (pin_input_connection (instance_of m i).name) (input_pins (block_of m i))
        (λ p a. to_net (codes "cio_" ++ (p.port.name ++ codes "_i")) (pin_input_net (instance_of m i).name p.port)
        (port_each (codes "cio_") p.port.name (codes "_i") refl refl (short_each p.port.name (input_valid m merged i less p a).name) refl)
        (pin_input_named m merged i less p a)))
        (each_mapped IsPrintableConnection (pin_output_connection (instance_of m i).name) (output_pins (block_of m i))
        (λ p a. to_net (codes "cio_" ++ (p.port.name ++ codes "_o")) (pin_output_net (instance_of m i).name p.port)
        (port_each (codes "cio_") p.port.name (codes "_o") refl refl (short_each p.port.name (output_valid m merged i less p a).name) refl)
        (pin_output_named m merged i less p a)))))

module _ (m : MergedTop) (merged : IsMerged m) (ties : List Tie) (are : AreTies m ties) where
  source_named : (port : TiePort) (source : List ℕ) → HasSource m port source → IsName (source_net port.reset source)
  source_named port source (HasSource.instance_clock i d p s at is) = clock_named m merged s is.there
  source_named port source (HasSource.instance_reset i d p s at is) = reset_named m merged s is.there
  source_named port source (HasSource.crossbar_clock x u p s at is) = clock_named m merged s is.there

  instance_ties_printable : (i : ℕ) → AllOf IsPrintableConnection (instance_ties ties i)
  instance_ties_printable i =
      each_mapped IsPrintableConnection tie_connection (filter (λ (t : Tie). is_instance i t.owner) ties)
      (λ t a. let there = (from_those (λ (t : Tie). is_instance i t.owner) ties t a).0 in
      to_net t.port (source_net t.reset t.source) (tie_named m merged ties are t there).0 (source_named (tie_port t) t.source (source_of m ties are t there)))

  crossbar_ties_printable : (x : ℕ) → AllOf IsPrintableConnection (crossbar_ties ties x)
  crossbar_ties_printable x =
      each_mapped IsPrintableConnection crossbar_clock (filter (λ (t : Tie). is_listed x t.owner) ties)
      (λ t a. let from = from_those (λ (t : Tie). is_listed x t.owner) ties t a in
      let clock = clock_only m x (tie_port t) t.source (source_of m ties are t from.0) (is_listed_gives x t.owner from.1) in
      to_net (codes "c_" ++ t.port) (clock_net t.source) (prefix_name (codes "c_") t.port refl refl (short_each t.port (tie_named m merged ties are t from.0)))
      (subst (λ b. IsName (source_net b t.source)) clock (source_named (tie_port t) t.source (source_of m ties are t from.0))))

  pub instance_printable : (i : ℕ) → i < length m.top.insts → IsPrintableEntry (instance_entry m ties i)
  instance_printable i less = (
    (valid_block m merged i less).block.name,
    parameters_printable m merged i less,
    prefix_name (codes "u_") (instance_of m i).name refl refl (instance_each m merged i less),
    some_front (instance_ties ties i) _ (instance_tied m merged ties are i less),
    all_join IsPrintableConnection (instance_ties ties i) _ (instance_ties_printable i)
        (all_join IsPrintableConnection (face_connections m i 0 (block_of m i).faces) _
        (faces_printable m merged i 0 (block_of m i).faces (faces_named m merged i less))
        (all_join IsPrintableConnection (host_connections m i 0 (block_of m i).desc.hosts) _
        (hosts_printable m merged i 0 (block_of m i).desc.hosts (valid_block m merged i less).block.hosts) (nets_printable m merged i less))),
  )

  node_printable : (x : ℕ) (n : NodeId) → Among n (ordered_in m x) → AllOf IsPrintableConnection (node_connections m n)
  node_printable x n a =
      let there = node_of_all m x n (its_node m x n a) in
      let port = port_named m merged n there in
      let link = link_named m merged n there in (
        to_net (port_link m n).request (link_of m n).request port.request link.request,
        (to_net (port_link m n).response (link_of m n).response port.response link.response, tt),
      )

  pub crossbar_printable : (x : ℕ) → x < length m.xbars → IsPrintableEntry (crossbar_entry m ties x)
  crossbar_printable x less = (
    prefix_name (codes "xbar_") (crossbar_of m x).name refl refl (crossbar_each m merged x less),
    tt,
    prefix_name (codes "u_xbar_") (crossbar_of m x).name refl refl (crossbar_each m merged x less),
    some_front (crossbar_ties ties x) _ (crossbar_tied m merged ties are x less),
    all_join IsPrintableConnection (crossbar_ties ties x) _ (crossbar_ties_printable x)
        (each_flat IsPrintableConnection (node_connections m) (ordered_in m x) (node_printable x)),
  )
