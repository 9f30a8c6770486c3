-- Instances and assignments drive just the plain wires and the outputs of a top's module.
use Rattle.std.proofs.Common.{List, arith, codes, false, filter, flat_map, length, map, refl, subst, true, ℕ, ◌++◌, ◌+◌, ◌<◌, ◌∙◌, ◌≡◌}
use Rattle.cg_busspec.proofs.Owners.{input_among}
use Rattle.cg_clkrst.specs.Ties.{AreTies}
use Rattle.cg_clkrst.specs.declared.tie.Tie.{Tie}
use Rattle.cg_desc.specs.Merged.{IsMerged}
use Rattle.cg_desc.specs.declared.block.AlertDesc.{AlertDesc}
use Rattle.cg_desc.specs.declared.block.IntrDesc.{IntrDesc}
use Rattle.cg_desc.specs.declared.top.MergedTop.{MergedTop}
use Rattle.cg_svspec.proofs.NamesLemmas.{test_of_among}
use Rattle.cg_svspec.specs.Names.{Among, is_among}
use Rattle.cg_svspec.specs.Register.{input_port}
use Rattle.cg_svspec.specs.Tree.{wire}
use Rattle.cg_svspec.specs.WellFormed.{ends_with, is_part}
use Rattle.cg_topspec.proofs.ApartNames.{clock_only, is_listed_gives}
use Rattle.cg_topspec.proofs.Built.{Built, crossbar_connections, instance_connections, top_inputs, top_ports}
use Rattle.cg_topspec.proofs.Driving.{all_give, at, ends_as, gives, gives_flat, gives_join, gives_out_by, inputs_give_none, is_giving, none_gives}
use Rattle.cg_topspec.proofs.FreeNets.{IsFree, instance_wire_free}
use Rattle.cg_topspec.proofs.LinkDrivers.{faces_give, given_by, hosts_give, node_gives, request_at, response_at}
use Rattle.cg_topspec.proofs.ListLemmas.{in_back, in_front, in_map}
use Rattle.cg_topspec.proofs.Nets.{NamesDiffer, from_those}
use Rattle.cg_topspec.proofs.NoClash.{its_node, source_of}
use Rattle.cg_topspec.proofs.Nodes.{node_of_all}
use Rattle.cg_topspec.proofs.Tied.{source_is_port}
use Rattle.cg_topspec.proofs.Totals.{if_any, total, total_same}
use Rattle.cg_topspec.specs.Nets.{Pin, alert_net, clock_net, input_pins, interrupt_net, output_pins, pin_input_net, pin_output_net}
use Rattle.cg_topspec.specs.Top.{block_of, counting, device_node, end_of, host_node, instance_of, is_host, ordered_in}
use Rattle.cg_topspec.specs.TopModule.{alert_connection, alert_wires, crossbar_module_name, crossbar_ties, face_connections, host_connections, instance_ties, interrupt_connection, interrupt_wires, is_instance, is_listed, net_connections, node_connections, pin_input_connection, pin_output_connection, pin_output_wires, source_net}
use Rattle.cg_clkrst.specs.Ties.{port_of as tie_port}

-- the types of the instances are no known parts
abbrev pub AreNoParts : MergedTop → Type 0
AreNoParts m = (i : ℕ) → i < length m.top.insts → is_part (block_of m i).desc.name ≡ false

module _ (top : Built) (merged : IsMerged top.merged) (are : AreTies top.merged top.ties) (names : NamesDiffer top) (types : AreNoParts top.merged)
    (n : List ℕ) where
  -- ---- an instance of a block

  tie_is_input : (t : Tie) → Among t top.ties → is_among (top_inputs top) (source_net t.reset t.source) ≡ true
  tie_is_input t a =
      test_of_among (top_inputs top) (source_net t.reset t.source)
      (input_among (input_port 1 (source_net t.reset t.source)) (top_ports top)
      (source_is_port top.merged top.numbers top.pins (tie_port t) t.source (source_of top.merged top.ties are t a)) refl)

  -- the wires of an instance for what it gives out
  abbrev pub nets_at : ℕ → ℕ
  nets_at i =
      total (λ x. at n (interrupt_net (instance_of top.merged i).name x)) (block_of top.merged i).desc.intrs +
      (total (λ x. at n (alert_net (instance_of top.merged i).name x)) (block_of top.merged i).desc.alerts
      + total (λ (p : Pin). at n (pin_output_net (instance_of top.merged i).name p.port)) (output_pins (block_of top.merged i)))

  module _ (i : ℕ) (less : i < length top.merged.top.insts) where
    abbrev part : List ℕ
    part = (block_of top.merged i).desc.name

    -- the instance's net is a wire of its own
    interrupt_free : (x : IntrDesc) → Among x (block_of top.merged i).desc.intrs → IsFree top names (interrupt_net (instance_of top.merged i).name x)
    interrupt_free x a =
        instance_wire_free top names i x.width (interrupt_net (instance_of top.merged i).name x) less
        (in_front _ (interrupt_wires top.merged i) _ (in_map (λ (y : IntrDesc). wire y.width (interrupt_net (instance_of top.merged i).name y))
        (block_of top.merged i).desc.intrs x a))

    alert_free : (x : AlertDesc) → Among x (block_of top.merged i).desc.alerts → IsFree top names (alert_net (instance_of top.merged i).name x)
    alert_free x a =
        instance_wire_free top names i 1 (alert_net (instance_of top.merged i).name x) less
        (in_back _ (interrupt_wires top.merged i) _ (in_front _ (alert_wires top.merged i) _
        (in_map (λ (y : AlertDesc). wire 1 (alert_net (instance_of top.merged i).name y)) (block_of top.merged i).desc.alerts x a)))

    output_pin_free : (p : Pin) → Among p (output_pins (block_of top.merged i)) → IsFree top names (pin_output_net (instance_of top.merged i).name p.port)
    output_pin_free p a =
        instance_wire_free top names i p.port.width (pin_output_net (instance_of top.merged i).name p.port) less
        (in_back _ (interrupt_wires top.merged i) _ (in_back _ (alert_wires top.merged i) _ (in_front _ (pin_output_wires top.merged i) _
        (in_map (λ (q : Pin). wire q.port.width (pin_output_net (instance_of top.merged i).name q.port)) (output_pins (block_of top.merged i)) p a))))

    ties_give : gives n (top_inputs top) (block_of top.merged i).desc.name (instance_ties top.ties i) ≡ 0
    ties_give =
        inputs_give_none n (top_inputs top) (block_of top.merged i).desc.name (types i less) (λ (t : Tie). t.port) (λ (t : Tie). source_net t.reset t.source)
        (filter (λ (t : Tie). is_instance i t.owner) top.ties)
        (λ t a. tie_is_input t (from_those (λ (t : Tie). is_instance i t.owner) top.ties t a).0)

    nets_give : gives n (top_inputs top) (block_of top.merged i).desc.name (net_connections (instance_of top.merged i).name (block_of top.merged i)) ≡ nets_at i
    nets_give =
        let name = (instance_of top.merged i).name in
        let b = block_of top.merged i in
        let ins = top_inputs top in
        let own = b.desc.name in
        let other = types i less in
        let interrupts = all_give n ins own other (λ (x : IntrDesc). codes "intr_" ++ (x.name ++ codes "_o")) (interrupt_net name) b.desc.intrs
        (λ x a. (gives_out_by (codes "intr_" ++ x.name) (codes "_o") (omega arith) refl, interrupt_free x a)) in
        let alerts = all_give n ins own other (λ (x : AlertDesc). codes "alert_" ++ (x.name ++ codes "_o")) (alert_net name) b.desc.alerts
        (λ x a. (gives_out_by (codes "alert_" ++ x.name) (codes "_o") (omega arith) refl, alert_free x a)) in
        let taken = none_gives n ins own other (λ (p : Pin). codes "cio_" ++ (p.port.name ++ codes "_i")) (λ (p : Pin). pin_input_net name p.port)
        (input_pins b) (λ p a. input_keeps p.port.name) in
        let given = all_give n ins own other (λ (p : Pin). codes "cio_" ++ (p.port.name ++ codes "_o")) (λ (p : Pin). pin_output_net name p.port)
        (output_pins b)
        (λ p a. (gives_out_by (codes "cio_" ++ p.port.name) (codes "_o") (omega arith) refl, output_pin_free p a)) in
        let last = gives_join n ins own other (map (pin_input_connection name) (input_pins b)) (map (pin_output_connection name) (output_pins b)) in
        let middle = gives_join n ins own other (map (alert_connection name) b.desc.alerts)
        (map (pin_input_connection name) (input_pins b) ++ map (pin_output_connection name) (output_pins b)) in
        let first = gives_join n ins own other (map (interrupt_connection name) b.desc.intrs)
        (map (alert_connection name) b.desc.alerts ++ (map (pin_input_connection name) (input_pins b) ++ map (pin_output_connection name) (output_pins b))) in
        sums first middle last interrupts alerts taken given
      where
        sums : {whole a rest b more c d p q r : ℕ} → whole ≡ a + rest → rest ≡ b + more → more ≡ c + d → a ≡ p → b ≡ q → c ≡ 0 → d ≡ r → whole ≡ p + (q + r)
        sums e f g h i j k = omega arith

        input_keeps : (name : List ℕ) → is_giving (codes "cio_" ++ (name ++ codes "_i")) ≡ false
        input_keeps name =
            let first : ends_with (codes "cio_" ++ (name ++ codes "_i")) (codes "_o") ≡ false = ends_as (codes "cio_" ++ name) (codes "_i") (codes "_o")
            (omega arith) in
            rw first refl

    pub instance_gives : gives n (top_inputs top) (block_of top.merged i).desc.name (instance_connections top i)
        ≡ total (λ f. if_any (response_at top merged names n) (device_node top.merged i f)) (counting 0 (length (block_of top.merged i).faces))
        + (total (λ f. if_any (request_at top merged names n) (host_node top.merged i f)) (counting 0 (length (block_of top.merged i).desc.hosts)) + nets_at i)
    instance_gives =
        let ins = top_inputs top in
        let own = (block_of top.merged i).desc.name in
        let other = types i less in
        let nets = net_connections (instance_of top.merged i).name (block_of top.merged i) in
        let hosts = host_connections top.merged i 0 (block_of top.merged i).desc.hosts in
        let faces = face_connections top.merged i 0 (block_of top.merged i).faces in
        sums (gives_join n ins own other (instance_ties top.ties i) (faces ++ (hosts ++ nets))) (gives_join n ins own other faces (hosts ++ nets))
        (gives_join n ins own other hosts nets)
        ties_give (faces_give top merged names n own other i 0 (block_of top.merged i).faces)
        (hosts_give top merged names n own other i 0 (block_of top.merged i).desc.hosts) nets_give
      where
        sums : {whole a rest b more c d p q r : ℕ} → whole ≡ a + rest → rest ≡ b + more → more ≡ c + d → a ≡ 0 → b ≡ p → c ≡ q → d ≡ r → whole ≡ p + (q + r)
        sums e f g h i j k = omega arith

  -- ---- an instance of a crossbar

  pub crossbar_gives : (x : ℕ) → gives n (top_inputs top) (crossbar_module_name top.merged x) (crossbar_connections top x)
      ≡ total (λ k. given_by top merged names n k (is_host top.merged k) (end_of top.merged k)) (ordered_in top.merged x)
  crossbar_gives x =
      let ins = top_inputs top in
      let own = crossbar_module_name top.merged x in
      sums (gives_join n ins own refl (crossbar_ties top.ties x) (flat_map (node_connections top.merged) (ordered_in top.merged x))) (clocks_give own refl)
      (gives_flat n ins own refl (node_connections top.merged) (ordered_in top.merged x)
      ∙ total_same _ _ (ordered_in top.merged x) (λ k a. node_gives top merged names n own refl k (node_of_all top.merged x k (its_node top.merged x k a))))
    where
      sums : {whole a b p : ℕ} → whole ≡ a + b → a ≡ 0 → b ≡ p → whole ≡ p
      sums e f g = omega arith

      clocks_give : (own : List ℕ) → is_part own ≡ false → gives n (top_inputs top) own (crossbar_ties top.ties x) ≡ 0
      clocks_give own other =
          inputs_give_none n (top_inputs top) own other (λ (t : Tie). codes "c_" ++ t.port) (λ (t : Tie). clock_net t.source)
          (filter (λ (t : Tie). is_listed x t.owner) top.ties)
          (λ t a. let from = from_those (λ (t : Tie). is_listed x t.owner) top.ties t a in
          let clock = clock_only top.merged x (tie_port t) t.source (source_of top.merged top.ties are t from.0) (is_listed_gives x t.owner from.1) in
          subst (λ b. is_among (top_inputs top) (source_net b t.source) ≡ true) clock (tie_is_input t from.0))
