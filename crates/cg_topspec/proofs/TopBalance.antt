-- The drivers of a top's module are balanced: what instances and assignments drive is what is declared for them.
use Rattle.std.proofs.Common.{List, [], ap, arith, codes, length, map, sym, ℕ, ◌++◌, ◌+◌, ◌∙◌, ◌≡◌}
use Rattle.cg_clkrst.specs.Ties.{AreTies}
use Rattle.cg_desc.specs.Merged.{IsMerged}
use Rattle.cg_svspec.proofs.WellCounts.{Balanced}
use Rattle.cg_topspec.proofs.Built.{Built, crossbar_connections, crossbar_entry, instance_connections, instance_entry, instance_wires, top_entries, top_inputs, top_module, top_nets}
use Rattle.cg_topspec.proofs.Driving.{gives}
use Rattle.cg_topspec.proofs.EntryCounts.{driven, driven_join, driven_map, outputs, plains}
use Rattle.cg_topspec.proofs.LinkDrivers.{declared_at, given_by, links_balance, request_at, response_at}
use Rattle.cg_topspec.proofs.ListLemmas.{from_counting}
use Rattle.cg_topspec.proofs.Nets.{NamesDiffer}
use Rattle.cg_topspec.proofs.NodeEnds.{total_ordered}
use Rattle.cg_topspec.proofs.NodeSums.{total_faces}
use Rattle.cg_topspec.proofs.QuietEntries.{assigns_of_top, instance_plains, nets_drive_none, outputs_of_top, plains_of_top}
use Rattle.cg_topspec.proofs.TopDrivers.{AreNoParts, crossbar_gives, instance_gives}
use Rattle.cg_topspec.proofs.Totals.{if_any, total, total_flat, total_same, total_sum}
use Rattle.cg_topspec.proofs.Whole.{entries_of_top, ports_of_top}
use Rattle.cg_topspec.specs.Top.{all_nodes, block_of, counting, crossbar_numbers, crossbar_of, device_node, end_of, host_node, instance_numbers, instance_of, is_host, ordered, ordered_in}
use Rattle.cg_topspec.specs.TopModule.{address_width, crossbar_module_name, node_ports, node_wires, top_instances}

module _ (top : Built) (merged : IsMerged top.merged) (are : AreTies top.merged top.ties) (names : NamesDiffer top) (types : AreNoParts top.merged)
    (n : List ℕ) where
  ins : List (List ℕ)
  ins = top_inputs top

  -- the three parts of what an instance of a block drives
  faces_at : ℕ → ℕ
  faces_at i = total (λ f. if_any (response_at top merged names n) (device_node top.merged i f)) (counting 0 (length (block_of top.merged i).faces))

  hosts_at : ℕ → ℕ
  hosts_at i = total (λ f. if_any (request_at top merged names n) (host_node top.merged i f)) (counting 0 (length (block_of top.merged i).desc.hosts))

  blocks_drive : driven n (top_inputs top) (map (instance_entry top) (instance_numbers top.merged))
      ≡ total_faces (λ i. length (block_of top.merged i).faces) (λ i f. if_any (response_at top merged names n) (device_node top.merged i f))
      (length top.merged.top.insts)
      + (total_faces (λ i. length (block_of top.merged i).desc.hosts) (λ i f. if_any (request_at top merged names n) (host_node top.merged i f))
      (length top.merged.top.insts)
      + total (λ i. plains n (instance_wires top i)) (instance_numbers top.merged))
  unfolding faces_at hosts_at
  blocks_drive =
      let nums = instance_numbers top.merged in
      let wires : ℕ → ℕ = λ i. plains n (instance_wires top i) in
      driven_map n (top_inputs top) (λ i. (block_of top.merged i).desc.name) (λ i. map address_width (block_of top.merged i).faces)
      (λ i. codes "u_" ++ (instance_of top.merged i).name) (instance_connections top) nums
      ∙ (total_same (λ i. gives n (top_inputs top) (block_of top.merged i).desc.name (instance_connections top i))
      (λ i. faces_at i + (hosts_at i + wires i)) nums
      (λ i a. let range = from_counting 0 (length top.merged.top.insts) i a in
      instance_gives top merged are names types n i (omega (arith, range.1)) ∙ ap (λ z. faces_at i + (hosts_at i + z)) (sym (instance_plains top n i)))
      ∙ (total_sum faces_at (λ i. hosts_at i + wires i) nums ∙ ap (λ z. total faces_at nums + z) (total_sum hosts_at wires nums)))

  crossbars_drive : driven n (top_inputs top) (map (crossbar_entry top) (crossbar_numbers top.merged))
      ≡ total (λ k. given_by top merged names n k (is_host top.merged k) (end_of top.merged k)) (all_nodes top.merged)
  crossbars_drive =
      driven_map n (top_inputs top) (crossbar_module_name top.merged) (λ x. []) (λ x. codes "u_xbar_" ++ (crossbar_of top.merged x).name)
      (crossbar_connections top) (crossbar_numbers top.merged)
      ∙ (total_same _ _ (crossbar_numbers top.merged) (λ x a. crossbar_gives top merged are names types n x)
      ∙ (sym (total_flat (λ k. given_by top merged names n k (is_host top.merged k) (end_of top.merged k)) (ordered_in top.merged)
      (crossbar_numbers top.merged))
      ∙ total_ordered top.merged (λ k. given_by top merged names n k (is_host top.merged k) (end_of top.merged k))))

  -- Instances drive just the plain wires and the outputs of nodes outside.
  pub driven_of_top : driven n (top_inputs top) (top_entries top) ≡ plains n (top_entries top)
      + total (λ k. outputs n (node_ports top.merged k)) (ordered top.merged)
  driven_of_top =
      let faces = total_faces (λ i. length (block_of top.merged i).faces) (λ i f. if_any (response_at top merged names n) (device_node top.merged i f))
      (length top.merged.top.insts) in
      let hosts = total_faces (λ i. length (block_of top.merged i).desc.hosts) (λ i f. if_any (request_at top merged names n) (host_node top.merged i f))
      (length top.merged.top.insts) in
      sums faces hosts (total (λ i. plains n (instance_wires top i)) (instance_numbers top.merged))
      (total (λ k. plains n (node_wires top.merged k)) (ordered top.merged)) (total (λ k. outputs n (node_ports top.merged k)) (ordered top.merged))
      (driven_join n (top_inputs top) (top_nets top) (top_instances top.merged top.ties))
      (driven_join n (top_inputs top) (map (instance_entry top) (instance_numbers top.merged)) (map (crossbar_entry top) (crossbar_numbers top.merged)))
      (nets_drive_none top n (top_inputs top)) blocks_drive crossbars_drive (links_balance top merged names n)
      (sym (total_ordered top.merged (declared_at top merged names n))
      ∙ total_sum (λ k. plains n (node_wires top.merged k)) (λ k. outputs n (node_ports top.merged k)) (ordered top.merged))
      (plains_of_top top n)
    where
      sums : {whole a rest b c g d q : ℕ} (f h w p o : ℕ) → whole ≡ a + rest → rest ≡ b + c → a ≡ 0 → b ≡ f + (h + w) → c ≡ g → g + (f + h) ≡ d → d ≡ p + o
          → q ≡ p + w → whole ≡ q + o
      sums f h w p o e1 e2 e3 e4 e5 e6 e7 e8 = omega arith

pub top_balanced : (top : Built) → IsMerged top.merged → AreTies top.merged top.ties → NamesDiffer top → AreNoParts top.merged → Balanced (top_module top)
top_balanced top merged are names types = record {
  driven = λ n.
      let all = driven_of_top top merged are names types n in
      let assigned = assigns_of_top top n in
      let ports = outputs_of_top top n in
      rw (ports_of_top top, entries_of_top top) (omega (arith, all, assigned, ports));
}
