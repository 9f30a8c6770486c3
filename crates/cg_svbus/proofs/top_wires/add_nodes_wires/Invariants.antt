use Rattle.std.proofs.Common.{◌≡◌, ◌++◌, drop, map}
use Rattle.std.specs.Prelude.{flat_map}
use Rattle.cg_sv.specs.Views.{entry_of}
use Rattle.cg_svbus.specs.TopViewed.{node_id_of}
use Rattle.cg_topspec.specs.TopModule.{node_wires}
use Rattle.cg_svbus.proofs.top_wires.add_nodes_wires.Given as goal

-- the entries so far, and then those of the nodes that are left, are all
abbrev pub invariant-loop-id : goal.invariant-loop-id
invariant-loop-id l =
    map entry_of l.entries ++ flat_map (node_wires l.top) (map node_id_of (drop l.id-index l.nodes)) ≡ map entry_of l.fn.entries ++ flat_map (node_wires l.top) (map node_id_of l.nodes)
