use Rattle.std.proofs.Common.{◌≡◌, ◌++◌, drop, map}
use Rattle.std.specs.Prelude.{flat_map}
use Rattle.cg_sv.specs.Views.{port_of}
use Rattle.cg_svbus.specs.TopViewed.{node_id_of}
use Rattle.cg_topspec.specs.TopModule.{node_ports}
use Rattle.cg_svbus.proofs.top_ports.add_nodes_ports.Given as goal

-- the ports so far, and then those of the nodes that are left, are all ports
abbrev pub invariant-loop-id : goal.invariant-loop-id
invariant-loop-id l =
    map port_of l.ports ++ flat_map (node_ports l.top) (map node_id_of (drop l.id-index l.nodes)) ≡ map port_of l.fn.ports ++ flat_map (node_ports l.top) (map node_id_of l.nodes)
