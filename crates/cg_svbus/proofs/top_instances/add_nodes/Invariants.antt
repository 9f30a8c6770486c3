use Rattle.std.proofs.Common.{◌≡◌, ◌++◌, drop, map}
use Rattle.std.specs.Prelude.{flat_map}
use Rattle.cg_sv.specs.Views.{connection_of}
use Rattle.cg_svbus.specs.TopViewed.{node_id_of}
use Rattle.cg_topspec.specs.TopModule.{node_connections}
use Rattle.cg_svbus.proofs.top_instances.add_nodes.Given as goal

-- the connections so far, and then those of the nodes that are left, are all
abbrev pub invariant-loop-id : goal.invariant-loop-id
invariant-loop-id l =
    map connection_of l.conns ++ flat_map (node_connections l.top) (map node_id_of (drop l.id-index l.nodes)) ≡ map connection_of l.fn.conns ++ flat_map (node_connections l.top) (map node_id_of l.nodes)
