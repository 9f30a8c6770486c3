use Rattle.std.proofs.Common.{◌≡◌, ◌++◌, drop, map}
use Rattle.std.specs.Prelude.{filter}
use Rattle.cg_svbus.specs.TopViewed.{node_id_of, is_kind}
use Rattle.cg_svbus.proofs.top_nodes.add_kind.Given as goal

-- the nodes so far, and then those of the kind that are left, are all
abbrev pub invariant-loop-id : goal.invariant-loop-id
invariant-loop-id l =
    map node_id_of l.nodes.items ++ filter (is_kind l.top l.host) (map node_id_of (drop l.id-index l.among))
    ≡ map node_id_of l.fn.nodes.items ++ filter (is_kind l.top l.host) (map node_id_of l.among)
