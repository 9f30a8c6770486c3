use Rattle.std.proofs.Common.{◌≡◌, ◌++◌, drop, length, map}
use Rattle.cg_svbus.specs.TopViewed.{node_id_of}
use Rattle.cg_topspec.specs.Top.{node_id, nodes_in, counting, crossbar_of}
use Rattle.cg_svbus.proofs.top_nodes.add_nodes.Given as goal

-- the nodes so far, and then those of the numbers that are left, are all
abbrev pub invariant-loop-number : goal.invariant-loop-number
invariant-loop-number l =
    map node_id_of l.nodes.items ++ map (node_id l.xbar) (drop l.number-index (counting 0 (length (crossbar_of l.top l.xbar).nodes)))
    ≡ map node_id_of l.fn.nodes.items ++ nodes_in l.top l.xbar
