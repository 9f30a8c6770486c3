use Rattle.std.proofs.Common.{◌≡◌, ◌++◌, drop, length, map}
use Rattle.std.specs.Prelude.{flat_map}
use Rattle.cg_svbus.specs.TopViewed.{node_id_of}
use Rattle.cg_topspec.specs.Top.{counting, nodes_in, all_nodes}
use Rattle.cg_svbus.proofs.top_nodes.all_nodes.Given as goal

-- the nodes so far, and then those of the crossbars that are left, are all
abbrev pub invariant-loop-xbar : goal.invariant-loop-xbar
invariant-loop-xbar l = map node_id_of l.nodes.items ++ flat_map (nodes_in l.top) (drop l.xbar-index (counting 0 (length l.top.xbars))) ≡ all_nodes l.top
