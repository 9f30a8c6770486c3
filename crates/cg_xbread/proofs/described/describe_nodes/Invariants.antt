use Rattle.std.proofs.Common.{◌≡◌, ◌++◌, drop, map}
use Rattle.cg_xbread.specs.Described.{node_of}
use Rattle.cg_xbread.proofs.described.describe_nodes.Given as goal

-- the nodes so far and those of the items that are left are all
abbrev pub invariant-loop-item : goal.invariant-loop-item
invariant-loop-item l =
    l.described ++ map (node_of l.clock l.nodes l.connections) (drop l.item-index l.items) ≡ map (node_of l.clock l.nodes l.connections) l.items
