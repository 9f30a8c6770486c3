use Rattle.std.proofs.Common.{◌≡◌, ◌++◌, drop, map}
use Rattle.cg_xbread.specs.Written.{written_node}
use Rattle.cg_xbread.proofs.written.written_nodes.Given as goal

-- the nodes so far and those of the items that are left are all
abbrev pub invariant-loop-item : goal.invariant-loop-item
invariant-loop-item l = l.nodes ++ map written_node (drop l.item-index l.items) ≡ map written_node l.items
