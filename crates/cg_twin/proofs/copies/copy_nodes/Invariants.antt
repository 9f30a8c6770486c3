use Rattle.std.proofs.Common.{◌≡◌, ◌++◌, drop}
use Rattle.cg_twin.proofs.copies.copy_nodes.Given as goal

-- the copies so far and the nodes that are left are all
abbrev pub invariant-loop-node : goal.invariant-loop-node
invariant-loop-node l = l.copies ++ drop l.node-index l.nodes ≡ l.nodes
