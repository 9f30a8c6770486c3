use Rattle.std.proofs.Common.{◌≡◌, ◌++◌, drop, map}
use Rattle.cg_nodes.specs.Listed.{clocks_of, new_names}
use Rattle.cg_nodes.proofs.clocks.clocks_of.Given as goal

-- the clocks so far and those that the nodes that are left use first are all
abbrev pub invariant-loop-node : goal.invariant-loop-node
invariant-loop-node l =
    map (λ k. k.now) l.used.keys ++ new_names (map (λ k. k.now) l.used.keys) (map (λ node. node.clock) (drop l.node-index l.node-items)) ≡ clocks_of l.xbar
