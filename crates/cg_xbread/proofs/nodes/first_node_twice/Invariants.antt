use Rattle.std.proofs.Common.{◌≡◌, [], drop, take}
use Rattle.cg_finding.specs.Finding.{each_after, earlier, first_of}
use Rattle.cg_finding.specs.Found.{sees}
use Rattle.cg_xbread.specs.Listed.{node_twice}
use Rattle.cg_keys.proofs.SeenNames.{HasNamesOf}
use Rattle.cg_xbread.proofs.nodes.first_node_twice.Given as goal

-- the names of the nodes so far are in the set, and what was found and what is left have the first of all
abbrev pub invariant-loop-node : goal.invariant-loop-node
invariant-loop-node l = record {
  seen : HasNamesOf (λ n. n.name) l.seen.keys (take l.node-index l.nodes);
  rest :
      earlier (sees l.first) (first_of (each_after node_twice (take l.node-index l.nodes) (drop l.node-index l.nodes)))
      ≡ first_of (each_after node_twice [] l.nodes);
}
