use Rattle.std.proofs.Common.{◌≡◌, ◌++◌, ◌∷◌, drop, map}
use Rattle.cg_clkrst.specs.Owned.{port_at}
use Rattle.cg_clkrst.specs.Ports.{clock_of}
use Rattle.cg_clkrst.specs.declared.tie.Owner.{Owner}
use Rattle.cg_clkrst.proofs.ports.crossbar_ports.Given as goal

-- the ports so far and the clocks of the nodes that are left are all
abbrev pub invariant-loop-node : goal.invariant-loop-node
invariant-loop-node l =
    (owner : Owner) → map (port_at owner) l.ports ++ map (clock_of owner) (map (λ node. node.clock) (drop l.node-index l.node-items)) ≡ map (clock_of owner) (l.xbar.clock ∷ map (λ node. node.clock) l.xbar.nodes)
