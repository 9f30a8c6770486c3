use Rattle.std.proofs.Common.{◌≡◌, drop}
use Rattle.std.specs.List.{flat_map}
use Rattle.cg_finding.specs.Finding.{earlier, first_of}
use Rattle.cg_finding.specs.Found.{sees}
use Rattle.cg_xbread.specs.Listed.{heard, lonely_device}
use Rattle.cg_xbread.proofs.nodes.first_lonely_device.Given as goal

-- what was found and what the nodes that are left break have the first of all
abbrev pub invariant-loop-node : goal.invariant-loop-node
invariant-loop-node l =
    earlier (sees l.first) (first_of (flat_map (lonely_device (heard l.nodes l.fn.connections)) (drop l.node-index l.nodes)))
    ≡ first_of (flat_map (lonely_device (heard l.nodes l.fn.connections)) l.nodes)
