use Rattle.std.proofs.Common.{◌≡◌, drop}
use Rattle.std.specs.List.{flat_map}
use Rattle.cg_finding.specs.Finding.{earlier, first_of}
use Rattle.cg_finding.specs.Found.{sees}
use Rattle.cg_xbread.specs.Listed.{ends_faults}
use Rattle.cg_xbread.proofs.ends.first_in_all_ends.Given as goal

-- what was found and what the connections that are left break have the first of all
abbrev pub invariant-loop-connection : goal.invariant-loop-connection
invariant-loop-connection l =
    earlier (sees l.first) (first_of (flat_map (ends_faults l.nodes) (drop l.connection-index l.connections)))
    ≡ first_of (flat_map (ends_faults l.nodes) l.connections)
