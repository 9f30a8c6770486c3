use Rattle.std.proofs.Common.{◌≡◌, drop, map}
use Rattle.std.specs.List.{flat_map}
use Rattle.cg_finding.specs.Finding.{earlier, first_of}
use Rattle.cg_finding.specs.Found.{sees}
use Rattle.cg_xbread.specs.Listed.{connection_faults}
use Rattle.cg_xbread.proofs.connections.first_in_each_connection.Given as goal

-- what was found and what the members that are left break have the first of all
abbrev pub invariant-loop-member : goal.invariant-loop-member
invariant-loop-member l =
    earlier (sees l.first) (first_of (flat_map connection_faults (map (λ m. m.now) (drop l.member-index l.members))))
    ≡ first_of (flat_map connection_faults (map (λ m. m.now) l.members))
