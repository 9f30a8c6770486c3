use Rattle.std.proofs.Common.{◌≡◌, ◌++◌, drop, map}
use Rattle.cg_busspec.specs.Crossbar.{feeders}
use Rattle.cg_busspec.specs.CrossbarModule.{l_link}
use Rattle.cg_svxbar.specs.Viewed.{link_of}
use Rattle.cg_svxbar.proofs.parts.join_lanes.Given as goal

-- the links so far, and then those of the hosts that are left, are all links
abbrev pub invariant-loop-host : goal.invariant-loop-host
invariant-loop-host l =
    map link_of l.lanes.items ++ map (λ h. l_link l.xbar h l.device) (drop l.host-index (feeders l.xbar l.device)) ≡ map (λ h. l_link l.xbar h l.device) (feeders l.xbar l.device)
