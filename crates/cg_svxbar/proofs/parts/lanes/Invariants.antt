use Rattle.std.proofs.Common.{◌≡◌, ◌++◌, drop, map}
use Rattle.cg_busspec.specs.Crossbar.{reach}
use Rattle.cg_busspec.specs.CrossbarModule.{lane}
use Rattle.cg_svxbar.specs.Viewed.{link_of}
use Rattle.cg_svxbar.proofs.parts.lanes.Given as goal

-- the links so far, and then those of the devices that are left, are all links
abbrev pub invariant-loop-device : goal.invariant-loop-device
invariant-loop-device l =
    map link_of l.lanes.items ++ map (lane l.xbar l.host) (drop l.device-index (reach l.xbar l.host)) ≡ map (lane l.xbar l.host) (reach l.xbar l.host)
