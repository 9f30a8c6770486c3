use Rattle.std.proofs.Common.{◌≡◌, ◌++◌, drop, map}
use Rattle.std.specs.Prelude.{flat_map}
use Rattle.cg_sv.specs.Views.{entry_of}
use Rattle.cg_busspec.specs.Crossbar.{reach}
use Rattle.cg_busspec.specs.CrossbarModule.{lane_wires}
use Rattle.cg_svxbar.proofs.wires.add_host_lanes.Given as goal

-- the entries so far, and then those of the devices that are left, are all entries
abbrev pub invariant-loop-device : goal.invariant-loop-device
invariant-loop-device l =
    map entry_of l.entries ++ flat_map (lane_wires l.xbar l.host) (drop l.device-index (reach l.xbar l.host)) ≡ map entry_of l.fn.entries ++ flat_map (lane_wires l.xbar l.host) (reach l.xbar l.host)
