use Rattle.std.proofs.Common.{◌≡◌, ◌++◌, drop, map}
use Rattle.std.specs.Prelude.{flat_map}
use Rattle.cg_sv.specs.Views.{entry_of}
use Rattle.cg_busspec.specs.Crossbar.{devices}
use Rattle.cg_busspec.specs.CrossbarModule.{device_wires}
use Rattle.cg_svxbar.proofs.wires.add_devices_wires.Given as goal

-- the entries so far, and then those of the devices that are left, are all entries
abbrev pub invariant-loop-device : goal.invariant-loop-device
invariant-loop-device l =
    map entry_of l.entries ++ flat_map (device_wires l.xbar) (drop l.device-index (devices l.xbar)) ≡ map entry_of l.fn.entries ++ flat_map (device_wires l.xbar) (devices l.xbar)
