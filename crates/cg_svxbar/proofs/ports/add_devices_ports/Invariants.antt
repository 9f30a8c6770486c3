use Rattle.std.proofs.Common.{◌≡◌, ◌++◌, drop, map}
use Rattle.std.specs.Prelude.{flat_map}
use Rattle.cg_sv.specs.Views.{port_of}
use Rattle.cg_busspec.specs.Crossbar.{devices}
use Rattle.cg_busspec.specs.CrossbarModule.{device_ports}
use Rattle.cg_svxbar.proofs.ports.add_devices_ports.Given as goal

-- the ports so far, and then those of the devices that are left, are all ports
abbrev pub invariant-loop-device : goal.invariant-loop-device
invariant-loop-device l =
    map port_of l.ports ++ flat_map (device_ports l.xbar) (drop l.device-index (devices l.xbar)) ≡ map port_of l.fn.ports ++ flat_map (device_ports l.xbar) (devices l.xbar)
