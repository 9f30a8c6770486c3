use Rattle.std.proofs.Common.{◌≡◌, ◌++◌, drop}
use Rattle.std.specs.List.{flat_map}
use Rattle.cg_nodes.specs.Listed.{device_parts}
use Rattle.cg_nodes.proofs.parts.add_device_parts.Given as goal

-- the parts so far and those of the devices that are left are all
abbrev pub invariant-loop-device : goal.invariant-loop-device
invariant-loop-device l = l.parts ++ flat_map (device_parts l.xbar) (drop l.device-index l.devices) ≡ l.initial.parts ++ flat_map (device_parts l.xbar) l.devices
