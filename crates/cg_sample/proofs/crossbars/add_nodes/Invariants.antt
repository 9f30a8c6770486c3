use Rattle.std.proofs.Common.{◌≡◌, ◌++◌, drop, map}
use Rattle.cg_sample.specs.Sample.{node_line}
use Rattle.cg_sample.proofs.crossbars.add_nodes.Given as goal

-- the lines so far, and then those of the devices that are left, are all
abbrev pub invariant-loop-device : goal.invariant-loop-device
invariant-loop-device l = l.lines ++ map (node_line l.kind) (drop l.device-index l.devices) ≡ l.fn.lines ++ map (node_line l.kind) l.devices
