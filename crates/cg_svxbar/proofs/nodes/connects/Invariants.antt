use Rattle.std.proofs.Common.{◌≡◌, drop}
use Rattle.cg_busspec.specs.Crossbar.{reach, is_in}
use Rattle.cg_svxbar.proofs.nodes.connects.Given as goal

-- the device is among all where it is among those that are left
abbrev pub invariant-loop-number : goal.invariant-loop-number
invariant-loop-number l = is_in (drop l.number-index (reach l.xbar l.host)) l.device ≡ is_in (reach l.xbar l.host) l.device
