use Rattle.std.proofs.Common.{◌≡◌, ◌++◌, drop}
use Rattle.std.specs.List.{flat_map}
use Rattle.cg_nodes.specs.Listed.{host_parts}
use Rattle.cg_nodes.proofs.parts.add_host_parts.Given as goal

-- the parts so far and those of the hosts that are left are all
abbrev pub invariant-loop-host : goal.invariant-loop-host
invariant-loop-host l = l.parts ++ flat_map (host_parts l.xbar) (drop l.host-index l.hosts) ≡ l.initial.parts ++ flat_map (host_parts l.xbar) l.hosts
