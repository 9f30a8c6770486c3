use Rattle.std.proofs.Common.{◌≡◌, ◌++◌, drop, map}
use Rattle.std.specs.Prelude.{flat_map}
use Rattle.cg_sv.specs.Views.{port_of}
use Rattle.cg_busspec.specs.Crossbar.{hosts}
use Rattle.cg_busspec.specs.CrossbarModule.{host_ports}
use Rattle.cg_svxbar.proofs.ports.add_hosts_ports.Given as goal

-- the ports so far, and then those of the hosts that are left, are all ports
abbrev pub invariant-loop-host : goal.invariant-loop-host
invariant-loop-host l =
    map port_of l.ports ++ flat_map (host_ports l.xbar) (drop l.host-index (hosts l.xbar)) ≡ map port_of l.fn.ports ++ flat_map (host_ports l.xbar) (hosts l.xbar)
