use Rattle.std.proofs.Common.{◌≡◌, ◌++◌, drop, map}
use Rattle.std.specs.Prelude.{flat_map}
use Rattle.cg_sv.specs.Views.{entry_of}
use Rattle.cg_busspec.specs.Crossbar.{hosts}
use Rattle.cg_busspec.specs.CrossbarModule.{host_wires}
use Rattle.cg_svxbar.proofs.wires.add_hosts_wires.Given as goal

-- the entries so far, and then those of the hosts that are left, are all entries
abbrev pub invariant-loop-host : goal.invariant-loop-host
invariant-loop-host l =
    map entry_of l.entries ++ flat_map (host_wires l.xbar) (drop l.host-index (hosts l.xbar)) ≡ map entry_of l.fn.entries ++ flat_map (host_wires l.xbar) (hosts l.xbar)
