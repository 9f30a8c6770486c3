use Rattle.std.proofs.Common.{◌≡◌, ◌++◌, drop, map}
use Rattle.cg_busspec.specs.Crossbar.{hosts, crossbar_of}
use Rattle.cg_busspec.specs.CrossbarModule.{host_select}
use Rattle.cg_sv.specs.Views.{entry_of}
use Rattle.cg_svxbar.proofs.selects.add_selects.Given as goal

-- the entries so far, and then those of the hosts that are left, are all entries
abbrev pub invariant-loop-host : goal.invariant-loop-host
invariant-loop-host l =
    map entry_of l.entries ++ map (host_select (crossbar_of l.xbar l.ranges)) (drop l.host-index (hosts l.xbar))
    ≡ map entry_of l.fn.entries ++ map (host_select (crossbar_of l.xbar l.ranges)) (hosts l.xbar)
