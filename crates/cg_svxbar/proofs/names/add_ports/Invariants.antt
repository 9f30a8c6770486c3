use Rattle.std.proofs.Common.{◌≡◌, ◌++◌, drop, map}
use Rattle.cg_sv.specs.Views.{port_of}
use Rattle.cg_svspec.specs.Names.{port_names}
use Rattle.cg_svxbar.proofs.names.add_ports.Given as goal

-- the names so far, and then those of the ports that are left, are all
abbrev pub invariant-loop-port : goal.invariant-loop-port
invariant-loop-port l =
    l.names ++ port_names (map port_of (drop l.port-index l.ports)) ≡ l.fn.names ++ port_names (map port_of l.ports)
