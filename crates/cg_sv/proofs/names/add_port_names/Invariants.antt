use Rattle.std.proofs.Common.{◌≡◌, ◌++◌, drop, map}
use Rattle.cg_svspec.specs.Names.{port_names}
use Rattle.cg_sv.specs.Views.{port_of}
use Rattle.cg_sv.proofs.names.add_port_names.Given as goal

-- the names so far, and then those of the ports that are left, are all names
abbrev pub invariant-loop-port : goal.invariant-loop-port
invariant-loop-port l =
    map (λ s. s.now) l.names.items ++ port_names (map port_of (drop l.port-index l.ports))
    ≡ map (λ s. s.now) l.fn.names.items ++ port_names (map port_of l.ports)
