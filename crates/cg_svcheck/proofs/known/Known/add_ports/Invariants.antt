use Rattle.std.proofs.Common.{drop, map}
use Rattle.cg_sv.specs.Views.{port_of}
use Rattle.cg_svcheck.proofs.Growing.{PortsAdded}
use Rattle.cg_svcheck.proofs.known.Known.add_ports.Given as goal

-- the table has what it had, and the ports so far
abbrev pub invariant-loop-port : goal.invariant-loop-port
invariant-loop-port l =
    PortsAdded l.fn.self l.self (map port_of (drop l.port-index l.ports)) (map port_of l.ports)
