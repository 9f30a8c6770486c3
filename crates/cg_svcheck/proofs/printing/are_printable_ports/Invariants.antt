use Rattle.std.proofs.Common.{◌≡◌, drop, map}
use Rattle.std.specs.List.{list_all}
use Rattle.cg_sv.specs.Views.{port_of}
use Rattle.cg_svcheck.specs.Printing.{is_printable_port}
use Rattle.cg_svcheck.proofs.printing.are_printable_ports.Given as goal

-- what the ports that are left say is what all say
abbrev pub invariant-loop-port : goal.invariant-loop-port
invariant-loop-port l = list_all is_printable_port (map port_of (drop l.port-index l.ports)) ≡ list_all is_printable_port (map port_of l.ports)
