use Rattle.std.proofs.Common.{◌≡◌, ◌++◌, drop, codes, cond, [], map}
use Rattle.cg_svspec.specs.Layout.{ports_text}
use Rattle.cg_sv.specs.Views.{port_of}
use Rattle.cg_sv.proofs.layout.print_ports.Given as goal

-- what is printed, and then the ports that are left, are all ports
abbrev pub invariant-loop-port : goal.invariant-loop-port
invariant-loop-port l =
    l.out ++ ports_text (cond l.first [] (codes ",\n")) (map port_of (drop l.port-index l.ports))
    ≡ l.fn.out ++ ports_text [] (map port_of l.ports)
