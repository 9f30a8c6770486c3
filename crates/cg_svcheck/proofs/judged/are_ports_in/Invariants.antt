use Rattle.std.proofs.Common.{◌≡◌, drop, map}
use Rattle.std.specs.List.{list_all}
use Rattle.cg_sv.specs.Views.{port_of}
use Rattle.cg_svcheck.specs.Lookups.{has, is_port_in}
use Rattle.cg_svcheck.proofs.judged.are_ports_in.Given as goal

-- what is left says what all say
abbrev pub invariant-loop-port : goal.invariant-loop-port
invariant-loop-port l =
    list_all (is_port_in (has l.driven)) (map port_of (drop l.port-index l.ports)) ≡ list_all (is_port_in (has l.driven)) (map port_of l.ports)
