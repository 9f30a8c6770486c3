use Rattle.std.proofs.Common.{◌≡◌, drop, map}
use Rattle.std.specs.List.{list_all}
use Rattle.cg_sv.specs.Views.{port_of, module_of}
use Rattle.cg_svcheck.specs.Counting.{is_port_once}
use Rattle.cg_svcheck.proofs.differing.are_ports_once.Given as goal

-- what is left says what all say
abbrev pub invariant-loop-port : goal.invariant-loop-port
invariant-loop-port l = list_all (is_port_once (module_of l.«module»)) (map port_of (drop l.port-index l.ports)) ≡ list_all (is_port_once (module_of l.«module»)) (map port_of l.ports)
