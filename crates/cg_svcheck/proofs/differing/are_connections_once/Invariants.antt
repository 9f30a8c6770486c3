use Rattle.std.proofs.Common.{◌≡◌, drop, map}
use Rattle.cg_svspec.specs.WellFormed.{inputs_of}
use Rattle.cg_sv.specs.Views.{port_of, connection_of, module_of}
use Rattle.cg_svcheck.specs.Counting.{is_driven_once, connections_pass}
use Rattle.cg_svcheck.proofs.differing.are_connections_once.Given as goal

-- what is left says what all say
abbrev pub invariant-loop-conn : goal.invariant-loop-conn
invariant-loop-conn l = connections_pass (inputs_of (map port_of l.«module».ports)) l.instance (is_driven_once (module_of l.«module»)) (map connection_of (drop l.conn-index l.conns)) ≡ connections_pass (inputs_of (map port_of l.«module».ports)) l.instance (is_driven_once (module_of l.«module»)) (map connection_of l.conns)
