use Rattle.std.proofs.Common.{◌≡◌, drop, map}
use Rattle.cg_sv.specs.Views.{port_of}
use Rattle.cg_svspec.specs.Names.{is_among}
use Rattle.cg_svspec.specs.WellFormed.{inputs_of}
use Rattle.cg_svcheck.proofs.drivers.is_input.Given as goal

-- what is left says what all say
abbrev pub invariant-loop-port : goal.invariant-loop-port
invariant-loop-port l = is_among (inputs_of (map port_of (drop l.port-index l.ports))) l.name ≡ is_among (inputs_of (map port_of l.ports)) l.name
