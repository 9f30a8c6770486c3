use Rattle.std.proofs.Common.{◌≡◌, drop, map}
use Rattle.cg_sv.specs.Views.{port_of}
use Rattle.cg_svspec.specs.WellFormed.{port_nets}
use Rattle.cg_svcheck.specs.Widths.{width_at}
use Rattle.cg_svcheck.proofs.widths.port_width.Given as goal

-- what is left says what all say
abbrev pub invariant-loop-port : goal.invariant-loop-port
invariant-loop-port l = width_at (port_nets (map port_of (drop l.port-index l.ports))) l.name ≡ width_at (port_nets (map port_of l.ports)) l.name
