use Rattle.std.proofs.Common.{◌≡◌, ◌++◌, drop, map}
use Rattle.cg_sv.specs.Views.{port_of}
use Rattle.cg_busspec.specs.CrossbarModule.{clock_port}
use Rattle.cg_svxbar.proofs.ports.add_clock_ports.Given as goal

-- the ports so far, and then those of the clocks that are left, are all ports
abbrev pub invariant-loop-clock : goal.invariant-loop-clock
invariant-loop-clock l =
    map port_of l.ports ++ map clock_port (drop l.clock-index l.clocks) ≡ map port_of l.fn.ports ++ map clock_port l.clocks
