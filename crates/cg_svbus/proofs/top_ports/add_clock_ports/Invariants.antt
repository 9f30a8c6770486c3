use Rattle.std.proofs.Common.{◌≡◌, ◌++◌, drop, map}
use Rattle.cg_sv.specs.Views.{port_of}
use Rattle.cg_svspec.specs.Register.{input_port}
use Rattle.cg_topspec.specs.Nets.{clock_net}
use Rattle.cg_topspec.specs.TopModule.{clock_ports}
use Rattle.cg_svbus.proofs.top_ports.add_clock_ports.Given as goal

-- the ports so far, and then those of the sources that are left, are all ports
abbrev pub invariant-loop-source : goal.invariant-loop-source
invariant-loop-source l = map port_of l.ports ++ map (λ name. input_port 1 (clock_net name)) (drop l.source-index l.top.top.sources) ≡ map port_of l.fn.ports ++ clock_ports l.top
