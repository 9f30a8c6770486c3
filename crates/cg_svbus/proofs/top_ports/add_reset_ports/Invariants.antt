use Rattle.std.proofs.Common.{◌≡◌, ◌++◌, drop, map}
use Rattle.cg_sv.specs.Views.{port_of}
use Rattle.cg_svspec.specs.Register.{input_port}
use Rattle.cg_topspec.specs.Nets.{reset_net}
use Rattle.cg_topspec.specs.TopModule.{reset_ports}
use Rattle.cg_svbus.proofs.top_ports.add_reset_ports.Given as goal

-- the ports so far, and then those of the resets that are left, are all ports
abbrev pub invariant-loop-reset : goal.invariant-loop-reset
invariant-loop-reset l = map port_of l.ports ++ map (λ name. input_port 1 (reset_net name)) (drop l.reset-index l.top.top.resets) ≡ map port_of l.fn.ports ++ reset_ports l.top
