use Rattle.std.proofs.Common.{◌≡◌, ◌++◌, drop, map}
use Rattle.std.specs.Prelude.{filter}
use Rattle.cg_sv.specs.Views.{entry_of}
use Rattle.cg_svspec.specs.Tree.{wire}
use Rattle.cg_topspec.specs.Nets.{pin_output_net, gives_out, numbered}
use Rattle.cg_topspec.specs.Top.{instance_of, block_of}
use Rattle.cg_topspec.specs.TopModule.{pin_output_wires}
use Rattle.cg_svbus.proofs.top_wires.add_pin_output_wires.Given as goal

-- the entries so far, and then those of the ports that are left, are all
abbrev pub invariant-loop-port : goal.invariant-loop-port
invariant-loop-port l =
    map entry_of l.entries
    ++ map (λ p. wire p.port.width (pin_output_net (instance_of l.top l.inst).name p.port)) (filter (λ p. gives_out p.port.dir) (numbered l.port-index (drop l.port-index (block_of l.top l.inst).desc.ios)))
    ≡ map entry_of l.fn.entries ++ pin_output_wires l.top l.inst
