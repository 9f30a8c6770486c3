use Rattle.std.proofs.Common.{◌≡◌, ◌++◌, drop, map}
use Rattle.std.specs.Prelude.{filter}
use Rattle.cg_sv.specs.Views.{connection_of}
use Rattle.cg_topspec.specs.Nets.{numbered, gives_out, output_pins}
use Rattle.cg_topspec.specs.Top.{instance_of, block_of}
use Rattle.cg_topspec.specs.TopModule.{pin_output_connection}
use Rattle.cg_svbus.proofs.top_instances.add_pin_outputs.Given as goal

-- the connections so far, and then those of the ports that are left, are all
abbrev pub invariant-loop-io : goal.invariant-loop-io
invariant-loop-io l =
    map connection_of l.conns
    ++ map (pin_output_connection (instance_of l.top l.inst).name) (filter (λ p. gives_out p.port.dir) (numbered l.io-index (drop l.io-index (block_of l.top l.inst).desc.ios)))
    ≡ map connection_of l.fn.conns ++ map (pin_output_connection (instance_of l.top l.inst).name) (output_pins (block_of l.top l.inst))
