use Rattle.std.proofs.Common.{◌≡◌, ◌++◌, drop, map}
use Rattle.cg_sv.specs.Views.{connection_of}
use Rattle.cg_topspec.specs.Top.{instance_of, block_of}
use Rattle.cg_topspec.specs.TopModule.{interrupt_connection}
use Rattle.cg_svbus.proofs.top_instances.add_interrupts.Given as goal

-- the connections so far, and then those of the interrupts that are left, are all
abbrev pub invariant-loop-interrupt : goal.invariant-loop-interrupt
invariant-loop-interrupt l =
    map connection_of l.conns ++ map (interrupt_connection (instance_of l.top l.inst).name) (drop l.interrupt-index (block_of l.top l.inst).desc.intrs)
    ≡ map connection_of l.fn.conns ++ map (interrupt_connection (instance_of l.top l.inst).name) (block_of l.top l.inst).desc.intrs
