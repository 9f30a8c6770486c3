use Rattle.std.proofs.Common.{◌≡◌, ◌++◌, drop, map}
use Rattle.cg_sv.specs.Views.{entry_of}
use Rattle.cg_svspec.specs.Tree.{wire}
use Rattle.cg_topspec.specs.Nets.{interrupt_net}
use Rattle.cg_topspec.specs.Top.{instance_of, block_of}
use Rattle.cg_topspec.specs.TopModule.{interrupt_wires}
use Rattle.cg_svbus.proofs.top_wires.add_interrupt_wires.Given as goal

-- the entries so far, and then those of the interrupts that are left, are all
abbrev pub invariant-loop-interrupt : goal.invariant-loop-interrupt
invariant-loop-interrupt l =
    map entry_of l.entries ++ map (λ interrupt. wire interrupt.width (interrupt_net (instance_of l.top l.inst).name interrupt)) (drop l.interrupt-index (block_of l.top l.inst).desc.intrs)
    ≡ map entry_of l.fn.entries ++ interrupt_wires l.top l.inst
