use Rattle.std.proofs.Common.{◌≡◌, ◌+◌, ◌++◌, drop, sum_by}
use Rattle.cg_desc.specs.Items.{interrupt_fields}
use Rattle.cg_expand.specs.Parts.Automatic.{hardware_of, software_of}
use Rattle.cg_expand.proofs.automatic.interrupt_fields.Given as goal

-- the fields so far, and those of the interrupts that are left, are all, and so are their bits
abbrev pub invariant-loop-interrupt : goal.invariant-loop-interrupt
invariant-loop-interrupt l = record {
  fields : l.fields ++ interrupt_fields (software_of l.reason) (hardware_of l.reason) l.lsb (drop l.interrupt-index l.interrupts)
      ≡ interrupt_fields (software_of l.reason) (hardware_of l.reason) 0 l.interrupts;
  bits : l.lsb + sum_by (λ i. i.width) (drop l.interrupt-index l.interrupts) ≡ sum_by (λ i. i.width) l.interrupts;
}
