use Rattle.cg_desc.specs.Merged.{design_of}
use Rattle.cg_merge.specs.Faults.{TellsFault}
use Rattle.cg_merge.proofs.FirstFaults.{ViolatesBelow}
use Rattle.cg_merge.proofs.faults.first_fault.Given as goal

-- the first of the top's file and of the crossbars so far
abbrev pub invariant-loop-number : goal.invariant-loop-number
invariant-loop-number l = TellsFault l.first (ViolatesBelow (design_of l.top) l.number)
