use Rattle.cg_desc.specs.Merged.{design_of}
use Rattle.cg_merge.specs.NodeEnds.{AreEndsOf}
use Rattle.cg_merge.proofs.NodeEnds.{SoFar}
use Rattle.cg_merge.proofs.ends.ends_of.Given as goal

-- the crossbars so far have the ends of their nodes
abbrev pub invariant-loop-outer : goal.invariant-loop-outer
invariant-loop-outer l = SoFar (AreEndsOf (design_of l.top)) l.top.xbars l.ends l.outer-index
