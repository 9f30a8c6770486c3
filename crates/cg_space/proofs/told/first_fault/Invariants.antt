use Rattle.cg_space.specs.Inner.Verdicts.{FaultBelow, IsFirstIfAny}
use Rattle.cg_space.proofs.told.first_fault.Given as goal

-- the first of the crossbars so far
abbrev pub invariant-loop-xbar : goal.invariant-loop-xbar
invariant-loop-xbar l = IsFirstIfAny (FaultBelow l.top l.verdicts l.xbar) l.first
