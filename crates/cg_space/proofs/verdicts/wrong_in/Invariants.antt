use Rattle.cg_space.specs.Inner.Verdicts.{IsRangeVerdict}
use Rattle.cg_space.proofs.Numbering.{AreBelow}
use Rattle.cg_space.proofs.verdicts.wrong_in.Given as goal

abbrev pub invariant-loop-node : goal.invariant-loop-node
invariant-loop-node l = AreBelow (IsRangeVerdict l.top l.xbar) l.node l.verdicts
