use Rattle.cg_space.specs.Inner.Verdicts.{IsCircleVerdict}
use Rattle.cg_space.proofs.Numbering.{AreBelow}
use Rattle.cg_space.proofs.verdicts.circles_in.Given as goal

abbrev pub invariant-loop-node : goal.invariant-loop-node
invariant-loop-node l = AreBelow (IsCircleVerdict l.top l.xbar) l.node l.verdicts
