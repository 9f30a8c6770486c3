use Rattle.cg_space.specs.Inner.Verdicts.{AreVerdicts, IsCircleVerdict}
use Rattle.cg_space.proofs.Numbering.{AreBelow}
use Rattle.cg_space.proofs.verdicts.circles.Given as goal

abbrev pub invariant-loop-xbar : goal.invariant-loop-xbar
invariant-loop-xbar l = AreBelow (AreVerdicts l.top (IsCircleVerdict l.top)) l.xbar l.all
