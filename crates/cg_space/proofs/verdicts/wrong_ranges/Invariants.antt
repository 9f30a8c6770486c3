use Rattle.cg_space.specs.Inner.Verdicts.{AreVerdicts, IsRangeVerdict}
use Rattle.cg_space.proofs.Numbering.{AreBelow}
use Rattle.cg_space.proofs.verdicts.wrong_ranges.Given as goal

abbrev pub invariant-loop-xbar : goal.invariant-loop-xbar
invariant-loop-xbar l = AreBelow (AreVerdicts l.top (IsRangeVerdict l.top)) l.xbar l.all
