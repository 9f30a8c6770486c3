use Rattle.cg_finding.specs.Found.{sees}
use Rattle.cg_finding.specs.Told.{TellsFirst}
use Rattle.cg_finding.proofs.Told.{BrokenBelow}
use Rattle.cg_space.specs.Inner.Verdicts.{NodeTells}
use Rattle.cg_space.proofs.told.first_of_crossbar.Given as goal

-- the first of the nodes so far
abbrev pub invariant-loop-node : goal.invariant-loop-node
invariant-loop-node l = TellsFirst (sees l.first) (BrokenBelow (NodeTells l.top l.xbar l.verdicts) l.node)
