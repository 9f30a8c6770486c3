use Rattle.cg_desc.specs.Merged.{design_of}
use Rattle.cg_finding.specs.Found.{sees}
use Rattle.cg_merge.specs.Violations.{BreaksNode}
use Rattle.cg_merge.proofs.Walks.{Walked}
use Rattle.cg_merge.proofs.nodes.first_in_crossbar.Given as goal

-- what the nodes so far break
abbrev pub invariant-loop-number : goal.invariant-loop-number
invariant-loop-number l = Walked (BreaksNode (design_of l.top) l.xbar) l.outer.nodes (sees l.first) l.number
