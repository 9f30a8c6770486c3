use Rattle.cg_desc.specs.Merged.{design_of}
use Rattle.cg_finding.specs.Found.{sees}
use Rattle.cg_merge.specs.Violations.{BreaksInstance}
use Rattle.cg_merge.proofs.Walks.{Walked}
use Rattle.cg_merge.proofs.instances.first_in_instances.Given as goal

-- what those so far break
abbrev pub invariant-loop-number : goal.invariant-loop-number
invariant-loop-number l = Walked (BreaksInstance (design_of l.top)) l.top.top.insts (sees l.first) l.number
