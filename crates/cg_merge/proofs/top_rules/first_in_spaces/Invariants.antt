use Rattle.cg_desc.specs.Merged.{design_of}
use Rattle.cg_finding.specs.Found.{sees}
use Rattle.cg_merge.specs.Violations.{BreaksSpace}
use Rattle.cg_merge.proofs.Walks.{Walked}
use Rattle.cg_merge.proofs.top_rules.first_in_spaces.Given as goal

-- what those so far break
abbrev pub invariant-loop-number : goal.invariant-loop-number
invariant-loop-number l = Walked (BreaksSpace (design_of l.top)) l.top.top.spaces (sees l.first) l.number
