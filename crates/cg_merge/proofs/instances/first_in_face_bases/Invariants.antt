use Rattle.cg_finding.specs.Found.{sees}
use Rattle.cg_merge.specs.Checks.{BreaksListing}
use Rattle.cg_merge.proofs.Walks.{Walked}
use Rattle.cg_merge.proofs.instances.first_in_face_bases.Given as goal

-- what those so far break
abbrev pub invariant-loop-base : goal.invariant-loop-base
invariant-loop-base l = Walked (λ k b. BreaksListing l.top l.inst.at b.space) l.inst.bases (sees l.first) l.base-index
