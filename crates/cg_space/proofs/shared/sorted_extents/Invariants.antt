use Rattle.cg_space.proofs.Sharing.{Collected}
use Rattle.cg_space.proofs.shared.sorted_extents.Given as goal

-- the extents of the ranges so far
abbrev pub invariant-loop-place : goal.invariant-loop-place
invariant-loop-place l = Collected l.ranges l.place l.extents.items
