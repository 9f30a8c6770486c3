use Rattle.cg_space.proofs.Sharing.{Swept}
use Rattle.cg_space.proofs.shared.meet.Given as goal

-- what the sweep knows of the extents so far
abbrev pub invariant-loop-extent : goal.invariant-loop-extent
invariant-loop-extent l = Swept l.extents l.count l.extent-index l.end
