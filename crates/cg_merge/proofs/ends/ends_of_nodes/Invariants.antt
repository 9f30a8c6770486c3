use Rattle.std.proofs.Common.{ℕ}
use Rattle.cg_desc.specs.Ends.{CrossbarIs, StandsFor}
use Rattle.cg_desc.specs.Merged.{design_of}
use Rattle.cg_merge.proofs.NodeEnds.{SoFar}
use Rattle.cg_merge.proofs.ends.ends_of_nodes.Given as goal

-- the nodes so far have their ends
abbrev pub invariant-loop-node : goal.invariant-loop-node
invariant-loop-node l = (x : ℕ) → CrossbarIs (design_of l.top) x l.outer → SoFar (λ n node e. StandsFor (design_of l.top) x node e) l.outer.nodes l.ends l.node-index
