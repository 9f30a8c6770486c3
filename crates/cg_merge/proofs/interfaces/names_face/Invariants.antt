use Rattle.std.proofs.Common.{ℕ, ◌<◌, false}
use Rattle.cg_desc.specs.Merged.{design_of}
use Rattle.cg_merge.specs.Nodes.{Names}
use Rattle.cg_merge.proofs.interfaces.names_face.Given as goal

-- no instance so far has such an interface
abbrev pub invariant-loop-number : goal.invariant-loop-number
invariant-loop-number l = (i : ℕ) → i < l.number → (f : ℕ) × Names (design_of l.top) false l.node i f → ⊥
