use Rattle.std.proofs.Common.{ℕ, ◌<◌, Bool}
use Rattle.cg_desc.specs.Merged.{design_of}
use Rattle.cg_merge.specs.Nodes.{Names}
use Rattle.cg_merge.proofs.ends.plain_end.Given as goal

-- the node names no interface of an instance so far
abbrev pub invariant-loop-number : goal.invariant-loop-number
invariant-loop-number l = (i : ℕ) → i < l.number → (host : Bool) × ((f : ℕ) × Names (design_of l.top) host l.node i f) → ⊥
