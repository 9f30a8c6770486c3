use Rattle.std.proofs.Common.{ℕ, ◌<◌}
use Rattle.cg_desc.specs.Merged.{design_of}
use Rattle.cg_merge.specs.Nodes.{IsBefore, RepeatsIn}
use Rattle.cg_merge.proofs.interfaces.repeats_one.Given as goal

-- no instance so far has such an interface
abbrev pub invariant-loop-number : goal.invariant-loop-number
invariant-loop-number l =
    (x n : ℕ) → IsBefore (design_of l.top) x n l.before.xbars.now l.before.nodes.now → (i : ℕ) → i < l.number → RepeatsIn (design_of l.top) x n l.node i → ⊥
