use Rattle.std.proofs.Common.{◌≡◌, take}
use Rattle.cg_desc.specs.Merged.{all_outside}
use Rattle.cg_merge.proofs.one.all_outside.Given as goal

-- the nodes so far are outside
abbrev pub invariant-loop-node : goal.invariant-loop-node
invariant-loop-node l = l.ends ≡ all_outside (take l._node-index l.nodes)
