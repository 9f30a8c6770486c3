use Rattle.cg_space.proofs.Tabling.{NoneSoFar}
use Rattle.cg_space.proofs.table.inner_to.Given as goal

-- no node so far is the host
abbrev pub invariant-loop-node : goal.invariant-loop-node
invariant-loop-node l = NoneSoFar l.top l.outer l.xbar l.node
