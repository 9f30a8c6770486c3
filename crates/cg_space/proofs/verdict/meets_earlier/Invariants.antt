use Rattle.cg_space.proofs.Judging.{NoneMeets}
use Rattle.cg_space.proofs.verdict.meets_earlier.Given as goal

-- no device so far meets the node
abbrev pub invariant-loop-earlier : goal.invariant-loop-earlier
invariant-loop-earlier l = NoneMeets l.top l.xbar l.to l.node l.earlier-index
