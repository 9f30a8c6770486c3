use Rattle.cg_space.proofs.Judging.{NoHostMeets}
use Rattle.cg_space.proofs.verdict.some_host_meets.Given as goal

-- no host so far does
abbrev pub invariant-loop-host : goal.invariant-loop-host
invariant-loop-host l = NoHostMeets l.top l.xbar l.node l.host
