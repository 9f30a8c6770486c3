use Rattle.std.proofs.Common.{◌≡◌, ◌++◌, drop}
use Rattle.std.specs.Prelude.{filter}
use Rattle.cg_busspec.specs.Crossbar.{hosts, reach, is_in}
use Rattle.cg_svxbar.proofs.nodes.feeders.Given as goal

-- the hosts so far, and then those of the ones that are left, are all that connect
abbrev pub invariant-loop-host : goal.invariant-loop-host
invariant-loop-host l =
    l.feeders.items ++ filter (λ h. is_in (reach l.xbar h) l.device) (drop l.host-index (hosts l.xbar)) ≡ filter (λ h. is_in (reach l.xbar h) l.device) (hosts l.xbar)
