use Rattle.std.proofs.Common.{drop}
use Rattle.cg_space.proofs.Tabling.{GoesOn}
use Rattle.cg_space.proofs.table.coverage_of_all.Given as goal

-- what the devices so far have, in front of what those that are left have
abbrev pub invariant-loop-device : goal.invariant-loop-device
invariant-loop-device l = GoesOn l.top l.xbar l.to (drop l.device-index l.to) l.coverage
