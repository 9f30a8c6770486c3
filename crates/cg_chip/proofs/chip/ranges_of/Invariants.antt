use Rattle.std.proofs.Common.{◌≡◌, length}
use Rattle.cg_chip.proofs.Ranged.{EachRanged}
use Rattle.cg_chip.proofs.chip.ranges_of.Given as goal

-- each crossbar so far has its ranges
abbrev pub invariant-loop-xbar : goal.invariant-loop-xbar
invariant-loop-xbar l = record { count : length l.all ≡ l.xbar; each : EachRanged l.top l.all }
