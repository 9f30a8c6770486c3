use Rattle.std.proofs.Common.{◌-◌}
use Rattle.cg_space.proofs.Sharing.{Between}
use Rattle.cg_space.proofs.shared.first_shared.Given as goal

-- the least place stands between the two
abbrev pub invariant-loop-low : goal.invariant-loop-low
invariant-loop-low l = Between l.extents.items l.low l.high

abbrev pub decreases-loop-low : goal.decreases-loop-low
decreases-loop-low l = l.high - l.low
