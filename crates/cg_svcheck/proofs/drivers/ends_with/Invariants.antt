use Rattle.std.proofs.Common.{◌≡◌, length}
use Rattle.cg_svspec.specs.WellFormed.{ends_with}
use Rattle.cg_svcheck.proofs.drivers.ends_with.Given as goal

-- the text from here on ends so where the whole does
abbrev pub invariant-loop-behind : goal.invariant-loop-behind
invariant-loop-behind l = ends_with l.rest l.end ≡ ends_with l.text l.end

abbrev pub decreases-loop-behind : goal.decreases-loop-behind
decreases-loop-behind l = length l.rest
