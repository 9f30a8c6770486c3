use Rattle.std.proofs.Common.{take}
use Rattle.cg_space.specs.Inner.Coverages.{IsCoverage}
use Rattle.cg_space.proofs.coverage.Coverage.of.Given as goal

abbrev pub invariant-loop-range : goal.invariant-loop-range
invariant-loop-range l = IsCoverage (take l.range-index l.ranges) l.coverage
