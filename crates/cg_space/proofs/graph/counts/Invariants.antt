use Rattle.std.proofs.Common.{◌≡◌, map, take}
use Rattle.cg_space.specs.Inner.Marks.{count}
use Rattle.cg_space.proofs.graph.counts.Given as goal

abbrev pub invariant-loop-marks : goal.invariant-loop-marks
invariant-loop-marks l = l.counts ≡ map count (take l.marks-index l.all)
