use Rattle.std.proofs.Common.{◌≡◌, ◌≤◌, ◌+◌, drop, map, min}
use Rattle.cg_svspec.specs.Tree.{expressions}
use Rattle.cg_sv.specs.Views.{expression_of}
use Rattle.cg_svcheck.specs.Counting.{bare_count}
use Rattle.cg_svcheck.proofs.drivers.bare_count.Given as goal

-- the count so far, and what is left, are all
abbrev pub invariant-loop-part : goal.invariant-loop-part
invariant-loop-part l = (min 2 (l.total + bare_count l.name (expressions (map expression_of (drop l.part-index l.parts)))) ≡ min 2 (bare_count l.name (expressions (map expression_of l.parts)))) × (l.total ≤ 2)
