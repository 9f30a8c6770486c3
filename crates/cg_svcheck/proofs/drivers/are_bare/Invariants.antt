use Rattle.std.proofs.Common.{◌≡◌, drop, map}
use Rattle.cg_svspec.specs.Tree.{expressions}
use Rattle.cg_sv.specs.Views.{expression_of}
use Rattle.cg_svcheck.specs.Counting.{all_bare}
use Rattle.cg_svcheck.proofs.drivers.are_bare.Given as goal

-- what is left says what all say
abbrev pub invariant-loop-part : goal.invariant-loop-part
invariant-loop-part l = all_bare (expressions (map expression_of (drop l.part-index l.parts))) ≡ all_bare (expressions (map expression_of l.parts))
