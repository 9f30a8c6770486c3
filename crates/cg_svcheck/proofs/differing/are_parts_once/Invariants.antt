use Rattle.std.proofs.Common.{◌≡◌, drop, map}
use Rattle.cg_svspec.specs.Tree.{expressions}
use Rattle.cg_sv.specs.Views.{expression_of, module_of}
use Rattle.cg_svcheck.specs.Counting.{is_driven_once, bare_pass}
use Rattle.cg_svcheck.proofs.differing.are_parts_once.Given as goal

-- what is left says what all say
abbrev pub invariant-loop-part : goal.invariant-loop-part
invariant-loop-part l = bare_pass (is_driven_once (module_of l.«module»)) (expressions (map expression_of (drop l.part-index l.parts))) ≡ bare_pass (is_driven_once (module_of l.«module»)) (expressions (map expression_of l.parts))
