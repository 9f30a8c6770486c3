use Rattle.std.proofs.Common.{◌≡◌, drop, map}
use Rattle.cg_svspec.specs.Tree.{expressions}
use Rattle.cg_sv.specs.Views.{expression_of}
use Rattle.cg_svcheck.specs.Printing.{parts_within}
use Rattle.cg_svcheck.proofs.printing.+expressions.Given as goal

-- what the parts that are left say is what all say
abbrev pub invariant-are_printable_within-loop-part : goal.invariant-are_printable_within-loop-part
invariant-are_printable_within-loop-part l =
    parts_within l.depth (expressions (map expression_of (drop l.part-index l.parts)))
    ≡ parts_within l.depth (expressions (map expression_of l.parts))
