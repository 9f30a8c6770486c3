use Rattle.std.proofs.Common.{◌≡◌, ◌++◌, drop, codes, cond, [], map}
use Rattle.cg_svspec.specs.Tree.{expressions}
use Rattle.cg_svspec.specs.Layout.{parts_text}
use Rattle.cg_sv.specs.Views.{expression_of}
use Rattle.cg_sv.proofs.expression.+printing.Given as goal

-- what is printed, and then the parts that are left, are all parts
abbrev pub invariant-print_parts-loop-part : goal.invariant-print_parts-loop-part
invariant-print_parts-loop-part l =
    l.out ++ parts_text (cond l.first [] (codes ", ")) (expressions (map expression_of (drop l.part-index l.parts)))
    ≡ l.fn.out ++ parts_text [] (expressions (map expression_of l.parts))
