use Rattle.std.proofs.Common.{◌≡◌, ◌<◌, ◌^◌, drop, map, Some}
use Rattle.cg_svspec.specs.Tree.{expressions}
use Rattle.cg_sv.specs.Views.{expression_of}
use Rattle.cg_svcheck.specs.Widths.{added, bounded, sum_of_widths}
use Rattle.cg_svcheck.proofs.widths.+widths.Given as goal

-- the sum so far, and the widths of the parts that are left, are those of all
abbrev pub invariant-sum_of_widths-loop-part : goal.invariant-sum_of_widths-loop-part
invariant-sum_of_widths-loop-part g l =
    (bounded (added (Some l.total) (sum_of_widths (g.N.Nets.widths l.nets) (expressions (map expression_of (drop l.part-index l.parts)))))
    ≡ bounded (sum_of_widths (g.N.Nets.widths l.nets) (expressions (map expression_of l.parts))))
    × (l.total < 2 ^ 32)
