use Rattle.std.proofs.Common.{◌≡◌, drop, map}
use Rattle.cg_svspec.specs.Tree.{expressions}
use Rattle.cg_sv.specs.Views.{expression_of}
use Rattle.cg_svcheck.specs.Widths.{parts_use_only}
use Rattle.cg_svcheck.proofs.fitting.+uses.Given as goal

-- what is left says what all say
abbrev pub invariant-parts_use_only-loop-part : goal.invariant-parts_use_only-loop-part
invariant-parts_use_only-loop-part g l = parts_use_only (g.N.Nets.known l.nets) (expressions (map expression_of (drop l.part-index l.parts))) ≡ parts_use_only (g.N.Nets.known l.nets) (expressions (map expression_of l.parts))
