use Rattle.std.proofs.Common.{◌≡◌, drop, map}
use Rattle.cg_svspec.specs.Tree.{expressions}
use Rattle.cg_svspec.specs.Value.{eval_parts}
use Rattle.cg_sv.specs.Views.{expression_of}
use Rattle.cg_sveval.specs.Lookups.{value_in}
use Rattle.cg_sveval.proofs.expression.+evaluating.Given as goal

-- the value of the parts from this place on
abbrev pub invariant-parts_value-loop-place : goal.invariant-parts_value-loop-place
invariant-parts_value-loop-place l = l.found.items ≡ eval_parts (value_in l.known) (expressions (map expression_of (drop l.place l.parts)))
