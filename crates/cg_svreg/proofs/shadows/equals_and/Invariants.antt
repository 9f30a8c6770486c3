use Rattle.std.proofs.Common.{◌≡◌, drop}
use Rattle.cg_sv.specs.Views.{expression_of}
use Rattle.cg_regspec.specs.RegisterModule.{equals_and}
use Rattle.cg_svreg.proofs.shadows.equals_and.Given as goal

-- the expression so far, with the tests of the fields that are left, is the whole
abbrev pub invariant-loop-field : goal.invariant-loop-field
invariant-loop-field l =
    equals_and (expression_of l.equal) l.register (drop l.field-index l.fields) ≡ equals_and (expression_of l.fn.first) l.register l.fields
