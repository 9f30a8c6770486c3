use Rattle.cg_svspec.specs.Printable.{AllOf}
use Rattle.cg_desc.specs.Crossbar.{IsValidCrossbar}
use Rattle.cg_rows_tops.proofs.build.Build.crossbars.Given as goal

-- those so far are valid
abbrev pub invariant-loop-one : goal.invariant-loop-one
invariant-loop-one l = AllOf IsValidCrossbar l.crossbars
