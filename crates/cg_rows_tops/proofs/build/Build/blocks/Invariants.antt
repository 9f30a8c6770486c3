use Rattle.cg_svspec.specs.Printable.{AllOf}
use Rattle.cg_desc.specs.Merged.{IsValidLaidBlock}
use Rattle.cg_rows_tops.proofs.build.Build.blocks.Given as goal

-- those so far are valid
abbrev pub invariant-loop-kind : goal.invariant-loop-kind
invariant-loop-kind l = AllOf IsValidLaidBlock l.blocks
