-- What merging a top with its files answers.
use Rattle.std.specs.Prelude.{◌≡◌, Result, Ok, Err}
use Rattle.cg_desc.specs.Merged.{IsMerged, design_of}
use Rattle.cg_desc.specs.Top.{Design}
use Rattle.cg_desc.specs.declared.fault.DescFault.{DescFault}
use Rattle.cg_desc.specs.declared.fault.DescFault.TheVariants as refusal
use Rattle.cg_desc.specs.declared.fault.Fault.{Fault}
use Rattle.cg_desc.specs.declared.top.MergedTop.{MergedTop}
use Rattle.cg_finding.specs.Violations.{IsFirstFault}
use Rattle.cg_merge.specs.Violations.{Violates}

-- the files break no rule, and the merged top is of just these
pub record IsMergeOf (d : Design) (m : MergedTop) : Type 0 where
  pub unbroken : (f : Fault) → ¬ Violates d f
  pub files : design_of m ≡ d
  pub merged : IsMerged m

-- the files merged, where they break none of the rules; else the first that they break; want of memory says nothing
abbrev pub Merges : Result MergedTop DescFault → Design → Type 0
Merges (Ok m) d = IsMergeOf d m
Merges (Err (refusal.Fault f)) d = IsFirstFault (Violates d) f
Merges (Err refusal.Memory) d = Unit {0}
