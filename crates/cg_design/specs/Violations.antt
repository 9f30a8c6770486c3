-- What a top's files break, each by itself and together, up to the ranges of the merged top.
use Rattle.std.specs.Prelude.{ℕ, List, Result, Ok, Err}
use Rattle.cg_desc.specs.Top.{Design}
use Rattle.cg_desc.specs.declared.fault.DescFault.{DescFault}
use Rattle.cg_desc.specs.declared.fault.DescFault.TheVariants as refusal
use Rattle.cg_desc.specs.declared.fault.Fault.{Fault}
use Rattle.cg_desc.specs.declared.top.MergedTop.{MergedTop}
use Rattle.cg_desc.specs.declared.top.TopDesc.{TopDesc}
use Rattle.cg_desc.specs.declared.top.XbarUse.{XbarUse}
use Rattle.cg_files.specs.Files.{File}
use Rattle.cg_finding.specs.Finding.{Finding, in_file}
use Rattle.cg_finding.specs.Violations.{IsFirstFault}
use Rattle.cg_merge.specs.Violations.{Violates as BreaksMerge}
use Rattle.cg_space.specs.Violations.{Violates as BreaksSpace}
use Rattle.cg_design.specs.Breaks.{BreaksBlockFile, BreaksCrossbarFile, BreaksTopFile}
use Rattle.cg_design.specs.declared.together.DesignSource.{DesignSource}
use Rattle.cg_design.specs.Design.{AreDesign, AreMerged, AreTrees, IsTop}
use Rattle.cg_design.specs.Files.{FileIs, IsBlockFile, IsCrossbarFile}

-- What the files of a top break. The other files are judged where the top's own describes a top, all of them together where each describes
-- what it is to describe, and their ranges where they fit one another.
pub data Violates (files : List File) : Fault → Type 0 where
  top_file : (file : File) (f : Finding) → FileIs files 0 file → BreaksTopFile file f → Violates files (in_file file.number f)
  crossbar_file : (top : TopDesc) (types : List (List ℕ)) (x : ℕ) (listed : XbarUse) (file : File) (f : Finding) → IsTop files top types
      → IsCrossbarFile files top x listed file → BreaksCrossbarFile listed.name file f → Violates files (in_file file.number f)
  block_file : (top : TopDesc) (types : List (List ℕ)) (k : ℕ) (kind : List ℕ) (file : File) (f : Finding) → IsTop files top types
      → IsBlockFile files top types k kind file → BreaksBlockFile kind file f → Violates files (in_file file.number f)
  merging : (d : Design) (fault : Fault) → AreDesign files d → BreaksMerge d fault → Violates files fault
  ranges : (m : MergedTop) (fault : Fault) → AreMerged files m → BreaksSpace m fault → Violates files fault

-- ---- what is answered

-- The files break nothing up to the ranges. They are merged so, and these are the trees of the top's own file and of its blocks' files.
pub record IsSourceOf (files : List File) (source : DesignSource) : Type 0 where
  pub merged : AreMerged files source.merged
  pub trees : AreTrees files source.merged source.tree source.blocks
  pub unbroken : (f : Fault) → ¬ Violates files f

-- what the files describe together; or the first of all that they break; want of memory says nothing
abbrev pub Merges : Result DesignSource DescFault → List File → Type 0
Merges (Ok source) files = IsSourceOf files source
Merges (Err (refusal.Fault f)) files = IsFirstFault (Violates files) f
Merges (Err refusal.Memory) files = Unit {0}
