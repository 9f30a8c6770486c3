-- What the files of a top break, each by itself and together, up to the names of all that is written.
use Rattle.std.specs.Prelude.{◌≡◌, ℕ, List, Some, None, Result, Ok, Err}
use Rattle.cg_clkrst.specs.Violations.{Violates as BreaksSources}
use Rattle.cg_desc.specs.declared.block.LaidBlock.{LaidBlock}
use Rattle.cg_desc.specs.declared.crossbar.XbarDesc.{XbarDesc}
use Rattle.cg_desc.specs.declared.fault.DescFault.{DescFault}
use Rattle.cg_desc.specs.declared.fault.DescFault.TheVariants as refusal
use Rattle.cg_desc.specs.declared.fault.Fault.{Fault}
use Rattle.cg_desc.specs.declared.top.MergedTop.{MergedTop}
use Rattle.cg_files.specs.Files.{File}
use Rattle.cg_finding.specs.Finding.{in_file}
use Rattle.cg_finding.specs.Rules as rules
use Rattle.cg_finding.specs.Violations.{IsFirstFault}
use Rattle.cg_hjson.specs.declared.tree.Tree.{Tree}
use Rattle.cg_irq.specs.Violations.{Violates as BreaksNumbers}
use Rattle.cg_outputs.specs.declared.out_file.OutFile.{OutFile}
use Rattle.cg_pinmux.specs.Violations.{Violates as BreaksPins}
use Rattle.cg_space.specs.Violations.{NoViolation}
use Rattle.cg_block.specs.Outputs as block
use Rattle.cg_crossbar.specs.Outputs as crossbar
use Rattle.cg_design.specs.Design.{AreMerged}
use Rattle.cg_design.specs.Violations.{Violates as BreaksDesign}
use Rattle.cg_chip.specs.Chip.{IsChip}
use Rattle.cg_chip.specs.Outputs.{AreWritten, IsBlock, IsCrossbar, top_clash}
use Rattle.cg_chip.specs.declared.chip.Chip.{Chip}
use Rattle.cg_chip.specs.declared.chip.XbarRanges.{XbarRanges}

-- the files are merged so, and their ranges are apart
pub record IsSpaced (files : List File) (m : MergedTop) : Type 0 where
  pub merged : AreMerged files m
  pub spaced : NoViolation m

-- What the files of a top break. Numbers, sources and pins are looked at where the merged top's ranges are apart, and names that come twice
-- where all that is written is known: in the top's texts, in a crossbar's, and in a block's, each at the opener of its file's root.
pub data Violates (files : List File) : Fault → Type 0 where
  design : {f : Fault} → BreaksDesign files f → Violates files f
  numbers : {f : Fault} (m : MergedTop) → IsSpaced files m → BreaksNumbers m f → Violates files f
  sources : {f : Fault} (m : MergedTop) → IsSpaced files m → BreaksSources m f → Violates files f
  pins : {f : Fault} (m : MergedTop) → IsSpaced files m → BreaksPins m f → Violates files f
  top_names : (c : Chip) (name : List ℕ) → IsChip files c → top_clash c ≡ Some name
      → Violates files (in_file c.source.merged.top.file (rules.names_clash c.source.merged.top.at name))
  crossbar_names : (c : Chip) (x : ℕ) (xbar : XbarDesc) (ranges : XbarRanges) (name : List ℕ) → IsChip files c → IsCrossbar c x xbar ranges
      → crossbar.clash_of xbar ranges.ranges ≡ Some name → Violates files (in_file xbar.file (rules.names_clash xbar.at name))
  block_names : (c : Chip) (k : ℕ) (laid : LaidBlock) (tree : Tree) (name : List ℕ) → IsChip files c → IsBlock c k laid tree
      → block.clash_of laid ≡ Some name → Violates files (in_file laid.desc.file (rules.names_clash tree.at name))

-- ---- what is answered

-- the files break nothing up to their names, and this is computed of them
pub record IsComputed (files : List File) (c : Chip) : Type 0 where
  pub is_chip : IsChip files c
  pub unbroken : (f : Fault) → ¬ BreaksDesign files f

-- what is computed of the files; or the first of all that they break; want of memory says nothing
abbrev pub Computes : Result Chip DescFault → List File → Type 0
Computes (Ok c) files = IsComputed files c
Computes (Err (refusal.Fault f)) files = IsFirstFault (Violates files) f
Computes (Err refusal.Memory) files = Unit {0}

-- the files break nothing, and this is all that is written of them
pub record IsBuild (files : List File) (outputs : List OutFile) : Type 0 where
  pub unbroken : (f : Fault) → ¬ Violates files f
  pub chip : Chip
  pub is_chip : IsChip files chip
  pub written : AreWritten chip outputs

-- all that is written of the files; or the first of all that they break; want of memory says nothing
abbrev pub Builds : Result (List OutFile) DescFault → List File → Type 0
Builds (Ok outputs) files = IsBuild files outputs
Builds (Err (refusal.Fault f)) files = IsFirstFault (Violates files) f
Builds (Err refusal.Memory) files = Unit {0}
