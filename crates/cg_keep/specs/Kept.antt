-- A top's files with what was last built of them, and what a build of them answers and leaves.
use Rattle.std.specs.Prelude.{◌≡◌, ℕ, List, Option, Some, Result, Ok, Err}
use Rattle.cg_base.specs.Outside.{Files}
use Rattle.cg_desc.specs.declared.fault.DescFault.{DescFault}
use Rattle.cg_desc.specs.declared.fault.DescFault.TheVariants as description
use Rattle.cg_files.specs.Files.{File}
use Rattle.cg_finding.specs.Violations.{IsFirstFault}
use Rattle.cg_outputs.specs.declared.out_file.OutFile.{OutFile}
use Rattle.cg_keep.specs.declared.keep.Built.{Built}
use Rattle.cg_keep.specs.declared.keep.KeepFault.{KeepFault}
use Rattle.cg_keep.specs.declared.keep.KeepFault.TheVariants as refusal
use Rattle.cg_design.specs.Violations.{IsSourceOf}
use Rattle.cg_design.specs.declared.together.DesignSource.{DesignSource}
use Rattle.cg_keep.specs.Files.{AreFilesOf, IsBuilt, Violates}

-- the name of the top's own file, all files by their names, and what the last build that was not refused has written
pub record Kept : Type 0 where
  pub top : List ℕ
  pub files : Files
  pub last : Option Built

-- ---- answers

-- what the files of the top describe together, where they break nothing up to the ranges
pub record IsDescribed (top : List ℕ) (files : Files) (source : DesignSource) : Type 0 where
  pub own : List File
  pub are : AreFilesOf top files own
  pub is_source : IsSourceOf own source

-- what the files describe together; or the first of all that they break; want of memory says nothing
abbrev pub Describes : Result DesignSource DescFault → List ℕ → Files → Type 0
Describes (Ok source) top files = IsDescribed top files source
Describes (Err (description.Fault fault)) top files = IsFirstFault (Violates top files) fault
Describes (Err description.Memory) top files = Unit {0}

-- what is written of the files; or the first of all that they break; want of memory says nothing
abbrev pub Builds : Result (List OutFile) DescFault → List ℕ → Files → Type 0
Builds (Ok outputs) top files = IsBuilt top files outputs
Builds (Err (description.Fault fault)) top files = IsFirstFault (Violates top files) fault
Builds (Err description.Memory) top files = Unit {0}

-- ---- what is left

-- the top and the files stay
pub record Stays (before after : Kept) : Type 0 where
  pub top : after.top ≡ before.top
  pub files : after.files ≡ before.files

-- What is built is kept; and where nothing is, what was last built stays.
abbrev pub Refreshes : Kept → Kept → Result (Unit {0}) KeepFault → Type 0
Refreshes before after (Ok u) = Stays before after × ((built : Built) × (after.last ≡ Some built) × IsBuilt before.top before.files built.files)
Refreshes before after (Err (refusal.Refused fault)) = Stays before after × (after.last ≡ before.last) × IsFirstFault (Violates before.top before.files) fault
Refreshes before after (Err refusal.Memory) = Stays before after × (after.last ≡ before.last)
