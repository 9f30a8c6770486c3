-- What a build of a top's files answers.
use Rattle.std.specs.Prelude.{ℕ, List, [], slice_get, Option, Some, None}
use Rattle.std.specs.FinMap as fin
use Rattle.cg_base.specs.Outside.{Files}
use Rattle.cg_desc.specs.FaultText.{fault_line}
use Rattle.cg_desc.specs.declared.fault.Fault.{Fault}
use Rattle.cg_finding.specs.Violations.{IsFirstFault}
use Rattle.cg_outputs.specs.declared.out_file.OutFile.{OutFile}
use Rattle.cg_keep.specs.Files.{AreWanted, IsBuilt, Violates}
use Rattle.cg_deeds.specs.Told.{line}

-- all that is written; or the first of all that the files break, with the names of the build's files
pub data Answer : Type 0 where
  builds : (outputs : List OutFile) → Answer
  refuses : (names : List (List ℕ)) → (fault : Fault) → Answer

-- this is what a build of the files answers
abbrev pub Answers : (top : List ℕ) → Files → Answer → Type 0
Answers top files (builds outputs) = IsBuilt top files outputs
Answers top files (refuses names fault) = AreWanted (fin.get files top) top names × IsFirstFault (Violates top files) fault

-- ---- the line of a refusal

-- a name, where there is one
abbrev pub name_or_none : Option (List ℕ) → List ℕ
name_or_none (Some name) = name
name_or_none None = []

-- the name of the file of this number
abbrev pub name_of_file : List (List ℕ) → ℕ → List ℕ
name_of_file names n = name_or_none (slice_get names n)

-- the fault's line, with the name of its file
abbrev pub refused_line : List (List ℕ) → Fault → List ℕ
refused_line names fault = line (fault_line (name_of_file names fault.file) fault)
