-- What the files of a top are, what they break, and what is built of them, by their names.
use Rattle.std.specs.Prelude.{◌≡◌, ℕ, List, [], ◌∷◌, map, Option}
use Rattle.std.specs.FinMap as fin
use Rattle.cg_base.specs.Outside.{Files}
use Rattle.cg_desc.specs.Top.{AreTypes}
use Rattle.cg_desc.specs.declared.fault.Fault.{Fault}
use Rattle.cg_desc.specs.declared.top.TopDesc.{TopDesc}
use Rattle.cg_files.specs.Files.{File}
use Rattle.cg_finding.specs.Finding.{Finding}
use Rattle.cg_hjson.specs.declared.tree.Tree.{Tree}
use Rattle.cg_outputs.specs.declared.out_file.OutFile.{OutFile}
use Rattle.cg_design.specs.Breaks.{BreaksTopFile, DescribesTop}
use Rattle.cg_design.specs.Files.{given_file, named_files, numbered}
use Rattle.cg_chip.specs.Chip.{IsChip}
use Rattle.cg_chip.specs.Meaning.{BuildMeans}
use Rattle.cg_chip.specs.Outputs.{AreWritten}
use Rattle.cg_chip.specs.Violations.{IsBuild}
use Rattle.cg_chip.specs.declared.chip.Chip.{Chip}
use Rattle.cg_chip.specs.Violations as chip

-- The names of the files of a build, in their order, by what there is of the top's own file: itself, where it breaks a rule by itself; and else
-- the files of its crossbars and its blocks behind it. A file that is named twice stands there twice.
pub data AreWanted (own : Option (List ℕ)) (top : List ℕ) : List (List ℕ) → Type 0 where
  top_alone : (f : Finding) → BreaksTopFile (given_file 0 0 own) f → AreWanted own top (top ∷ [])
  all : (tree : Tree) (description : TopDesc) (types : List (List ℕ)) → DescribesTop (given_file 0 0 own) tree description → AreTypes description.insts types
      → AreWanted own top (top ∷ named_files description types)

-- these files, as they are among others
abbrev pub files_named : Files → List (List ℕ) → List File
files_named files names = numbered (map (fin.get files) names)

-- these are the files of the build of a top
pub record AreFilesOf (top : List ℕ) (files : Files) (own : List File) : Type 0 where
  pub names : List (List ℕ)
  pub wanted : AreWanted (fin.get files top) top names
  pub are : own ≡ files_named files names

-- the files of the top break this rule
pub record Violates (top : List ℕ) (files : Files) (fault : Fault) : Type 0 where
  pub own : List File
  pub are : AreFilesOf top files own
  pub breaks : chip.Violates own fault

-- the files of the top break nothing, and this is all that is written of them
pub record IsBuilt (top : List ℕ) (files : Files) (outputs : List OutFile) : Type 0 where
  pub own : List File
  pub are : AreFilesOf top files own
  pub build : IsBuild own outputs

-- what is written of the files means what the top says: every access of every host reaches what the flat address map says, and the rest
pub record BuiltMeans (top : List ℕ) (files : Files) (outputs : List OutFile) : Type 0 where
  pub own : List File
  pub are : AreFilesOf top files own
  pub chip : Chip
  pub is_chip : IsChip own chip
  pub written : AreWritten chip outputs
  pub means : BuildMeans chip
