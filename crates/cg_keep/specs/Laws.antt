-- The laws of a top's files by their names.
use Rattle.std.specs.Prelude.{◌≡◌, ℕ, List, Option}
use Rattle.cg_base.specs.Outside.{Files}
use Rattle.cg_outputs.specs.Outputs.{NamesDiffer}
use Rattle.cg_outputs.specs.declared.out_file.OutFile.{OutFile}
use Rattle.cg_desc.specs.declared.fault.Fault.{Fault}
use Rattle.cg_keep.specs.Files.{AreWanted, BuiltMeans, IsBuilt, Violates}

-- one list of names is wanted
abbrev pub WantedAreOne : Type 0
WantedAreOne = (own : Option (List ℕ)) (top : List ℕ) (names others : List (List ℕ)) → AreWanted own top names → AreWanted own top others → names ≡ others

-- one list of outputs is built, and where one is nothing is broken
abbrev pub BuiltIsOne : Type 0
BuiltIsOne = (top : List ℕ) (files : Files) (xs ys : List OutFile) → IsBuilt top files xs → IsBuilt top files ys → xs ≡ ys

abbrev pub BuiltBreaksNothing : Type 0
BuiltBreaksNothing = (top : List ℕ) (files : Files) (outputs : List OutFile) (f : Fault) → IsBuilt top files outputs → ¬ Violates top files f

-- no two of the files that are built have one name
abbrev pub BuiltNamesDiffer : Type 0
BuiltNamesDiffer = (top : List ℕ) (files : Files) (outputs : List OutFile) → IsBuilt top files outputs → NamesDiffer outputs

-- what is built has its meaning
abbrev pub WhatIsBuiltMeans : Type 0
WhatIsBuiltMeans = (top : List ℕ) (files : Files) (outputs : List OutFile) → IsBuilt top files outputs → BuiltMeans top files outputs
