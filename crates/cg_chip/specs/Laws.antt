-- The laws of a whole top.
use Rattle.std.specs.Prelude.{◌≡◌, List}
use Rattle.cg_desc.specs.declared.fault.Fault.{Fault}
use Rattle.cg_files.specs.Files.{File}
use Rattle.cg_outputs.specs.declared.out_file.OutFile.{OutFile}
use Rattle.cg_chip.specs.Chip.{IsChip}
use Rattle.cg_chip.specs.Meaning.{BuildMeans}
use Rattle.cg_chip.specs.Violations.{IsBuild, Violates}
use Rattle.cg_chip.specs.declared.chip.Chip.{Chip}

-- files are of one top at most, with all that is computed of it
abbrev pub ChipIsOne : Type 0
ChipIsOne = (files : List File) (a b : Chip) → IsChip files a → IsChip files b → a ≡ b

-- and there is one list at most of all that is written of them
abbrev pub BuildIsOne : Type 0
BuildIsOne = (files : List File) (xs ys : List OutFile) → IsBuild files xs → IsBuild files ys → xs ≡ ys

-- what is written of files that break nothing has its meaning
abbrev pub WhatIsWrittenMeans : Type 0
WhatIsWrittenMeans = (files : List File) (c : Chip) → IsChip files c → ((f : Fault) → ¬ Violates files f) → BuildMeans c
