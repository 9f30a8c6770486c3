-- The laws of a top's files.
use Rattle.std.specs.Prelude.{◌≡◌, ℕ, List}
use Rattle.cg_desc.specs.Top.{Design}
use Rattle.cg_desc.specs.declared.top.MergedTop.{MergedTop}
use Rattle.cg_desc.specs.declared.top.TopDesc.{TopDesc}
use Rattle.cg_desc.specs.declared.fault.Fault.{Fault}
use Rattle.cg_files.specs.Files.{File}
use Rattle.cg_space.specs.Violations.{NoViolation}
use Rattle.cg_design.specs.Design.{AreDesign, AreMerged, IsTop}
use Rattle.cg_design.specs.Violations.{Violates}

-- the files are of one top at most, which has one list of types
abbrev pub TopIsOne : Type 0
TopIsOne = (files : List File) (a b : TopDesc) (s t : List (List ℕ)) → IsTop files a s → IsTop files b t → (a ≡ b) × (s ≡ t)

-- and of one design at most
abbrev pub DesignIsOne : Type 0
DesignIsOne = (files : List File) (a b : Design) → AreDesign files a → AreDesign files b → a ≡ b

-- which is merged in one way
abbrev pub MergedIsOne : Type 0
MergedIsOne = (files : List File) (a b : MergedTop) → AreMerged files a → AreMerged files b → a ≡ b

-- Files that are merged, and whose ranges are apart, break nothing up to there.
abbrev pub MergedBreaksNothing : Type 0
MergedBreaksNothing = (files : List File) (m : MergedTop) → AreMerged files m → NoViolation m → (f : Fault) → ¬ Violates files f
