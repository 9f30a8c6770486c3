-- What a crossbar's file breaks. Each rule is read where what it speaks of breaks no rule of an earlier phase.
use Rattle.std.specs.Prelude.{◌≡◌, ℕ, List, Some, None, Result, Ok, Err}
use Rattle.cg_desc.specs.Merged.{alone}
use Rattle.cg_desc.specs.Ranges.{AreRangesOf}
use Rattle.cg_desc.specs.declared.crossbar.XbarDesc.{XbarDesc}
use Rattle.cg_desc.specs.declared.fault.DescFault.{DescFault}
use Rattle.cg_finding.specs.Finding.{Finding, in_file}
use Rattle.cg_finding.specs.Rules as rules
use Rattle.cg_finding.specs.Violations.{RefusesFirst}
use Rattle.cg_hjson.specs.declared.tree.Tree.{Tree}
use Rattle.cg_xbread.specs.Violations.{Violates as BreaksDescription}
use Rattle.cg_files.specs.Files.{File, HasTree, BreaksFile}
use Rattle.cg_space.specs.Violations.{Violates as BreaksRanges}
use Rattle.cg_crossbar.specs.Stages.{Describes}
use Rattle.cg_outputs.specs.declared.out_file.OutFile.{OutFile}
use Rattle.cg_crossbar.specs.Outputs.{clash_of, written_ranges, crossbar_output}

-- ---- up to the description

-- what the file breaks as a file and a document, or else of the rules of crossbars' descriptions
pub data BreaksCrossbar (file : File) : Finding → Type 0 where
  of_file : {f : Finding} → BreaksFile file f → BreaksCrossbar file f
  of_description : {f : Finding} (t : Tree) → HasTree file t → BreaksDescription t f → BreaksCrossbar file f

-- ---- a crossbar that stands alone

-- the ranges that are written fit
abbrev pub IsSpaced : XbarDesc → Type 0
IsSpaced x = AreRangesOf x (written_ranges x)

-- what the file breaks up to the crossbar's text: the ranges that are written are those that count
pub data BreaksAlone (file : File) : Finding → Type 0 where
  description : {f : Finding} → BreaksCrossbar file f → BreaksAlone file f
  ranges : {f : Finding} (x : XbarDesc) → Describes file x → BreaksRanges (alone x) (in_file file.number f) → BreaksAlone file f
  -- a name comes twice in the module; the first that does, at the root's opener
  clash : {name : List ℕ} (x : XbarDesc) → Describes file x → IsSpaced x → clash_of x (written_ranges x) ≡ Some name → BreaksAlone file (rules.names_clash x.at name)

-- the file is that of a crossbar that breaks nothing
pub record IsGoodFile (file : File) (x : XbarDesc) : Type 0 where
  pub describes : Describes file x
  pub spaced : IsSpaced x
  pub no_clash : clash_of x (written_ranges x) ≡ None

-- the file is the text of the crossbar that this file describes
pub record IsOutputOf (file : File) (o : OutFile) : Type 0 where
  pub crossbar : XbarDesc
  pub is_good : IsGoodFile file crossbar
  pub is : o ≡ crossbar_output crossbar (written_ranges crossbar)

-- ---- what is answered

-- the crossbar that the file describes; or a refusal that names the first of all that the file breaks up to there
abbrev pub ReadsCrossbar : Result XbarDesc DescFault → File → Type 0
ReadsCrossbar (Ok x) file = Describes file x
ReadsCrossbar (Err e) file = RefusesFirst e file.number (BreaksCrossbar file)

-- a value that is right; or a refusal that names the first of all that the file breaks
abbrev pub FindsAlone : {X : Type 0} → Result X DescFault → File → (X → Type 0) → Type 0
FindsAlone (Ok x) file IsRight = IsRight x
FindsAlone (Err e) file IsRight = RefusesFirst e file.number (BreaksAlone file)
