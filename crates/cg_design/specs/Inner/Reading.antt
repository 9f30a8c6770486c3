-- How the files besides a top's own are read, one after the other.
use Rattle.std.specs.Prelude.{◌≡◌, ◌⊎◌, ℕ, ◌+◌, ◌<◌, List, [], ◌∷◌, ◌++◌, length, take, drop, slice_get, Option, Some, None, Result, Ok, Err}
use Rattle.cg_desc.specs.Crossbar.{IsValidCrossbar}
use Rattle.cg_desc.specs.Merged.{IsValidLaidBlock}
use Rattle.cg_desc.specs.declared.crossbar.XbarDesc.{XbarDesc}
use Rattle.cg_desc.specs.declared.fault.DescFault.{DescFault}
use Rattle.cg_desc.specs.declared.fault.DescFault.TheVariants as refusal
use Rattle.cg_desc.specs.declared.fault.Fault.{Fault}
use Rattle.cg_desc.specs.declared.top.XbarUse.{XbarUse}
use Rattle.cg_files.specs.Files.{File, limit_of_all}
use Rattle.cg_finding.specs.Finding.{Finding, in_file}
use Rattle.cg_finding.specs.Violations.{IsFirstFault}
use Rattle.cg_merge.specs.Faults.{KeepsEarlier, TellsFault}
use Rattle.cg_design.specs.Breaks.{BreaksBlockFile, BreaksCrossbarFile, DescribesBlock, DescribesCrossbar}
use Rattle.cg_design.specs.Files.{FileIs, files_from, size_of}
use Rattle.cg_design.specs.declared.block.BlockSource.{BlockSource}
use Rattle.cg_design.specs.declared.others.Others.{Others}
use Rattle.cg_design.specs.declared.reading.Reading.{Reading}

-- ---- how many bytes stand before a file

-- a number of bytes is as it is counted, or both are above the limit of all files
abbrev pub IsCountOf : ℕ → ℕ → Type 0
IsCountOf counted exact = (counted ≡ exact) ⊎ ((limit_of_all < counted) × (limit_of_all < exact))

-- how many bytes files have together
abbrev pub sizes : List (Option (List ℕ)) → ℕ
sizes [] = 0
sizes (g ∷ gs) = size_of g + sizes gs

-- ---- a row of files

-- one of the first n files breaks this by itself, each as the file of its kind
pub record BreaksBelow {K : Type 0} (Breaks : K → File → Finding → Type 0) (kinds : List K) (files : List File) (n : ℕ) (fault : Fault) : Type 0 where
  pub number : ℕ
  pub below : number < n
  pub kind : K
  pub kind_is : slice_get kinds number ≡ Some kind
  pub file : File
  pub file_is : FileIs files number file
  pub finding : Finding
  pub breaks : Breaks kind file finding
  pub is : fault ≡ in_file file.number finding

-- each of the first n files describes its item, as the file of its kind
pub record AreDescribed {K A : Type 0} (Describes : K → File → A → Type 0) (kinds : List K) (files : List File) (n : ℕ) (items : List A) : Type 0 where
  pub count : length items ≡ n
  pub each : (i : ℕ) (kind : K) (file : File) (x : A) → slice_get kinds i ≡ Some kind → FileIs files i file → slice_get items i ≡ Some x → Describes kind file x

-- the first n files are read: the first of all that they break is told, and what they describe is found where they break nothing
pub record AreRead {K A : Type 0} (Breaks : K → File → Finding → Type 0) (Describes : K → File → A → Type 0) (kinds : List K) (files : List File) (n : ℕ) (r : Reading A) : Type 0 where
  pub told : TellsFault r.first (BreaksBelow Breaks kinds files n)
  pub described : r.first ≡ None → AreDescribed Describes kinds files n r.found

-- one more file is read, with this answer
abbrev pub Adds : {A : Type 0} → Reading A → Result A DescFault → Reading A → Type 0
Adds r (Ok x) new = (new.found ≡ r.found ++ (x ∷ [])) × (new.first ≡ r.first)
Adds r (Err (refusal.Fault f)) new = (new.found ≡ r.found) × KeepsEarlier r.first (Some f) new.first
Adds r (Err refusal.Memory) new = ⊥

-- ---- crossbars and blocks

-- what the file of a crossbar that is listed so breaks, and what it describes
abbrev pub BreaksListed : XbarUse → File → Finding → Type 0
BreaksListed listed file f = BreaksCrossbarFile listed.name file f

abbrev pub DescribesListed : XbarUse → File → XbarDesc → Type 0
DescribesListed listed file x = DescribesCrossbar listed.name file x × IsValidCrossbar x

-- what the file of a block of this type describes
abbrev pub DescribesTyped : List ℕ → File → BlockSource → Type 0
DescribesTyped kind file s = DescribesBlock kind file s.tree s.laid × IsValidLaidBlock s.laid

-- the files of crossbars are read, and those of blocks
abbrev pub AreCrossbarsRead : List XbarUse → List File → ℕ → Reading XbarDesc → Type 0
AreCrossbarsRead listed files n r = AreRead BreaksListed DescribesListed listed files n r

abbrev pub AreBlocksRead : List (List ℕ) → List File → ℕ → Reading BlockSource → Type 0
AreBlocksRead types files n r = AreRead BreaksBlockFile DescribesTyped types files n r

-- ---- both together

-- of the files behind a top's own, those of its crossbars, and those of its types
abbrev pub crossbar_files : ℕ → ℕ → List (Option (List ℕ)) → List File
crossbar_files n before given = files_from 1 before (take n given)

abbrev pub block_files : ℕ → ℕ → List (Option (List ℕ)) → List File
block_files n before given = files_from (1 + n) (before + sizes (take n given)) (drop n given)

-- one of the crossbars' files breaks this, or one of the blocks'
abbrev pub BreaksOther : List XbarUse → List (List ℕ) → List File → List File → Fault → Type 0
BreaksOther listed types crossbars blocks fault =
    BreaksBelow BreaksListed listed crossbars (length listed) fault ⊎ BreaksBelow BreaksBlockFile types blocks (length types) fault

-- what all of these files describe; or the first that they break by themselves; want of memory says nothing
abbrev pub ReadsOthers : Result Others DescFault → List XbarUse → List (List ℕ) → List File → List File → Type 0
ReadsOthers (Ok o) listed types crossbars blocks =
    AreDescribed DescribesListed listed crossbars (length listed) o.crossbars × AreDescribed DescribesTyped types blocks (length types) o.blocks
ReadsOthers (Err (refusal.Fault f)) listed types crossbars blocks = IsFirstFault (BreaksOther listed types crossbars blocks) f
ReadsOthers (Err refusal.Memory) listed types crossbars blocks = Unit {0}
