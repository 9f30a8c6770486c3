-- What is written of a top, file by file as it is made, and the first name that comes twice, as it is found.
use Rattle.std.specs.Prelude.{◌≡◌, ℕ, List, [], ◌∷◌, ◌++◌, Option, Some, None, option_map, length, slice_get, Result, Ok, Err}
use Rattle.cg_desc.specs.Crossbar.{IsValidCrossbar}
use Rattle.cg_desc.specs.Merged.{IsValidLaidBlock}
use Rattle.cg_desc.specs.Ranges.{AreRangesOf}
use Rattle.cg_desc.specs.declared.block.LaidBlock.{LaidBlock}
use Rattle.cg_desc.specs.declared.crossbar.XbarDesc.{XbarDesc}
use Rattle.cg_desc.specs.declared.fault.DescFault.{DescFault}
use Rattle.cg_desc.specs.declared.fault.DescFault.TheVariants as refusal
use Rattle.cg_desc.specs.declared.fault.Fault.{Fault}
use Rattle.cg_done.specs.Completed.{IsReadTop}
use Rattle.cg_files.specs.Files.{File, HasTree}
use Rattle.cg_finding.specs.Finding.{in_file}
use Rattle.cg_finding.specs.Rules as rules
use Rattle.cg_hjson.specs.declared.tree.Tree.{Tree}
use Rattle.cg_outputs.specs.declared.out_file.OutFile.{OutFile}
use Rattle.cg_topread.specs.Described.{top_of}
use Rattle.cg_topspec.specs.Fits.{FitsTop}
use Rattle.cg_topspec.specs.WellFormed.{HasFewBits}
use Rattle.cg_block.specs.Outputs as block
use Rattle.cg_block.specs.Stages.{IsLaidOutAs}
use Rattle.cg_crossbar.specs.Outputs as crossbar
use Rattle.cg_chip.specs.Outputs.{completed_top, top_clash, top_header, top_text}
use Rattle.cg_chip.specs.declared.chip.Chip.{Chip}
use Rattle.cg_chip.specs.declared.chip.XbarRanges.{XbarRanges}

-- ---- the texts, as their files are listed

-- the texts of crossbars with their ranges
abbrev pub crossbar_texts : List XbarDesc → List XbarRanges → List OutFile
crossbar_texts [] rs = []
crossbar_texts (x ∷ xs) [] = []
crossbar_texts (x ∷ xs) (r ∷ rs) = crossbar.crossbar_output x r.ranges ∷ crossbar_texts xs rs

-- the texts of blocks with their trees
abbrev pub block_texts : List LaidBlock → List Tree → List OutFile
block_texts [] ts = []
block_texts (b ∷ bs) [] = []
block_texts (b ∷ bs) (t ∷ ts) = block.block_files t b ++ block_texts bs ts

-- all texts of a top
abbrev pub own_texts : Chip → List OutFile
own_texts c = top_text c ∷ top_header c ∷ completed_top c ∷ []

unfoldable pub texts_of : Chip → List OutFile
texts_of c =
    own_texts c
    ++ (crossbar_texts c.source.merged.xbars c.ranges ++ block_texts c.source.merged.blocks c.source.blocks)

-- ---- the first name that comes twice

abbrev pub or_later : Option Fault → Option Fault → Option Fault
or_later None later = later
or_later (Some fault) later = Some fault

-- in the top's texts, in those of a crossbar, and in those of a block, in its file
abbrev pub top_fault : Chip → Option Fault
top_fault c = option_map (λ name. in_file c.source.merged.top.file (rules.names_clash c.source.merged.top.at name)) (top_clash c)

abbrev pub crossbar_fault : XbarDesc → XbarRanges → Option Fault
crossbar_fault x r = option_map (λ name. in_file x.file (rules.names_clash x.at name)) (crossbar.clash_of x r.ranges)

abbrev pub block_fault : LaidBlock → Tree → Option Fault
block_fault b t = option_map (λ name. in_file b.desc.file (rules.names_clash t.at name)) (block.clash_of b)

-- in the first of these crossbars that has one, and in the first of these blocks
abbrev pub crossbars_fault : List XbarDesc → List XbarRanges → Option Fault
crossbars_fault [] rs = None
crossbars_fault (x ∷ xs) [] = None
crossbars_fault (x ∷ xs) (r ∷ rs) = or_later (crossbar_fault x r) (crossbars_fault xs rs)

abbrev pub blocks_fault : List LaidBlock → List Tree → Option Fault
blocks_fault [] ts = None
blocks_fault (b ∷ bs) [] = None
blocks_fault (b ∷ bs) (t ∷ ts) = or_later (block_fault b t) (blocks_fault bs ts)

-- in all that is written of a top
unfoldable pub names_fault : Chip → Option Fault
names_fault c =
    or_later (top_fault c) (or_later (crossbars_fault c.source.merged.xbars c.ranges) (blocks_fault c.source.merged.blocks c.source.blocks))

-- an answer where nothing is found, or a refusal by what is found; want of memory says nothing
abbrev pub Tells : {X : Type 0} → Result X DescFault → Option Fault → Type 0
Tells (Ok x) found = found ≡ None
Tells (Err (refusal.Fault fault)) found = found ≡ Some fault
Tells (Err refusal.Memory) found = Unit {0}

-- ---- what a text is made of

-- each crossbar is valid, and its ranges fit
abbrev pub AllFit : List XbarDesc → List XbarRanges → Type 0
AllFit xs rs = (x : ℕ) (xbar : XbarDesc) (ranges : XbarRanges) → slice_get xs x ≡ Some xbar → slice_get rs x ≡ Some ranges → IsValidCrossbar xbar × AreRangesOf xbar ranges.ranges

-- the block is valid, and this is the tree of the file that describes it
pub record IsDescribed (laid : LaidBlock) (tree : Tree) : Type 0 where
  pub valid : IsValidLaidBlock laid
  pub file : File
  pub has_tree : HasTree file tree
  pub laid_out : IsLaidOutAs file.number tree laid

abbrev pub AreDescribed : List LaidBlock → List Tree → Type 0
AreDescribed bs ts = (k : ℕ) (laid : LaidBlock) (tree : Tree) → slice_get bs k ≡ Some laid → slice_get ts k ≡ Some tree → IsDescribed laid tree

-- a top, of which texts can be made
pub record HasTexts (c : Chip) : Type 0 where
  pub fits : FitsTop c.source.merged c.irq c.ties c.pins
  pub few : HasFewBits c.irq c.pins
  pub read : IsReadTop c.source.tree
  pub described : c.source.merged.top ≡ top_of c.source.merged.top.file c.source.tree
  pub ranges_count : length c.ranges ≡ length c.source.merged.xbars
  pub ranges : AllFit c.source.merged.xbars c.ranges
  pub trees_count : length c.source.blocks ≡ length c.source.merged.blocks
  pub blocks : AreDescribed c.source.merged.blocks c.source.blocks
