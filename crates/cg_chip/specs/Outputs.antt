-- What is written of a top: the texts of the top, of its crossbars and of its blocks, and the manifest of all these.
use Rattle.std.specs.Prelude.{◌≡◌, ℕ, List, [], ◌∷◌, ◌++◌, codes, slice_get, Option, Some}
use Rattle.cg_svspec.specs.Layout.{module_text}
use Rattle.cg_svspec.specs.Names.{Among, first_repeat}
use Rattle.cg_desc.specs.declared.block.LaidBlock.{LaidBlock}
use Rattle.cg_desc.specs.declared.block.LaidFace.{LaidFace}
use Rattle.cg_desc.specs.declared.crossbar.XbarDesc.{XbarDesc}
use Rattle.cg_hjson.specs.declared.tree.Tree.{Tree}
use Rattle.cg_block.specs.Outputs as block
use Rattle.cg_crossbar.specs.Outputs as crossbar
use Rattle.cg_done.specs.Completed.{completed_top_text}
use Rattle.cg_manifest.specs.Manifest.{manifest_of}
use Rattle.cg_outputs.specs.Outputs.{AreOutputs}
use Rattle.cg_outputs.specs.declared.out_file.OutFile.{OutFile}
use Rattle.cg_tophdr.specs.TopHeader.{top_header_names, top_header_text}
use Rattle.cg_topspec.specs.Clashes.{clash_lists, first_clash, or_else}
use Rattle.cg_topspec.specs.TopModule.{top_module, top_module_name}
use Rattle.cg_chip.specs.declared.chip.Chip.{Chip}
use Rattle.cg_chip.specs.declared.chip.XbarRanges.{XbarRanges}

-- ---- names

-- the first name that stands twice in one of the lists of names of the top's texts, or else in its header
abbrev pub top_clash : Chip → Option (List ℕ)
top_clash c =
    or_else (first_clash (clash_lists c.source.merged c.irq c.ties c.pins)) (first_repeat (top_header_names c.source.merged c.irq c.pins))

-- ---- the top's own texts

abbrev pub top_file : Chip → List ℕ → List ℕ → OutFile
top_file c ending bytes = record { name = top_module_name c.source.merged ++ ending; bytes = bytes }

-- its module, its header, and its completed description
abbrev pub top_text : Chip → OutFile
top_text c = top_file c (codes ".sv") (module_text (top_module c.source.merged c.irq c.ties c.pins))

abbrev pub top_header : Chip → OutFile
top_header c = top_file c (codes ".h") (top_header_text c.source.merged c.irq c.pins)

abbrev pub completed_top : Chip → OutFile
completed_top c = top_file c (codes ".gen.hjson") (completed_top_text c.source.tree)

-- ---- all texts

-- crossbar x is this one, with these ranges
pub record IsCrossbar (c : Chip) (x : ℕ) (xbar : XbarDesc) (ranges : XbarRanges) : Type 0 where
  pub is : slice_get c.source.merged.xbars x ≡ Some xbar
  pub ranges_are : slice_get c.ranges x ≡ Some ranges

-- block k is this one, described by this tree
pub record IsBlock (c : Chip) (k : ℕ) (laid : LaidBlock) (tree : Tree) : Type 0 where
  pub is : slice_get c.source.merged.blocks k ≡ Some laid
  pub tree_is : slice_get c.source.blocks k ≡ Some tree

-- a file that is written, but for the manifest
pub data IsText (c : Chip) : OutFile → Type 0 where
  of_top : IsText c (top_text c)
  header_of_top : IsText c (top_header c)
  completed_of_top : IsText c (completed_top c)
  of_crossbar : (x : ℕ) (xbar : XbarDesc) (ranges : XbarRanges) → IsCrossbar c x xbar ranges → IsText c (crossbar.crossbar_output xbar ranges.ranges)
  header_of_block : (k : ℕ) (laid : LaidBlock) (tree : Tree) → IsBlock c k laid tree → IsText c (block.header_output laid)
  completed_block : (k : ℕ) (laid : LaidBlock) (tree : Tree) → IsBlock c k laid tree → IsText c (block.completed_output tree laid)
  of_interface : (k : ℕ) (laid : LaidBlock) (tree : Tree) (face : LaidFace) → IsBlock c k laid tree → Among face laid.faces → IsText c (block.register_output laid face)

-- All that is written: the texts, in the order of their names, and the manifest of them behind.
pub record AreWritten (c : Chip) (outputs : List OutFile) : Type 0 where
  pub texts : List OutFile
  pub are_texts : AreOutputs (IsText c) texts
  pub with_manifest : outputs ≡ texts ++ manifest_of c.source.merged.top.name texts ∷ []
