-- A top with its crossbars and blocks, as its files describe them.
use Rattle.std.specs.Prelude.{◌≡◌, ℕ, ◌+◌, List, length, slice_get, Some}
use Rattle.cg_desc.specs.Ends.{CrossbarIs}
use Rattle.cg_desc.specs.Merged.{IsMerged, design_of}
use Rattle.cg_desc.specs.Top.{AreTypes, Design}
use Rattle.cg_desc.specs.declared.block.LaidBlock.{LaidBlock}
use Rattle.cg_desc.specs.declared.crossbar.XbarDesc.{XbarDesc}
use Rattle.cg_desc.specs.declared.fault.Fault.{Fault}
use Rattle.cg_desc.specs.declared.top.MergedTop.{MergedTop}
use Rattle.cg_desc.specs.declared.top.TopDesc.{TopDesc}
use Rattle.cg_desc.specs.declared.top.XbarUse.{XbarUse}
use Rattle.cg_files.specs.Files.{File, HasTree}
use Rattle.cg_hjson.specs.declared.tree.Tree.{Tree}
use Rattle.cg_merge.specs.Violations.{Violates as BreaksMerge}
use Rattle.cg_design.specs.Breaks.{DescribesBlock, DescribesCrossbar, DescribesTop}
use Rattle.cg_design.specs.Files.{FileIs, IsBlockFile, IsCrossbarFile}

-- the first of the files describes this top, whose instances have these types
pub record IsTop (files : List File) (top : TopDesc) (types : List (List ℕ)) : Type 0 where
  pub file : File
  pub first : FileIs files 0 file
  pub tree : Tree
  pub describes : DescribesTop file tree top
  pub are_types : AreTypes top.insts types

-- the files are those of the top, its crossbars and its blocks, and describe them
pub record AreDesign (files : List File) (d : Design) : Type 0 where
  pub types : List (List ℕ)
  pub top : IsTop files d.top types
  pub count : length files ≡ 1 + length d.top.xbars + length types
  pub crossbar_count : length d.xbars ≡ length d.top.xbars
  pub crossbars : (x : ℕ) (listed : XbarUse) (file : File) (xbar : XbarDesc) → IsCrossbarFile files d.top x listed file → CrossbarIs d x xbar
      → DescribesCrossbar listed.name file xbar
  pub block_count : length d.blocks ≡ length types
  pub blocks : (k : ℕ) (kind : List ℕ) (file : File) (laid : LaidBlock) → IsBlockFile files d.top types k kind file → slice_get d.blocks k ≡ Some laid
      → (t : Tree) × DescribesBlock kind file t laid

-- they fit one another, and are merged so
pub record AreMerged (files : List File) (m : MergedTop) : Type 0 where
  pub design : AreDesign files (design_of m)
  pub fit : (f : Fault) → ¬ BreaksMerge (design_of m) f
  pub merged : IsMerged m

-- the trees of the top's own file, and of the files of its blocks
pub record AreTrees (files : List File) (m : MergedTop) (tree : Tree) (trees : List Tree) : Type 0 where
  pub own : File
  pub own_is : FileIs files 0 own
  pub has_tree : HasTree own tree
  pub count : length trees ≡ length m.blocks
  pub blocks : (k : ℕ) (file : File) (t : Tree) → FileIs files (1 + length m.xbars + k) file → slice_get trees k ≡ Some t → HasTree file t
