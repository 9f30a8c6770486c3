-- The laws of blocks' files.
use Rattle.std.specs.Prelude.{◌≡◌, map}
use Rattle.cg_desc.specs.declared.block.LaidBlock.{LaidBlock}
use Rattle.cg_finding.specs.Finding.{Finding}
use Rattle.cg_hjson.specs.declared.tree.Tree.{Tree}
use Rattle.cg_files.specs.Files.{File}
use Rattle.cg_outputs.specs.Outputs.{NamesDiffer}
use Rattle.cg_block.specs.Outputs.{register_output}
use Rattle.cg_block.specs.Breaks.{BreaksBlock, IsGoodFile}
use Rattle.cg_block.specs.Meaning.{BlockMeans}

-- what is written of a block that breaks nothing has its meaning
abbrev pub BlockOutputsMean : Type 0
BlockOutputsMean = (file : File) (t : Tree) (laid : LaidBlock) → IsGoodFile file t laid → BlockMeans file t laid

-- its register texts have names of their own
abbrev pub RegisterTextsDiffer : Type 0
RegisterTextsDiffer = (file : File) (t : Tree) (laid : LaidBlock) → IsGoodFile file t laid → NamesDiffer (map (register_output laid) laid.faces)

-- a file of a block that breaks nothing breaks nothing
abbrev pub GoodFileBreaksNothing : Type 0
GoodFileBreaksNothing = (file : File) (t : Tree) (laid : LaidBlock) (f : Finding) → IsGoodFile file t laid → ¬ BreaksBlock file f

-- a file is of one such block at most
abbrev pub GoodFileIsOne : Type 0
GoodFileIsOne = (file : File) (t u : Tree) (laid other : LaidBlock) → IsGoodFile file t laid → IsGoodFile file u other → (t ≡ u) × (laid ≡ other)
