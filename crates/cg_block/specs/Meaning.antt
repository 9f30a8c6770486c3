-- What the files that are written of a block mean.
use Rattle.std.specs.Prelude.{◌≡◌, ◌≤◌, ℕ, ◌+◌, List, [], ◌∷◌, map, length}
use Rattle.cg_svspec.specs.Names.{Among}
use Rattle.cg_svspec.specs.Stands.{Stands}
use Rattle.cg_svspec.specs.Tree.{Module}
use Rattle.cg_desc.specs.declared.block.LaidBlock.{LaidBlock}
use Rattle.cg_desc.specs.declared.block.LaidFace.{LaidFace}
use Rattle.cg_finding.specs.Finding.{Finding}
use Rattle.cg_hjson.specs.declared.tree.Tree.{Tree}
use Rattle.cg_regspec.specs.Meaning.{RegisterMeans}
use Rattle.cg_hdrspec.specs.Meaning.{HeaderMeans}
use Rattle.cg_jsonspec.specs.ReadsBack.{ReadsBack}
use Rattle.cg_blkdone.specs.Full.{full_block}
use Rattle.cg_files.specs.Files.{File, limit, limit_of_all, some_file}
use Rattle.cg_block.specs.Outputs.{module_name_of, register_output, header_output, completed_output}
use Rattle.cg_block.specs.Breaks.{BreaksBlock, IsGoodFile}

-- The text stands for one module, of the interface's name, that acts as the interface's register block: its accesses reach its
-- registers and windows at their offsets, and change its fields by their access kinds.
pub record RegisterTextMeans (laid : LaidBlock) (face : LaidFace) (text : List ℕ) : Type 0 where
  pub module_of_text : Module
  pub stands : Stands text (module_of_text ∷ [])
  pub acts : RegisterMeans (module_name_of laid face) module_of_text face

-- the same files are written of both blocks, byte for byte
pub record WritesSame (t : Tree) (laid : LaidBlock) (u : Tree) (other : LaidBlock) : Type 0 where
  pub registers : map (register_output other) other.faces ≡ map (register_output laid) laid.faces
  pub header : header_output other ≡ header_output laid
  pub completed : completed_output u other ≡ completed_output t laid

-- with this text in place of the file there is nothing broken, and the same is written
pub record BuildsSame (file : File) (t : Tree) (laid : LaidBlock) (text : List ℕ) : Type 0 where
  pub no_fault : (f : Finding) → ¬ BreaksBlock (some_file file.number file.before text) f
  pub tree : Tree
  pub other : LaidBlock
  pub is_good : IsGoodFile (some_file file.number file.before text) tree other
  pub same : WritesSame t laid tree other

-- The text reads back as the block's description with everything said. In place of its source it gives the same files, where it is not
-- too large itself.
pub record CompletedMeans (file : File) (t : Tree) (laid : LaidBlock) (text : List ℕ) : Type 0 where
  pub reads_back : ReadsBack text (full_block t)
  pub again : length text ≤ limit → file.before + length text ≤ limit_of_all → BuildsSame file t laid text

-- what the files of a good block mean
pub record BlockMeans (file : File) (t : Tree) (laid : LaidBlock) : Type 0 where
  pub registers : (face : LaidFace) → Among face laid.faces → RegisterTextMeans laid face (register_output laid face).bytes
  pub header : HeaderMeans laid (header_output laid).bytes
  pub completed : CompletedMeans file t laid (completed_output t laid).bytes
