-- The laws of blocks that are the same but for places.
use Rattle.std.specs.Prelude.{ℕ, List}
use Rattle.cg_desc.specs.declared.block.BlockDesc.{BlockDesc}
use Rattle.cg_desc.specs.declared.block.LaidBlock.{LaidBlock}
use Rattle.cg_finding.specs.Finding.{Finding}
use Rattle.cg_expand.specs.Violations.{Violates as BreaksNamesOrCounts}
use Rattle.cg_layout.specs.Violations.{Violates as BreaksOffsetsOrGates}
use Rattle.cg_layout.specs.Lays.{IsLaidBlock}
use Rattle.cg_docspec.specs.Document.{Document}
use Rattle.cg_hjson.specs.Views.{tree_of}
use Rattle.cg_hjson.specs.declared.tree.Tree.{Tree}
use Rattle.cg_blkread.specs.Described.{block_of}
use Rattle.cg_blkread.specs.Reads.{Violates as BreaksKeysOrValues}
use Rattle.cg_blkdone.specs.Completed.{AreSame}
use Rattle.cg_samespec.specs.Same.{FieldsAreApart, WriteSame}

-- A block that breaks no rule on names, counts, offsets and gates, and is laid out so.
pub record IsLaidSoundly (b : BlockDesc) (laid : LaidBlock) : Type 0 where
  pub items : (f : Finding) → ¬ BreaksNamesOrCounts b f
  pub offsets : (f : Finding) → ¬ BreaksOffsetsOrGates b f
  pub is_laid : IsLaidBlock b laid

-- a block that is the same but for places breaks none of them either, and the same is written of it
abbrev pub SameIsLaid : Type 0
SameIsLaid = (a b : BlockDesc) (laid : LaidBlock) → AreSame a b → FieldsAreApart a → IsLaidSoundly a laid
    → (other : LaidBlock) × IsLaidSoundly b other × WriteSame laid other

-- Fields of a block that was read from a text stand at places of their own. So where it breaks no rule on names, no two of a register
-- have one name.
abbrev pub ReadFieldsAreApart : Type 0
ReadFieldsAreApart = (text : List ℕ) (t : Tree) (file : ℕ) → Document text (tree_of t) → ((f : Finding) → ¬ BreaksKeysOrValues t f)
    → ((f : Finding) → ¬ BreaksNamesOrCounts (block_of file t) f) → FieldsAreApart (block_of file t)
