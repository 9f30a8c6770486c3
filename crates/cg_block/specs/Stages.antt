-- The stages of a block's description, from its tree on; each stands where no rule of it is broken. `number` is the file's number.
use Rattle.std.specs.Prelude.{ℕ}
use Rattle.cg_desc.specs.declared.block.LaidBlock.{LaidBlock}
use Rattle.cg_finding.specs.Finding.{Finding}
use Rattle.cg_hjson.specs.declared.tree.Tree.{Tree}
use Rattle.cg_blkread.specs.Described.{block_of}
use Rattle.cg_blkread.specs.Reads.{Violates as BreaksKeysOrValues}
use Rattle.cg_expand.specs.Violations.{Violates as BreaksNamesOrCounts}
use Rattle.cg_layout.specs.Violations.{Violates as BreaksOffsetsOrGates}
use Rattle.cg_layout.specs.Lays.{IsLaidBlock}

-- the tree is a block's, of good keys and values
abbrev pub IsBlock : Tree → Type 0
IsBlock t = (f : Finding) → ¬ BreaksKeysOrValues t f

-- the block's items have names of their own, and are not too many
pub record HasItems (number : ℕ) (t : Tree) : Type 0 where
  pub block : IsBlock t
  pub sound : (f : Finding) → ¬ BreaksNamesOrCounts (block_of number t) f

-- the block's items are laid out so
pub record IsLaidOutAs (number : ℕ) (t : Tree) (laid : LaidBlock) : Type 0 where
  pub items : HasItems number t
  pub sound : (f : Finding) → ¬ BreaksOffsetsOrGates (block_of number t) f
  pub is_laid : IsLaidBlock (block_of number t) laid
