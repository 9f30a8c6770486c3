-- What a block's file breaks. Each rule is read where what it speaks of breaks no rule of an earlier phase.
use Rattle.std.specs.Prelude.{◌≡◌, ℕ, List, Some, None, Result, Ok, Err}
use Rattle.cg_desc.specs.declared.block.LaidBlock.{LaidBlock}
use Rattle.cg_desc.specs.declared.fault.DescFault.{DescFault}
use Rattle.cg_finding.specs.Finding.{Finding}
use Rattle.cg_finding.specs.Rules as rules
use Rattle.cg_finding.specs.Violations.{RefusesFirst}
use Rattle.cg_hjson.specs.declared.tree.Tree.{Tree}
use Rattle.cg_blkread.specs.Described.{block_of}
use Rattle.cg_blkread.specs.Reads.{Violates as BreaksKeysOrValues}
use Rattle.cg_expand.specs.Violations.{Violates as BreaksNamesOrCounts}
use Rattle.cg_layout.specs.Violations.{Violates as BreaksOffsetsOrGates}
use Rattle.cg_files.specs.Files.{File, HasTree, BreaksFile}
use Rattle.cg_block.specs.Stages.{IsBlock, HasItems, IsLaidOutAs}
use Rattle.cg_block.specs.Outputs.{clash_of}

-- what the tree of a block breaks up to its layout, in the file of this number
pub data BreaksLayout (number : ℕ) (t : Tree) : Finding → Type 0 where
  keys_or_values : {f : Finding} → BreaksKeysOrValues t f → BreaksLayout number t f
  names_or_counts : {f : Finding} → IsBlock t → BreaksNamesOrCounts (block_of number t) f → BreaksLayout number t f
  offsets_or_gates : {f : Finding} → HasItems number t → BreaksOffsetsOrGates (block_of number t) f → BreaksLayout number t f

-- what it breaks in all
pub data BreaksTree (number : ℕ) (t : Tree) : Finding → Type 0 where
  up_to_layout : {f : Finding} → BreaksLayout number t f → BreaksTree number t f
  -- a name comes twice in a register module, or else in the header; the first that does, at the root's opener
  clash : {name : List ℕ} (laid : LaidBlock) → IsLaidOutAs number t laid → clash_of laid ≡ Some name → BreaksTree number t (rules.names_clash t.at name)

-- what the file of a block breaks: as a file and a document, or else by its tree
pub data BreaksBlock (file : File) : Finding → Type 0 where
  of_file : {f : Finding} → BreaksFile file f → BreaksBlock file f
  of_tree : {f : Finding} (t : Tree) → HasTree file t → BreaksTree file.number t f → BreaksBlock file f

-- The tree is of a block that breaks nothing, and its interfaces are laid out so.
pub record IsGoodBlock (number : ℕ) (t : Tree) (laid : LaidBlock) : Type 0 where
  pub laid_out : IsLaidOutAs number t laid
  pub no_clash : clash_of laid ≡ None

-- the file is that of such a block
pub record IsGoodFile (file : File) (t : Tree) (laid : LaidBlock) : Type 0 where
  pub has_tree : HasTree file t
  pub is_good : IsGoodBlock file.number t laid

-- ---- what is answered

-- a value that is right; or a refusal that names the first of all that the tree breaks up to its layout
abbrev pub FindsLayout : {X : Type 0} → Result X DescFault → ℕ → Tree → (X → Type 0) → Type 0
FindsLayout (Ok x) number t IsRight = IsRight x
FindsLayout (Err e) number t IsRight = RefusesFirst e number (BreaksLayout number t)

-- a value that is right; or a refusal that names the first of all that the tree breaks
abbrev pub FindsInTree : {X : Type 0} → Result X DescFault → ℕ → Tree → (X → Type 0) → Type 0
FindsInTree (Ok x) number t IsRight = IsRight x
FindsInTree (Err e) number t IsRight = RefusesFirst e number (BreaksTree number t)

-- a value that is right; or a refusal that names the first of all that the file breaks
abbrev pub FindsInFile : {X : Type 0} → Result X DescFault → File → (X → Type 0) → Type 0
FindsInFile (Ok x) file IsRight = IsRight x
FindsInFile (Err e) file IsRight = RefusesFirst e file.number (BreaksBlock file)
