-- The text of a completed description, and what reading it gives.
use Rattle.std.specs.Prelude.{◌≡◌, ℕ, List}
use Rattle.cg_docspec.specs.Depth.{Opener}
use Rattle.cg_docspec.specs.Place.{Place}
use Rattle.serde_json.specs.Data.{Data}
use Rattle.cg_desc.specs.declared.block.BlockDesc.{BlockDesc}
use Rattle.cg_finding.specs.Finding.{Finding}
use Rattle.cg_hjson.specs.Views.{tree_of}
use Rattle.cg_hjson.specs.declared.tree.Tree.{Tree}
use Rattle.cg_blkread.specs.Described.{block_of}
use Rattle.cg_blkread.specs.Reads.{Violates}
use Rattle.cg_jsonspec.specs.Layout.{layout_text}
use Rattle.cg_jsonspec.specs.ReadsBack.{ReadsBack}
use Rattle.cg_jsonspec.specs.Said.{IsSayableTree, unplaced, said}
use Rattle.cg_blkdone.specs.Full.{full_block}
use Rattle.cg_blkdone.specs.Places.{block_unplaced}

-- The tree of a document, at most 64 deep, which is a block's that breaks no rule on keys and values. As the trees of documents are,
-- its integers are of 64 bits, and its strings are UTF-8.
pub record IsReadBlock (t : Tree) : Type 0 where
  pub sound : (f : Finding) → ¬ Violates t f
  pub sayable : IsSayableTree (tree_of t)
  pub shallow : (at : Place) → Opener (tree_of t) 65 at → ⊥

-- the completed description, a line for each member and element
unfoldable pub completed_text : Tree → List ℕ
completed_text t = layout_text (full_block t)

-- the text reads back as the completed description
abbrev pub CompletedReadsBack : Type 0
CompletedReadsBack = (t : Tree) → IsReadBlock t → ReadsBack (completed_text t) (full_block t)

-- the tree is what the value says, but for places
abbrev pub Says : Tree → Data → Type 0
Says t d = unplaced (tree_of t) ≡ said d

-- the same descriptions but for places
abbrev pub AreSame : BlockDesc → BlockDesc → Type 0
AreSame a b = block_unplaced a ≡ block_unplaced b

-- A tree u that says the completed description of t describes the same block. Its own completed description is the same, so it is
-- complete itself.
pub record Completes (t u : Tree) : Type 0 where
  pub describes : (file : ℕ) → AreSame (block_of file u) (block_of file t)
  pub same : full_block u ≡ full_block t
  pub is_complete : Says u (full_block u)

-- so does every such tree, and it breaks no rule on keys and values
abbrev pub CompletedIsSame : Type 0
CompletedIsSame = (t u : Tree) → IsReadBlock t → Says u (full_block t) → Completes t u

abbrev pub CompletedIsSound : Type 0
CompletedIsSound = (t u : Tree) → IsReadBlock t → Says u (full_block t) → (f : Finding) → ¬ Violates u f
