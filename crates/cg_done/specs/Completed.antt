-- The text of a top's completed description, and what reading it gives.
use Rattle.std.specs.Prelude.{◌≡◌, ℕ, List}
use Rattle.cg_docspec.specs.Depth.{Opener}
use Rattle.cg_docspec.specs.Place.{Place}
use Rattle.cg_desc.specs.declared.top.TopDesc.{TopDesc}
use Rattle.cg_finding.specs.Finding.{Finding}
use Rattle.cg_hjson.specs.Views.{tree_of}
use Rattle.cg_hjson.specs.declared.tree.Tree.{Tree}
use Rattle.cg_topread.specs.Described.{top_of}
use Rattle.cg_topread.specs.Violations.{Violates}
use Rattle.cg_jsonspec.specs.Layout.{layout_text}
use Rattle.cg_jsonspec.specs.ReadsBack.{ReadsBack}
use Rattle.cg_jsonspec.specs.Said.{IsSayableTree}
use Rattle.cg_blkdone.specs.Completed.{Says}
use Rattle.cg_done.specs.FullTop.{full_top}
use Rattle.cg_done.specs.Places.{top_unplaced}

-- The tree of a document, at most 64 deep, which is a top's that breaks no rule on keys and values. As the trees of documents are, its
-- integers are of 64 bits, and its strings are UTF-8.
pub record IsReadTop (t : Tree) : Type 0 where
  pub sound : (f : Finding) → ¬ Violates t f
  pub sayable : IsSayableTree (tree_of t)
  pub shallow : (at : Place) → Opener (tree_of t) 65 at → ⊥

-- the completed description, a line for each member and element
unfoldable pub completed_top_text : Tree → List ℕ
completed_top_text t = layout_text (full_top t)

-- the text reads back as the completed description
abbrev pub CompletedTopReadsBack : Type 0
CompletedTopReadsBack = (t : Tree) → IsReadTop t → ReadsBack (completed_top_text t) (full_top t)

-- the same descriptions but for places
abbrev pub AreSame : TopDesc → TopDesc → Type 0
AreSame a b = top_unplaced a ≡ top_unplaced b

-- A tree u that says the completed description of t describes the same top. Its own completed description is the same, so it is
-- complete itself.
pub record Completes (t u : Tree) : Type 0 where
  pub describes : (file : ℕ) → AreSame (top_of file u) (top_of file t)
  pub same : full_top u ≡ full_top t
  pub is_complete : Says u (full_top u)

-- so does every such tree, and it breaks no rule on keys and values
abbrev pub CompletedTopIsSame : Type 0
CompletedTopIsSame = (t u : Tree) → IsReadTop t → Says u (full_top t) → Completes t u

abbrev pub CompletedTopIsSound : Type 0
CompletedTopIsSound = (t u : Tree) → IsReadTop t → Says u (full_top t) → (f : Finding) → ¬ Violates u f
