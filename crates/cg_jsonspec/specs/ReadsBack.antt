-- A text that a reader of documents takes for a JSON value.
use Rattle.std.specs.Prelude.{◌≡◌, ℕ, List, IsUtf8, chars}
use Rattle.cg_docspec.specs.Place.{Place}
use Rattle.cg_docspec.specs.Tree.{Tree}
use Rattle.cg_docspec.specs.Depth.{Opener}
use Rattle.cg_docspec.specs.Document.{Document}
use Rattle.serde_json.specs.Data.{Data}
use Rattle.cg_jsonspec.specs.Said.{unplaced, said}

-- The text is a document, at most 64 deep, whose tree is what the value says, but for the places of its parts.
pub record ReadsBack (text : List ℕ) (d : Data) : Type 0 where
  pub utf8 : IsUtf8 text
  pub root : Tree
  pub document : Document (chars text) root
  pub same : unplaced root ≡ said d
  pub shallow : (at : Place) → Opener root 65 at → ⊥
