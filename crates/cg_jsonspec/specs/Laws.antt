-- The laws of the layout.
use Rattle.std.specs.Prelude.{◌≡◌, ◌≤◌, ◌<◌, ◌^◌, ℕ, List, IsUtf8, chars}
use Rattle.cg_docspec.specs.Document.{Document}
use Rattle.cg_docspec.specs.Tree.{Tree}
use Rattle.json.specs.Layout.{pretty}
use Rattle.json.specs.Tree.{json_tokens}
use Rattle.serde_json.specs.Data.{Data, Members, object, depth}
use Rattle.serde_json.specs.Written.{outline}
use Rattle.cg_jsonspec.specs.Layout.{layout, layout_text}
use Rattle.cg_jsonspec.specs.Said.{IsSayable, IsSayableTree}
use Rattle.cg_jsonspec.specs.ReadsBack.{ReadsBack}

-- the layout by cases is the one of the tokens of a value
abbrev pub LayoutIsPretty : Type 0
LayoutIsPretty = (d : Data) → depth d < 2 ^ 64 → pretty (json_tokens (outline d)) ≡ layout 0 d

-- the text of an object, at most 64 deep, is a document that says the object
abbrev pub LayoutReadsBack : Type 0
LayoutReadsBack = (ms : Members) → IsSayable (object ms) → depth (object ms) ≤ 64 → ReadsBack (layout_text (object ms)) (object ms)

-- the tree of a text that is UTF-8 has integers and strings of documents
abbrev pub DocumentsAreSayable : Type 0
DocumentsAreSayable = (bytes : List ℕ) (t : Tree) → IsUtf8 bytes → Document (chars bytes) t → IsSayableTree t
