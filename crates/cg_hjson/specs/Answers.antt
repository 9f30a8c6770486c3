-- What a call of the reader tells, in the words of the grammar. On want of memory it tells nothing of the text.
use Rattle.std.specs.Prelude.{ℕ, ◌≡◌, List, Result, Ok, Err}
use Rattle.cg_docspec.specs.Place.{Place}
use Rattle.cg_docspec.specs.Document.{Document}
use Rattle.cg_docspec.specs.Depth.{Opener}
use Rattle.cg_docspec.specs.SyntaxFault.{Answer, NoDocument, TooDeep as IsTooDeep, no_document, read, too_deep}
use Rattle.cg_hjson.specs.Views.{place_of, tree_of}
use Rattle.cg_hjson.specs.declared.tree.Tree.{Tree}
use Rattle.cg_hjson.specs.declared.reader.HjsonFault.{HjsonFault}
use Rattle.cg_hjson.specs.declared.reader.HjsonFault.TheVariants.{NotDocument, TooDeep, Memory}

-- The call tells the truth: the tree of a document in which no opener of depth 65 stands; or that the text is no
-- document, at the end of the longest prefix that begins one; or the first opener of depth 65.
abbrev pub IsRight : List ℕ → Result Tree HjsonFault → Type 0
IsRight text (Ok t) = Document text (tree_of t) × ((at : Place) → Opener (tree_of t) 65 at → ⊥)
IsRight text (Err (NotDocument at)) = NoDocument text (place_of at)
IsRight text (Err (TooDeep at)) = IsTooDeep text (place_of at)
IsRight text (Err Memory) = Unit {0}

-- The call tells this answer, and no other.
abbrev pub Tells : Answer → Result Tree HjsonFault → Type 0
Tells a (Ok t) = a ≡ read (tree_of t)
Tells a (Err (NotDocument at)) = a ≡ no_document (place_of at)
Tells a (Err (TooDeep at)) = a ≡ too_deep (place_of at)
Tells a (Err Memory) = Unit {0}
