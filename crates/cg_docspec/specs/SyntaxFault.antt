-- What a reader of documents answers, in the words of the grammar: the tree, or the first syntax fault.
use Rattle.std.specs.Prelude.{ℕ, suc, ◌≡◌, ◌≤◌, ◌<◌, List, ◌++◌, length, take}
use Rattle.cg_docspec.specs.Place.{Place, origin, place_after}
use Rattle.cg_docspec.specs.Tree.{Tree}
use Rattle.cg_docspec.specs.Document.{Document}
use Rattle.cg_docspec.specs.Depth.{Opener}

-- Some text completes these characters to a document.
abbrev pub Begins : List ℕ → Type 0
Begins p = (more : List ℕ) × (t : Tree) × Document (p ++ more) t

-- The longest prefix of the text that begins a document has e characters.
pub record IsLongest (text : List ℕ) (e : ℕ) : Type 0 where
  pub within : e ≤ length text
  pub begins : Begins (take e text)
  pub longest : e < length text → Begins (take (suc e) text) → ⊥

-- The character behind the first i opens an object or a list of depth d, however the text goes on behind it.
pub record OpensAt (text : List ℕ) (d i : ℕ) : Type 0 where
  pub within : i < length text
  pub begins : Begins (take (suc i) text)
  pub opener : (more : List ℕ) (t : Tree) → Document (take (suc i) text ++ more) t → Opener t d (place_after origin (take i text))

-- no opener of depth 65 stands among the first n characters
abbrev pub IsShallow : List ℕ → ℕ → Type 0
IsShallow text n = (i : ℕ) → i < n → OpensAt text 65 i → ⊥

-- the text is no document, and the longest prefix that begins one ends there; no opener of depth 65 stands before
pub record NoDocument (text : List ℕ) (at : Place) : Type 0 where
  pub end : ℕ
  pub no_tree : (t : Tree) → Document text t → ⊥
  pub is_longest : IsLongest text end
  pub shallow : IsShallow text end
  pub is_place : at ≡ place_after origin (take end text)

-- the first opener of depth 65 stands there
pub record TooDeep (text : List ℕ) (at : Place) : Type 0 where
  pub index : ℕ
  pub opens : OpensAt text 65 index
  pub first : IsShallow text index
  pub is_place : at ≡ place_after origin (take index text)

-- what a reader answers
pub data Answer : Type 0 where
  read : Tree → Answer
  no_document : Place → Answer
  too_deep : Place → Answer

-- the answer is right: the tree of a document without an opener of depth 65, and else the first fault
abbrev pub IsAnswer : List ℕ → Answer → Type 0
IsAnswer text (read t) = Document text t × ((at : Place) → Opener t 65 at → ⊥)
IsAnswer text (no_document at) = NoDocument text at
IsAnswer text (too_deep at) = TooDeep text at
