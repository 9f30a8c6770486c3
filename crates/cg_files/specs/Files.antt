-- A file of a build, what it breaks before it has a tree, and its tree.
use Rattle.std.specs.Prelude.{◌≡◌, ◌⊎◌, ℕ, ◌+◌, ◌<◌, ◌≤◌, List, length, take, IsUtf8, chars, Option, Some, None, Result, Ok, Err}
use Rattle.std.specs.Str.{IsValidUpTo}
use Rattle.cg_docspec.specs.Place.{Place, origin, place_after}
use Rattle.cg_docspec.specs.Depth.{Opener}
use Rattle.cg_docspec.specs.Document.{Document}
use Rattle.cg_docspec.specs.SyntaxFault.{NoDocument, TooDeep}
use Rattle.cg_desc.specs.declared.place.At.{At}
use Rattle.cg_desc.specs.declared.fault.DescFault.{DescFault}
use Rattle.cg_finding.specs.Finding.{Finding}
use Rattle.cg_finding.specs.Rules as rules
use Rattle.cg_finding.specs.Violations.{RefusesFirst}
use Rattle.cg_keys.specs.Duplicates.{at_of}
use Rattle.cg_hjson.specs.Views.{tree_of}
use Rattle.cg_hjson.specs.declared.tree.Tree.{Tree}

-- A file of a build: its number in the order of the files, how many bytes the files before it have together, and what the store gave
-- for it, None where it is absent.
pub record File : Type 0 where
  pub number : ℕ
  pub before : ℕ
  pub given : Option (List ℕ)

-- the file of this number, with these bytes
abbrev pub some_file : ℕ → ℕ → List ℕ → File
some_file number before bytes = record { number = number; before = before; given = Some bytes }

-- ---- limits

-- a description has at most 1 MiB
abbrev pub limit : ℕ
limit = 1048576

-- and all of a build have at most 64 MiB together
abbrev pub limit_of_all : ℕ
limit_of_all = 67108864

-- the file is above its limit, or the files up to it are above theirs
abbrev pub IsTooLarge : ℕ → List ℕ → Type 0
IsTooLarge before bytes = (limit < length bytes) ⊎ (limit_of_all < before + length bytes)

-- ---- a file's text and tree

-- the bytes are not too many, and UTF-8
pub record IsText (file : File) (bytes : List ℕ) : Type 0 where
  pub given : file.given ≡ Some bytes
  pub few : length bytes ≤ limit
  pub few_in_all : file.before + length bytes ≤ limit_of_all
  pub utf8 : IsUtf8 bytes

-- the file is a document with this tree, at most 64 deep
pub record HasTree (file : File) (t : Tree) : Type 0 where
  pub bytes : List ℕ
  pub text : IsText file bytes
  pub document : Document (chars bytes) (tree_of t)
  pub shallow : (at : Place) → Opener (tree_of t) 65 at → ⊥

-- ---- what it breaks

-- the place behind the first n bytes, which are UTF-8; a column counts characters
abbrev pub place_behind : List ℕ → ℕ → At
place_behind bytes n = at_of (place_after origin (chars (take n bytes)))

-- What a file breaks before it has a tree. That a text is no document, or too deep, is looked for in a file that is not too large and
-- is UTF-8.
pub data BreaksFile (file : File) : Finding → Type 0 where
  absent : file.given ≡ None → BreaksFile file rules.file_absent
  too_large : (bytes : List ℕ) → file.given ≡ Some bytes → IsTooLarge file.before bytes → BreaksFile file rules.file_too_large
  -- the bytes are UTF-8 up to the first bad one, and no further
  not_utf8 : (bytes : List ℕ) (good : ℕ) → file.given ≡ Some bytes → IsValidUpTo bytes good
      → BreaksFile file (rules.not_utf8 (place_behind bytes good))
  no_document : (bytes : List ℕ) (at : Place) → IsText file bytes → NoDocument (chars bytes) at → BreaksFile file (rules.not_a_document (at_of at))
  too_deep : (bytes : List ℕ) (at : Place) → IsText file bytes → TooDeep (chars bytes) at → BreaksFile file (rules.too_deep (at_of at))

-- a value that is right; or a refusal that names the first of all that the file breaks
abbrev pub Finds : {X : Type 0} → Result X DescFault → File → (X → Type 0) → Type 0
Finds (Ok x) file IsRight = IsRight x
Finds (Err e) file IsRight = RefusesFirst e file.number (BreaksFile file)
