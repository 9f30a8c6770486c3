-- Some texts and the right answers to them, so that a reader can see what the definitions say.
use Rattle.std.specs.Prelude.{ℕ, pos, true, List, [], ◌∷◌, ◌++◌, codes, replicate}
use Rattle.cg_docspec.specs.Characters.{open_bracket}
use Rattle.cg_docspec.specs.Place.{Place, origin}
use Rattle.cg_docspec.specs.Tree.{Tree, tree, Kind, boolean, integer, string, Member, list_of, object_of}
use Rattle.cg_docspec.specs.SyntaxFault.{Answer, IsAnswer, read, no_document, too_deep}

-- a place by its bytes before, line and column
abbrev pub at : ℕ → ℕ → ℕ → Place
at byte line column = record { byte = byte; line = line; column = column }

-- a member with the key a, which stands there
abbrev pub with_a : Place → Tree → Member
with_a key_place value = record { key = codes "a"; key_place = key_place; value = value }

-- an object of one member with the key a on line 2, whose value has this kind and begins in column 4
abbrev pub says : Kind → Tree
says k = object_of (with_a (at 2 2 1) (tree k (at 5 2 4)) ∷ []) origin

-- so many brackets behind a key
abbrev pub brackets : ℕ → List ℕ
brackets n = codes "{a:" ++ replicate n open_bracket

-- a text and its answer
pub record Example : Type 0 where
  pub text : List ℕ
  pub answer : Answer

-- the same in one line
abbrev pub example : List ℕ → Answer → Example
example text answer = record { text = text; answer = answer }

-- the table
abbrev pub examples : List Example
examples =
    -- the empty object, and no text
    example (codes "{}") (read (object_of [] origin)) ∷
    example [] (no_document origin) ∷
    -- a comment ends a literal, and is a part of an unquoted string
    example (codes "{\na: 1 # c\n}") (read (says (integer (pos 1)))) ∷
    example (codes "{\na: x # c\n}") (read (says (string (codes "x # c")))) ∷
    example (codes "{\na: 1x, b: 2\n}") (read (says (string (codes "1x, b: 2")))) ∷
    example (codes "{\na: true /* c */}") (read (says (boolean true))) ∷
    -- numbers
    example (codes "{\na: -0\n}") (read (says (integer (pos 0)))) ∷
    example (codes "{\na: 01, \n}") (read (says (string (codes "01,")))) ∷
    example (codes "{\na: 1.50e+7, \n}") (read (says (string (codes "1.50e+7")))) ∷
    -- a multi-line string whose opening has three characters before it
    example (codes "{\na: ''' \n    x\n   y\n\n\r\n z\n   '''\n}") (read (says (string (codes " x\ny\n\n\nz")))) ∷
    example (codes "{\na: 1E-5 # c\n}") (read (says (string (codes "1E-5")))) ∷
    -- escapes; two surrogates are one character
    example (codes "{\na: '\\ud83D\\uDe00\\n'}") (read (says (string (240 ∷ 159 ∷ 152 ∷ 128 ∷ 10 ∷ [])))) ∷
    example (codes "{\na: '\\b\\f\\r\\t\\/\\u00e9'}") (read (says (string (8 ∷ 12 ∷ 13 ∷ 9 ∷ 47 ∷ 195 ∷ 169 ∷ [])))) ∷
    -- no separator is needed
    example (codes "{\na: [{}{}]}") (read (object_of (with_a (at 2 2 1) (list_of (object_of [] (at 6 2 5) ∷ object_of [] (at 8 2 7) ∷ []) (at 5 2 4)) ∷ []) origin)) ∷
    -- the 65th opener, and 64 of them
    example (brackets 64) (too_deep (at 66 1 67)) ∷
    example (brackets 63) (no_document (at 66 1 67)) ∷
    -- where no document goes on: behind a second comma, a carriage return, a slash, a low surrogate's second digit
    example (codes "{\na: [1,,]}") (no_document (at 8 2 7)) ∷
    example (codes "{}\r ") (no_document (at 3 1 4)) ∷
    example (codes "{} /x") (no_document (at 4 1 5)) ∷
    example (codes "{a:\"\\uDC00\"}") (no_document (at 7 1 8)) ∷
    -- a column counts characters, a byte place counts bytes
    example (codes "{é:é,") (no_document (at 7 1 6)) ∷ []

-- each answer is right
abbrev pub AllRight : List Example → Type 0
AllRight [] = Unit {0}
AllRight (e ∷ es) = IsAnswer e.text e.answer × AllRight es
