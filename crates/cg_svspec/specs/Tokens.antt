-- Tokens by longest match, with blanks and comments between (IEEE 1800-2017, clause 5).
use Rattle.std.specs.Prelude.{◌≡◌, ℕ, ◌<◌, ◌≤◌, ◌^◌, eqb, leb, Bool, true, false, ◌&&◌, ◌||◌, List, [], ◌∷◌, ◌++◌, codes, length}
use Rattle.std.specs.Fmt.{decimal, digits}
use Rattle.cg_svspec.specs.Characters.{is_blank, is_mark, Each, IsWord}

pub data Token : Type 0 where
  -- a name or a word that the grammar quotes
  word : List ℕ → Token
  -- a decimal number
  num : ℕ → Token
  -- a literal: its width and its value
  lit : ℕ → ℕ → Token
  -- a mark of one character
  mark : ℕ → Token
  -- ==
  equals : Token

-- Numbers are below 2^16. Literals have 1 to 32 bits and a value below 2^width.
abbrev pub IsToken : Token → Type 0
IsToken (word w) = IsWord w
IsToken (num n) = n < 2 ^ 16
IsToken (lit w v) = (0 < w) × (w ≤ 32) × (v < 2 ^ w)
IsToken (mark c) = is_mark c ≡ true
IsToken equals = Unit {0}

-- Decimal and lower-case hexadecimal, both without leading zeros.
abbrev pub spelling : Token → List ℕ
spelling (word w) = w
spelling (num n) = decimal n
spelling (lit w v) = decimal w ++ (codes "'h" ++ digits 16 false v)
spelling (mark c) = c ∷ []
spelling equals = codes "=="

-- where this token and then `rest` stand, no token that begins there is longer
abbrev pub IsLongest : Token → List ℕ → Type 0
IsLongest t rest = (u : Token) (tail : List ℕ) → IsToken u → spelling t ++ rest ≡ spelling u ++ tail → length (spelling u) ≤ length (spelling t)

-- what a text is made of
pub data Piece : Type 0 where
  token : Token → Piece
  -- a space, a tab or a line feed
  blank : ℕ → Piece
  -- a carriage return with its line feed
  return : Piece
  -- // and its body
  line : List ℕ → Piece
  -- /* and its body and */
  block : List ℕ → Piece

abbrev pub shown : Piece → List ℕ
shown (token t) = spelling t
shown (blank c) = c ∷ []
shown return = 13 ∷ 10 ∷ []
shown (line body) = codes "//" ++ body
shown (block body) = codes "/*" ++ (body ++ codes "*/")

abbrev pub shown_all : List Piece → List ℕ
shown_all [] = []
shown_all (p ∷ ps) = shown p ++ shown_all ps

-- the tokens among the pieces
abbrev pub tokens_of : List Piece → List Token
tokens_of [] = []
tokens_of (token t ∷ ps) = t ∷ tokens_of ps
tokens_of (blank c ∷ ps) = tokens_of ps
tokens_of (return ∷ ps) = tokens_of ps
tokens_of (line body ∷ ps) = tokens_of ps
tokens_of (block body ∷ ps) = tokens_of ps

-- a line comment ends before a line feed or at the text's end
abbrev pub EndsLine : List ℕ → Type 0
EndsLine [] = Unit {0}
EndsLine (c ∷ cs) = c ≡ 10

-- no line feed
abbrev pub is_inside_line : ℕ → Bool
is_inside_line c = leb 11 c || leb c 9

-- */ stands somewhere in the text
abbrev pub has_close : List ℕ → Bool
has_close [] = false
has_close (c ∷ []) = false
has_close (c ∷ (d ∷ cs)) = (eqb c 42 && eqb d 47) || has_close (d ∷ cs)

-- the first */ behind the opening of a block comment is the one behind this body
abbrev pub IsBlockBody : List ℕ → Type 0
IsBlockBody body = has_close (body ++ codes "*") ≡ false

-- Each piece is one where it stands, and `tail` is what stands behind them all.
abbrev pub Fit : List Piece → List ℕ → Type 0
Fit [] tail = Unit {0}
Fit (token t ∷ ps) tail = IsToken t × IsLongest t (shown_all ps ++ tail) × Fit ps tail
Fit (blank c ∷ ps) tail = (is_blank c ≡ true) × Fit ps tail
Fit (return ∷ ps) tail = Fit ps tail
Fit (line body ∷ ps) tail = Each is_inside_line body × EndsLine (shown_all ps ++ tail) × Fit ps tail
Fit (block body ∷ ps) tail = IsBlockBody body × Fit ps tail

-- neither a token, a blank nor a comment begins the text
abbrev pub NothingBegins : List ℕ → Type 0
NothingBegins text = (p : Piece) (tail : List ℕ) → Fit (p ∷ []) tail → text ≡ shown p ++ tail → ⊥

-- The text begins with these tokens, blanks and comments between them, and `tail` is left.
pub record ReadsTo (text : List ℕ) (tokens : List Token) (tail : List ℕ) : Type 0 where
  pub pieces : List Piece
  pub whole : text ≡ shown_all pieces ++ tail
  pub in_order : tokens_of pieces ≡ tokens
  pub each : Fit pieces tail

-- the text has these tokens
abbrev pub Reads : List ℕ → List Token → Type 0
Reads text tokens = ReadsTo text tokens []
