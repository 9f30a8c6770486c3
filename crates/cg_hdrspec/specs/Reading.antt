-- The answer of a text, found line by line: an inner definition. The laws of `proofs/Texts` tie it to `IsAnswer`.
use Rattle.std.specs.Prelude.{ℕ, suc, ◌^◌, eqb, leb, nat_lt, Bool, true, false, not, ◌&&◌, ◌||◌, if◌then◌else◌, List, [], ◌∷◌, ◌++◌, codes, Option, Some, None}
use Rattle.std.specs.List.{list_all}
use Rattle.std.specs.Str.{bytes_eq}
use Rattle.std.specs.Str.Parse.{digits_value}
use Rattle.cg_svspec.specs.Characters.{is_digit, is_first, is_name_character}
use Rattle.cg_hdrspec.specs.Header.{Constant, constant, end_line}
use Rattle.cg_hdrspec.specs.HeaderFault.{Answer, constants, formless}

-- ---- pieces of a text

abbrev pub is_nil : {X : Type 0} → List X → Bool
is_nil [] = true
is_nil (x ∷ xs) = false

-- what stands behind a prefix, where the text begins with it
unfoldable pub without : List ℕ → List ℕ → Option (List ℕ)
without [] text = Some text
without (p ∷ ps) [] = None
without (p ∷ ps) (c ∷ cs) = if eqb c p then without ps cs else None

-- a pair with one more character in front
abbrev pub after_one : ℕ → Option (List ℕ × List ℕ) → Option (List ℕ × List ℕ)
after_one x None = None
after_one x (Some parts) = Some (x ∷ parts.0, parts.1)

-- what stands before the first such character, and behind it
unfoldable pub cut : ℕ → List ℕ → Option (List ℕ × List ℕ)
cut c [] = None
cut c (x ∷ xs) = if eqb x c then Some ([], xs) else after_one x (cut c xs)

-- lines, and a rest, with one more character in front
abbrev pub before_lines : ℕ → List (List ℕ) → List ℕ → List (List ℕ) × List ℕ
before_lines x [] rest = ([], x ∷ rest)
before_lines x (l ∷ ls) rest = ((x ∷ l) ∷ ls, rest)

-- the lines of a text, each of which a line feed ends, and the rest behind them
unfoldable pub lines : List ℕ → List (List ℕ) × List ℕ
lines [] = ([], [])
lines (x ∷ xs) = if eqb x 10 then ([] ∷ (lines xs).0, (lines xs).1) else before_lines x (lines xs).0 (lines xs).1

-- ---- names and numbers

-- a letter or an underscore, then letters, digits and underscores
abbrev pub is_word : List ℕ → Bool
is_word [] = false
is_word (c ∷ cs) = is_first c && list_all is_name_character cs

-- a decimal digit, or in base 16 a hexadecimal one in lower case
abbrev pub is_digit_in : ℕ → ℕ → Bool
is_digit_in base c = is_digit c || (eqb base 16 && (leb 97 c && leb c 102))

-- digits of the base, without leading zeros
abbrev pub are_digits : ℕ → List ℕ → Bool
are_digits base [] = false
are_digits base (c ∷ []) = is_digit_in base c
are_digits base (c ∷ d ∷ ds) = not (eqb c 48) && list_all (is_digit_in base) (c ∷ d ∷ ds)

-- the value of such digits, where it is below 2^64
unfoldable pub number_in : ℕ → List ℕ → Option ℕ
number_in base ds = if are_digits base ds && nat_lt (digits_value base ds) (2 ^ 64) then Some (digits_value base ds) else None

-- in hexadecimal behind `0x`, else in decimal
abbrev pub number_behind : List ℕ → Option (List ℕ) → Option ℕ
number_behind text (Some ds) = number_in 16 ds
number_behind text None = number_in 10 text

-- the value that a text spells
unfoldable pub number_of : List ℕ → Option ℕ
number_of text = number_behind text (without (codes "0x") text)

-- ---- lines

-- a constant, where the value has a spelling
abbrev pub valued : List ℕ → Option ℕ → Option (List Constant)
valued name None = None
valued name (Some value) = Some (constant name value ∷ [])

-- what a definition gives: a name alone gives nothing, a name and a value a constant
abbrev pub defined : List ℕ → Option (List ℕ × List ℕ) → Option (List Constant)
defined text None = if is_word text then Some [] else None
defined text (Some parts) = if is_word parts.0 then valued parts.0 (number_of parts.1) else None

-- the same, where the line begins as a definition
abbrev pub definition : Option (List ℕ) → Option (List Constant)
definition None = None
definition (Some text) = defined text (cut 32 text)

-- what a line that is not empty gives: a comment gives nothing
abbrev pub comment_or : List ℕ → Option (List ℕ) → Option (List Constant)
comment_or l (Some text) = Some []
comment_or l None = definition (without (codes "#define ") l)

-- the constants of a line, where it has a form other than the guard's and the end's
unfoldable pub said : List ℕ → Option (List Constant)
said [] = Some []
said (c ∷ cs) = comment_or (c ∷ cs) (without (codes "//") (c ∷ cs))

abbrev pub is_guarded : Option (List ℕ) → Bool
is_guarded None = false
is_guarded (Some name) = is_word name

-- the line of a guard
unfoldable pub is_guard : List ℕ → Bool
is_guard l = is_guarded (without (codes "#ifndef ") l)

-- the last line
unfoldable pub is_end : List ℕ → Bool
is_end l = bytes_eq l end_line

-- nothing to add, where the test passes
abbrev pub nothing_if : Bool → Option (List Constant)
nothing_if true = Some []
nothing_if false = None

-- what a line adds in its place, if it has a form there: whether it is line 2 and whether it is the last one
abbrev pub given : Bool → Bool → List ℕ → Option (List Constant)
given true true l = None
given true false l = nothing_if (is_guard l)
given false true l = nothing_if (is_end l)
given false false l = said l

-- ---- texts

-- more constants in front
abbrev pub joined : List Constant → Answer → Answer
joined cs (constants ds) = constants (cs ++ ds)
joined cs (formless k) = formless k

-- line k, and the answer of those behind it
abbrev pub with_line : ℕ → Option (List Constant) → Answer → Answer
with_line k None a = formless k
with_line k (Some cs) a = joined cs a

-- behind the lines: no rest, and a line 2
abbrev pub at_end : ℕ → List ℕ → Answer
at_end k [] = if nat_lt k 3 then formless 2 else constants []
at_end k (c ∷ cs) = formless k

-- the answer of the lines from line k on, and of the rest
unfoldable pub answer_from : ℕ → List (List ℕ) → List ℕ → Answer
answer_from k [] rest = at_end k rest
answer_from k (l ∷ ls) rest = with_line k (given (eqb k 2) (is_nil ls && is_nil rest) l) (answer_from (suc k) ls rest)

-- the answer of what stands from line k on
abbrev pub answer_of : ℕ → List ℕ → Answer
answer_of k text = answer_from k (lines text).0 (lines text).1

-- the answer of a text
abbrev pub answer : List ℕ → Answer
answer text = answer_of 1 text
