-- What begins a list of bytes, computed: an inner definition. The laws tie it to `specs/Input`.
use Rattle.std.specs.Prelude.{ℕ, ◌-◌, eqb, leb, nat_lt, Bool, true, false, ◌&&◌, if◌then◌else◌, List, [], ◌∷◌, length, take, drop, codes, Option, Some, None}
use Rattle.std.specs.Str.{bytes_eq}
use Rattle.std.specs.Str.Parse.{digits_value}
use Rattle.cg_inputs.specs.Lines.{is_file_name, is_length, Line, put, del, build, finish}
use Rattle.cg_inputs.specs.Input.{Command, put_file, del_file, build_files}

-- ---- pieces of a text

-- what stands behind a prefix, where the text begins with it
unfoldable pub without : List ℕ → List ℕ → Option (List ℕ)
without [] text = Some text
without (p ∷ ps) [] = None
without (p ∷ ps) (c ∷ cs) = if eqb c p then without ps cs else None

-- a pair with one more character in front
abbrev pub after_one : ℕ → Option (List ℕ × List ℕ) → Option (List ℕ × List ℕ)
after_one x None = None
after_one x (Some parts) = Some (x ∷ parts.0, parts.1)

-- what stands before the first such character, and behind it
unfoldable pub cut : ℕ → List ℕ → Option (List ℕ × List ℕ)
cut c [] = None
cut c (x ∷ xs) = if eqb x c then Some ([], xs) else after_one x (cut c xs)

-- ---- lines

-- a removal's line, by what stands behind its word
abbrev pub named : List ℕ → Option Line
named name = if is_file_name name then Some (del name) else None

-- a put's line, by its name and its length
abbrev pub sized : Option (List ℕ × List ℕ) → Option Line
sized None = None
sized (Some parts) = if is_file_name parts.0 && is_length parts.1 then Some (put parts.0 (digits_value 10 parts.1)) else None

abbrev pub with_put : Option (List ℕ) → Option Line
with_put None = None
with_put (Some rest) = sized (cut 32 rest)

abbrev pub with_del : Option (List ℕ) → List ℕ → Option Line
with_del (Some name) text = named name
with_del None text = with_put (without (codes "put ") text)

-- what a line says
unfoldable pub line_of : List ℕ → Option Line
line_of text =
    if bytes_eq text (codes "build") then Some build
    else if bytes_eq text (codes "end") then Some finish
    else with_del (without (codes "del ") text) text

-- ---- what begins a list of bytes

pub data Next : Type 0 where
  command : Command → List ℕ → Next
  at_end : List ℕ → Next
  at_false_line : Next
  at_short : Next

abbrev pub next_by : Option Line → List ℕ → Next
next_by None rest = at_false_line
next_by (Some (put name count)) rest =
    if nat_lt (length rest) count then at_short else command (put_file name (take count rest)) (drop count rest)
next_by (Some (del name)) rest = command (del_file name) rest
next_by (Some build) rest = command build_files rest
next_by (Some finish) rest = at_end rest

abbrev pub next_cut : Option (List ℕ × List ℕ) → List ℕ → Next
next_cut None cs = if leb 101 (length cs) then at_false_line else at_short
next_cut (Some parts) cs = next_by (line_of parts.0) parts.1

unfoldable pub next : List ℕ → Next
next cs = next_cut (cut 10 cs) cs

-- ---- how much of a line is still to come

-- behind the word of a put: a name, a blank, a digit and the line feed
abbrev pub rest_of_put : List ℕ → Option (List ℕ × List ℕ) → ℕ
rest_of_put [] None = 4
rest_of_put (c ∷ name) None = 3
rest_of_put text (Some parts) = if is_empty parts.1 then 2 else 1 where
  is_empty : List ℕ → Bool
  is_empty [] = true
  is_empty (d ∷ digits) = false

abbrev pub rest_behind_put : Option (List ℕ) → ℕ
rest_behind_put None = 1
rest_behind_put (Some text) = rest_of_put text (cut 32 text)

-- how many bytes are at least still to come of a line that begins so, if it says something; its line feed counts
unfoldable pub least_rest : List ℕ → ℕ
least_rest text = if nat_lt (length text) 4 then 4 - length text else rest_behind_put (without (codes "put ") text)
