-- What a C header says, line by line: the constants that it defines.
use Rattle.std.specs.Prelude.{◌≡◌, ℕ, ◌^◌, ◌<◌, ◌==◌, false, not, List, [], ◌∷◌, ◌++◌, codes}
use Rattle.std.specs.Fmt.{decimal, digits}
use Rattle.cg_svspec.specs.Characters.{Each, IsWord}

-- a name and its value
pub record Constant : Type 0 where
  pub name : List ℕ
  pub value : ℕ

-- the constant of these
abbrev pub constant : List ℕ → ℕ → Constant
constant name value = record { name = name; value = value }

-- How a value below 2^64 is spelled: in decimal, or in lower-case hexadecimal behind `0x`. Neither has leading zeros.
pub data IsNumeral : List ℕ → ℕ → Type 0 where
  in_decimal : {n : ℕ} → n < 2 ^ 64 → IsNumeral (decimal n) n
  in_hexadecimal : {n : ℕ} → n < 2 ^ 64 → IsNumeral (codes "0x" ++ digits 16 false n) n

-- the characters of a line: none of them is a line feed
abbrev pub IsLine : List ℕ → Type 0
IsLine l = Each (λ c. not (c == 10)) l

-- The forms of a line but for the guard and the end, each with the constants that it gives: nothing, a comment, a name that is
-- defined without a value, or a constant. A name is a letter or an underscore, then letters, digits and underscores.
pub data Says : List ℕ → List Constant → Type 0 where
  nothing : Says [] []
  comment : {text : List ℕ} → Says (codes "//" ++ text) []
  defined : {name : List ℕ} → IsWord name → Says (codes "#define " ++ name) []
  valued : {name numeral : List ℕ} {value : ℕ} → IsWord name → IsNumeral numeral value
      → Says (codes "#define " ++ (name ++ (codes " " ++ numeral))) (constant name value ∷ [])

-- lines of such forms, and the constants of all of them in order
pub data Say : List (List ℕ) → List Constant → Type 0 where
  no_line : Say [] []
  one_line : {l : List ℕ} {ls : List (List ℕ)} {cs ds : List Constant} → IsLine l → Says l cs → Say ls ds → Say (l ∷ ls) (cs ++ ds)

-- the line of a guard, and the last line
abbrev pub guard_line : List ℕ → List ℕ
guard_line name = codes "#ifndef " ++ name

abbrev pub end_line : List ℕ
end_line = codes "#endif"

-- each line ends in a line feed, the last one too
unfoldable pub lines_text : List (List ℕ) → List ℕ
lines_text [] = []
lines_text (l ∷ ls) = l ++ (10 ∷ lines_text ls)

-- A header: a line, the guard on line 2, more lines, and the end on the last line. Its constants are those of its lines.
pub record IsHeader (text : List ℕ) (constants : List Constant) : Type 0 where
  pub first : List ℕ
  pub guard : List ℕ
  pub between : List (List ℕ)
  pub is_text : text ≡ lines_text (first ∷ (guard_line guard ∷ (between ++ end_line ∷ [])))
  pub is_guard : IsWord guard
  pub says : Say (first ∷ between) constants
