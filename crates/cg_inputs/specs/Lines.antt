-- What a line of a session says, by its bytes alone.
use Rattle.std.specs.Prelude.{◌≡◌, ℕ, eqb, leb, Bool, true, not, ◌&&◌, ◌||◌, List, ◌∷◌, ◌++◌, length, codes}
use Rattle.std.specs.List.{list_all}
use Rattle.std.specs.Str.Parse.{digits_value}
use Rattle.cg_svspec.specs.Characters.{Each, is_digit, is_name_character}

-- none of these bytes is a line feed
abbrev pub HasNoFeed : List ℕ → Type 0
HasNoFeed text = Each (λ c. not (eqb c 10)) text

-- a letter, a digit, `_`, `-` or `.`
abbrev pub is_file_character : ℕ → Bool
is_file_character c = is_name_character c || (eqb c 45 || eqb c 46)

-- a file's name: 1 to 64 of them
unfoldable pub is_file_name : List ℕ → Bool
is_file_name name = list_all is_file_character name && (leb 1 (length name) && leb (length name) 64)

-- a length: 1 to 8 decimal digits
unfoldable pub is_length : List ℕ → Bool
is_length digits = list_all is_digit digits && (leb 1 (length digits) && leb (length digits) 8)

-- what a line says: a file is put, whose bytes follow the line; a file is taken away; the files are built; the session ends
pub data Line : Type 0 where
  put : (name : List ℕ) → (count : ℕ) → Line
  del : (name : List ℕ) → Line
  build : Line
  finish : Line

-- the text of a line, without its line feed
abbrev pub Says : List ℕ → Line → Type 0
Says text (put name count) =
    (digits : List ℕ) × (is_file_name name ≡ true) × (is_length digits ≡ true) × (count ≡ digits_value 10 digits)
    × (text ≡ codes "put " ++ (name ++ (32 ∷ digits)))
Says text (del name) = (is_file_name name ≡ true) × (text ≡ codes "del " ++ name)
Says text build = text ≡ codes "build"
Says text finish = text ≡ codes "end"
