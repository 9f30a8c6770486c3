-- The characters and names of the subset (IEEE 1800-2017, clause 5: white space, comments, identifiers, numbers).
use Rattle.std.specs.Prelude.{◌≡◌, ℕ, eqb, leb, Bool, true, false, ◌&&◌, ◌||◌, List, [], ◌∷◌, codes}
use Rattle.std.specs.Str.{bytes_eq}

-- 0 to 9
abbrev pub is_digit : ℕ → Bool
is_digit c = leb 48 c && leb c 57

-- a letter or an underscore: what a name begins with
abbrev pub is_first : ℕ → Bool
is_first c = (leb 97 c && leb c 122) || ((leb 65 c && leb c 90) || eqb c 95)

-- what a name goes on with
abbrev pub is_name_character : ℕ → Bool
is_name_character c = is_first c || is_digit c

-- a digit of a literal, which is lower case
abbrev pub is_hexadecimal : ℕ → Bool
is_hexadecimal c = is_digit c || (leb 97 c && leb c 102)

-- space, tab and line feed
abbrev pub is_blank : ℕ → Bool
is_blank c = eqb c 32 || (eqb c 9 || eqb c 10)

-- the character is one of these
abbrev pub among : List ℕ → ℕ → Bool
among [] c = false
among (m ∷ ms) c = eqb c m || among ms c

-- the marks of one character
abbrev pub is_mark : ℕ → Bool
is_mark = among (codes "()[]{},;:.#~|&?=")

-- each character passes the test
abbrev pub Each : (ℕ → Bool) → List ℕ → Type 0
Each p [] = Unit {0}
Each p (x ∷ xs) = (p x ≡ true) × Each p xs

-- a word: a letter or an underscore, then letters, digits and underscores
abbrev pub IsWord : List ℕ → Type 0
IsWord [] = ⊥
IsWord (c ∷ cs) = (is_first c ≡ true) × Each is_name_character cs

-- the words that the grammar quotes
abbrev pub is_keyword : List ℕ → Bool
is_keyword w =
    bytes_eq w (codes "module") || (bytes_eq w (codes "endmodule") || (bytes_eq w (codes "input")
    || (bytes_eq w (codes "output") || (bytes_eq w (codes "wire") || bytes_eq w (codes "assign")))))

-- a name: a word that the grammar does not quote
abbrev pub IsName : List ℕ → Type 0
IsName w = IsWord w × (is_keyword w ≡ false)
