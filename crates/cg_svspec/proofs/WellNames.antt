-- Words that are names: the grammar quotes no word that has an underscore.
use Rattle.std.proofs.Common.{◌≡◌, ℕ, eqb, Bool, true, false, ◌&&◌, ◌||◌, List, [], ◌∷◌, ◌++◌, refl, codes}
use Rattle.std.specs.List.{list_all}
use Rattle.std.specs.Str.{bytes_eq}
use Rattle.cg_svspec.specs.Characters.{is_first, is_name_character, Each, IsWord, is_keyword, IsName}
use Rattle.cg_svspec.proofs.Runs.{both_pass, each_passes}
use Rattle.cg_svspec.proofs.NamesLemmas.{same_name}

-- ---- words

-- some character is an underscore
abbrev pub has_underscore : List ℕ → Bool
has_underscore [] = false
has_underscore (c ∷ cs) = eqb c 95 || has_underscore cs

-- a test for words, which computes at a text that is written out
abbrev pub is_word : List ℕ → Bool
is_word [] = false
is_word (c ∷ cs) = is_first c && list_all is_name_character cs

-- what passes the test is a word
pub word_passes : (w : List ℕ) → is_word w ≡ true → IsWord w
word_passes [] h = cc
word_passes (c ∷ cs) h = let both = both_pass (is_first c) (list_all is_name_character cs) h in (both.0, each_passes is_name_character cs both.1)

-- a word that is written out and not quoted
pub literal_name : (w : List ℕ) → is_word w ≡ true → is_keyword w ≡ false → IsName w
literal_name w h k = (word_passes w h, k)

-- what holds of the characters of two texts holds of both together
pub each_join : (p : ℕ → Bool) (xs ys : List ℕ) → Each p xs → Each p ys → Each p (xs ++ ys)
each_join p [] ys a b = b
each_join p (x ∷ xs) ys a b = (a.0, each_join p xs ys a.1 b)

-- a weaker test holds of them too
pub each_weaker : (p q : ℕ → Bool) → ((c : ℕ) → p c ≡ true → q c ≡ true) → (xs : List ℕ) → Each p xs → Each q xs
each_weaker p q up [] a = tt
each_weaker p q up (x ∷ xs) a = (up x a.0, each_weaker p q up xs a.1)

-- a word with characters of names behind it
pub word_join : (a b : List ℕ) → IsWord a → Each is_name_character b → IsWord (a ++ b)
word_join [] b w e = absurd w
word_join (c ∷ cs) b w e = (w.0, each_join is_name_character cs b w.1 e)

-- a word has characters of names alone
pub word_characters : (w : List ℕ) → IsWord w → Each is_name_character w
word_characters [] h = absurd h
word_characters (c ∷ cs) h = (rw (h.0) refl, h.1)

-- ---- an underscore

-- an underscore in the first of two texts
pub underscore_front : (a b : List ℕ) → has_underscore a ≡ true → has_underscore (a ++ b) ≡ true
underscore_front [] b h = cc
underscore_front (c ∷ cs) b h = by (underscore_front cs b) (eqb c 95) h where
  by : (has_underscore cs ≡ true → has_underscore (cs ++ b) ≡ true) → (t : Bool) → (t || has_underscore cs) ≡ true → (t || has_underscore (cs ++ b)) ≡ true
  by later true h = refl
  by later false h = later h

-- and one in the last
pub underscore_back : (a b : List ℕ) → has_underscore b ≡ true → has_underscore (a ++ b) ≡ true
underscore_back [] b h = h
underscore_back (c ∷ cs) b h = by (underscore_back cs b h) (eqb c 95) where
  by : has_underscore (cs ++ b) ≡ true → (t : Bool) → (t || has_underscore (cs ++ b)) ≡ true
  by later true = refl
  by later false = later

-- a text with an underscore is none without
not_this : (w k : List ℕ) → has_underscore w ≡ true → has_underscore k ≡ false → bytes_eq w k ≡ false
not_this w k h none = by (bytes_eq w k) refl where
  by : (b : Bool) → bytes_eq w k ≡ b → b ≡ false
  by true is = let same : w ≡ k = same_name w k is in cc
  by false is = refl

-- no quoted word has an underscore
not_quoted : (w : List ℕ) → has_underscore w ≡ true → is_keyword w ≡ false
not_quoted w h =
    rw (
      not_this w (codes "module") h refl,
      not_this w (codes "endmodule") h refl,
      not_this w (codes "input") h refl,
      not_this w (codes "output") h refl,
      not_this w (codes "wire") h refl,
      not_this w (codes "assign") h refl,
    ) refl

-- a word with an underscore is a name
pub word_is_name : (w : List ℕ) → IsWord w → has_underscore w ≡ true → IsName w
word_is_name w a h = (a, not_quoted w h)

-- a prefix that is written out, which has an underscore, with characters of names behind it
pub prefix_name : (a b : List ℕ) → is_word a ≡ true → has_underscore a ≡ true → Each is_name_character b → IsName (a ++ b)
prefix_name a b w h e = word_is_name (a ++ b) (word_join a b (word_passes a w) e) (underscore_front a b h)
