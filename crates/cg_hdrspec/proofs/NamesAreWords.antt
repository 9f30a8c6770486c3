-- The names that a header defines are words.
use Rattle.std.proofs.Common.{◌≡◌, ℕ, Bool, true, Option, Some, None, List, [], ◌∷◌, ◌++◌, map, refl, arith, codes}
use Rattle.std.specs.List.{list_all}
use Rattle.std.specs.Char.{to_ascii_uppercase}
use Rattle.std.proofs.lemmas.Bool.Decides.{nat_tests}
use Rattle.cg_svspec.specs.Characters.{is_first, is_name_character, Each, IsWord}
use Rattle.cg_svspec.proofs.Runs.{each_passes}
use Rattle.cg_desc.specs.Valid.{IsNameIfAny}
use Rattle.cg_desc.specs.declared.block.FieldDesc.{FieldDesc}
use Rattle.cg_hdrspec.specs.BlockHeader.{upper, behind, prefix_of, row_name, field_name, guard_of}

-- what holds of the characters of two texts holds of both together
pub each_join : (p : ℕ → Bool) (xs ys : List ℕ) → Each p xs → Each p ys → Each p (xs ++ ys)
each_join p [] ys a b = b
each_join p (x ∷ xs) ys a b = (a.0, each_join p xs ys a.1 b)

-- a weaker test holds of them too
pub each_weaker : (p q : ℕ → Bool) → ((c : ℕ) → p c ≡ true → q c ≡ true) → (xs : List ℕ) → Each p xs → Each q xs
each_weaker p q up [] a = tt
each_weaker p q up (x ∷ xs) a = (up x a.0, each_weaker p q up xs a.1)

-- a word has characters of names alone
pub word_characters : (w : List ℕ) → IsWord w → Each is_name_character w
word_characters [] h = absurd h
word_characters (c ∷ cs) h = (rw (h.0) refl, h.1)

-- a word with characters of names behind it
pub word_join : (a b : List ℕ) → IsWord a → Each is_name_character b → IsWord (a ++ b)
word_join [] b w e = absurd w
word_join (c ∷ cs) b w e = (w.0, each_join is_name_character cs b w.1 e)

-- a word with a text of such characters behind it, which is written out
pub word_ends : (a b : List ℕ) → IsWord a → list_all is_name_character b ≡ true → IsWord (a ++ b)
word_ends a b w e = word_join a b w (each_passes is_name_character b e)

-- a letter stays one in upper case
upper_first : (c : ℕ) → is_first c ≡ true → is_first (to_ascii_uppercase c) ≡ true
upper_first c h = grind (arith, nat_tests)

-- and a character of names stays one
upper_in_name : (c : ℕ) → is_name_character c ≡ true → is_name_character (to_ascii_uppercase c) ≡ true
upper_in_name c h = grind (arith, nat_tests)

upper_each : (xs : List ℕ) → Each is_name_character xs → Each is_name_character (map to_ascii_uppercase xs)
upper_each [] a = tt
upper_each (x ∷ xs) a = (upper_in_name x a.0, upper_each xs a.1)

-- a word in upper case
pub upper_word : (w : List ℕ) → IsWord w → IsWord (upper w)
upper_word [] h = absurd h
upper_word (c ∷ cs) h = (upper_first c h.0, upper_each cs h.1)

-- a word behind another one
pub behind_word : (a b : List ℕ) → IsWord a → IsWord b → IsWord (behind a b)
behind_word a b v w = word_join a (codes "_" ++ b) v (each_join is_name_character (codes "_") b (refl, tt) (word_characters b w))

-- what the names of an interface begin with
pub prefix_word : (block : List ℕ) (name : Option (List ℕ)) → IsWord block → IsNameIfAny name → IsWord (prefix_of block name)
unfolding prefix_of
prefix_word block None w n = upper_word block w
prefix_word block (Some name) w n = behind_word (upper block) (upper name) (upper_word block w) (upper_word name n.0)

-- the name of a register or window
pub row_word : (prefix name : List ℕ) → IsWord prefix → IsWord name → IsWord (row_name prefix name)
unfolding row_name
row_word prefix name p w = behind_word prefix (upper name) p (upper_word name w)

-- the name of a field
pub field_word : (register : List ℕ) (f : FieldDesc) → IsWord register → IsWord f.name → IsWord (field_name register f)
unfolding field_name
field_word register f r w = behind_word register (upper f.name) r (upper_word f.name w)

-- the name of the guard
pub guard_word : (block : List ℕ) → IsWord block → IsWord (guard_of block)
unfolding guard_of
guard_word block w =
    (refl, each_join is_name_character (upper block) (codes "_REG_DEFS_") (word_characters (upper block) (upper_word block w)) (each_passes is_name_character (codes "_REG_DEFS_") refl))
