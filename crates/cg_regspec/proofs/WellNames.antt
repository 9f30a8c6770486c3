-- The names of a register module's nets are names: words that the grammar does not quote, since they have an underscore.
use Rattle.std.proofs.Common.{◌≡◌, ℕ, true, Some, None, List, [], ◌∷◌, ◌++◌, map, refl, arith, codes}
use Rattle.std.specs.List.{list_all}
use Rattle.std.specs.Str.{str_to_ascii_lowercase}
use Rattle.std.specs.Char.{to_ascii_lowercase}
use Rattle.std.specs.Fmt.{decimal}
use Rattle.std.proofs.lemmas.Bool.Decides.{nat_tests}
use Rattle.cg_svspec.specs.Characters.{is_first, is_name_character, is_digit, Each, IsWord, IsName}
use Rattle.cg_svspec.proofs.Runs.{each_passes}
use Rattle.cg_svspec.proofs.Numerals.{decimal_digits}
use Rattle.cg_svspec.proofs.WellNames.{has_underscore, is_word, each_join, each_weaker, word_join, word_characters, underscore_front, underscore_back, word_is_name, prefix_name}
use Rattle.cg_desc.specs.declared.block.FieldDesc.{FieldDesc}
use Rattle.cg_desc.specs.declared.block.RegDesc.{RegDesc}
use Rattle.cg_desc.specs.declared.block.WindowDesc.{WindowDesc}
use Rattle.cg_regspec.specs.NetNames.{base, window_base, flop_instance, staged_instance, update_error_net}
use Rattle.cg_regspec.specs.RegisterModule.{register_module_name}

-- ---- rows

-- a digit stands in names
digit_in_name : (c : ℕ) → is_digit c ≡ true → is_name_character c ≡ true
digit_in_name c h = grind (arith, nat_tests)

-- a prefix with a row's number
pub row_name : (a : List ℕ) (i : ℕ) → is_word a ≡ true → has_underscore a ≡ true → IsName (a ++ decimal i)
row_name a i w h = prefix_name a (decimal i) w h (each_weaker is_digit is_name_character digit_in_name (decimal i) (decimal_digits i))

-- with an ending behind the number
pub row_end_name : (a : List ℕ) (i : ℕ) (end : List ℕ) → is_word a ≡ true → has_underscore a ≡ true → list_all is_name_character end ≡ true → IsName (a ++ (decimal i ++ end))
row_end_name a i end w h e =
    prefix_name a (decimal i ++ end) w h
    (each_join is_name_character (decimal i) end (each_weaker is_digit is_name_character digit_in_name (decimal i) (decimal_digits i)) (each_passes is_name_character end e))

-- ---- fields and windows

-- a letter stays one in lower case
lower_first : (c : ℕ) → is_first c ≡ true → is_first (to_ascii_lowercase c) ≡ true
lower_first c h = grind (arith, nat_tests)

-- and a character of names stays one
lower_character : (c : ℕ) → is_name_character c ≡ true → is_name_character (to_ascii_lowercase c) ≡ true
lower_character c h = grind (arith, nat_tests)

-- so do all of a text
lower_each : (cs : List ℕ) → Each is_name_character cs → Each is_name_character (map to_ascii_lowercase cs)
lower_each [] e = tt
lower_each (c ∷ cs) e = (lower_character c e.0, lower_each cs e.1)

-- a word is one in lower case
lower_word : (w : List ℕ) → IsWord w → IsWord (str_to_ascii_lowercase w)
lower_word [] h = absurd h
lower_word (c ∷ cs) h = (lower_first c h.0, lower_each cs h.1)

-- what a field's names begin with is a word
base_word : (r : RegDesc) (f : FieldDesc) → IsWord r.name → IsWord f.name → IsWord (base r f)
unfolding base
base_word r f a b =
    word_join (str_to_ascii_lowercase r.name) (codes "_" ++ str_to_ascii_lowercase f.name) (lower_word r.name a)
    (refl, word_characters (str_to_ascii_lowercase f.name) (lower_word f.name b))

-- with an underscore
base_underscore : (r : RegDesc) (f : FieldDesc) → has_underscore (base r f) ≡ true
unfolding base
base_underscore r f = underscore_back (str_to_ascii_lowercase r.name) (codes "_" ++ str_to_ascii_lowercase f.name) refl

-- a field's net
pub field_name : (r : RegDesc) (f : FieldDesc) (end : List ℕ) → IsWord r.name → IsWord f.name → list_all is_name_character end ≡ true → IsName (base r f ++ end)
field_name r f end a b e =
    word_is_name (base r f ++ end) (word_join (base r f) end (base_word r f a b) (each_passes is_name_character end e)) (underscore_front (base r f) end (base_underscore r f))

-- a field's instance
pub flop_instance_name : (r : RegDesc) (f : FieldDesc) → IsWord r.name → IsWord f.name → IsName (flop_instance r f)
flop_instance_name r f a b = prefix_name (codes "u_") (base r f) refl refl (word_characters (base r f) (base_word r f a b))

-- and the one of its staged value
pub staged_instance_name : (r : RegDesc) (f : FieldDesc) → IsWord r.name → IsWord f.name → IsName (staged_instance r f)
staged_instance_name r f a b =
    prefix_name (codes "u_") (base r f ++ codes "_t") refl refl
    (each_join is_name_character (base r f) (codes "_t") (word_characters (base r f) (base_word r f a b)) (each_passes is_name_character (codes "_t") refl))

-- a shadowed register's port
pub update_error_name : (r : RegDesc) → IsWord r.name → IsName (update_error_net r)
unfolding update_error_net
update_error_name r a =
    prefix_name (codes "upd_") (str_to_ascii_lowercase r.name ++ codes "_err") refl refl
    (each_join is_name_character (str_to_ascii_lowercase r.name) (codes "_err") (word_characters (str_to_ascii_lowercase r.name) (lower_word r.name a)) (each_passes is_name_character (codes "_err") refl))

-- a window has characters of names alone, with an ending of such
window_characters : (w : WindowDesc) (end : List ℕ) → IsWord w.name → list_all is_name_character end ≡ true → Each is_name_character (str_to_ascii_lowercase w.name ++ end)
window_characters w end a e =
    each_join is_name_character (str_to_ascii_lowercase w.name) end (word_characters (str_to_ascii_lowercase w.name) (lower_word w.name a)) (each_passes is_name_character end e)

-- a window's port
pub window_name : (w : WindowDesc) (end : List ℕ) → IsWord w.name → list_all is_name_character end ≡ true → IsName (window_base w ++ end)
unfolding window_base
window_name w end a e = prefix_name (codes "win_") (str_to_ascii_lowercase w.name ++ end) refl refl (window_characters w end a e)

-- ---- the module

-- the name of the register module of a block's only interface without a name
pub block_module_name : (block : List ℕ) → IsWord block → IsName (register_module_name block None)
block_module_name block w =
    word_is_name (block ++ codes "_reg_top") (word_join block (codes "_reg_top") w (each_passes is_name_character (codes "_reg_top") refl)) (underscore_back block (codes "_reg_top") refl)

-- and of an interface with a name
pub interface_module_name : (block interface : List ℕ) → IsWord block → IsWord interface → IsName (register_module_name block (Some interface))
interface_module_name block interface w i =
    let end : List ℕ = codes "_" ++ (interface ++ codes "_reg_top") in
    word_is_name (block ++ end)
    (word_join block end w (refl, each_join is_name_character interface (codes "_reg_top") (word_characters interface i) (each_passes is_name_character (codes "_reg_top") refl)))
    (underscore_back block end refl)
