-- The names that a top's header defines are words.
use Rattle.std.proofs.Common.{◌≡◌, ℕ, Bool, true, false, cond, eqb, Option, Some, None, List, ◌++◌, refl, codes, arith}
use Rattle.std.specs.Fmt.{decimal}
use Rattle.std.proofs.lemmas.Bool.Decides.{nat_tests}
use Rattle.cg_desc.specs.Valid.{IsNameIfAny}
use Rattle.cg_hdrspec.specs.BlockHeader.{upper, behind}
use Rattle.cg_hdrspec.proofs.NamesAreWords.{behind_word, each_join, each_weaker, upper_word, word_characters, word_ends, word_join}
use Rattle.cg_svspec.specs.Characters.{IsWord, is_digit, is_name_character}
use Rattle.cg_svspec.proofs.Numerals.{decimal_digits}
use Rattle.cg_svspec.proofs.Runs.{each_passes}
use Rattle.cg_tophdr.specs.TopHeader.{base_of, bit_name, guard_of, interface_name, size_of, top_prefix, with_bit}

prefix_word : (top : List ℕ) → IsWord top → IsWord (top_prefix top)
prefix_word top w = word_join (codes "TOP_") (upper top) (refl, each_passes is_name_character (codes "OP_") refl) (word_characters (upper top) (upper_word top w))

pub interface_word : (top inst : List ℕ) (interface : Option (List ℕ)) → IsWord top → IsWord inst → IsNameIfAny interface → IsWord (interface_name top inst interface)
unfolding interface_name
interface_word top inst None t i n = behind_word (top_prefix top) (upper inst) (prefix_word top t) (upper_word inst i)
interface_word top inst (Some interface) t i n =
    behind_word (behind (top_prefix top) (upper inst)) (upper interface) (behind_word (top_prefix top) (upper inst) (prefix_word top t) (upper_word inst i)) (upper_word interface n.0)

pub base_word : (interface : List ℕ) → IsWord interface → IsWord (base_of interface)
base_word interface w = word_ends interface (codes "_BASE_ADDR") w refl

pub size_word : (interface : List ℕ) → IsWord interface → IsWord (size_of interface)
size_word interface w = word_ends interface (codes "_SIZE_BYTES") w refl

-- the digits of a number may stand in a name
digit_in_name : (c : ℕ) → is_digit c ≡ true → is_name_character c ≡ true
digit_in_name c h = grind (arith, nat_tests)

bit_word : (name : List ℕ) (width bit : ℕ) → IsWord name → IsWord (with_bit name width bit)
bit_word name width bit w = by (eqb width 1) where
  by : (b : Bool) → IsWord (cond b name (behind name (decimal bit)))
  by true = w
  by false =
      word_join name (codes "_" ++ decimal bit) w
      (each_join is_name_character (codes "_") (decimal bit) (refl, tt) (each_weaker is_digit is_name_character digit_in_name (decimal bit) (decimal_digits bit)))

-- behind a word for a kind
pub kind_word : (top kind inst item : List ℕ) (width bit : ℕ) → IsWord top → IsWord kind → IsWord inst → IsWord item → IsWord (bit_name top kind inst item width bit)
unfolding bit_name
kind_word top kind inst item width bit t k i n =
    bit_word (behind (behind (behind (top_prefix top) kind) (upper inst)) (upper item)) width bit
    (behind_word (behind (behind (top_prefix top) kind) (upper inst)) (upper item)
    (behind_word (behind (top_prefix top) kind) (upper inst) (behind_word (top_prefix top) kind (prefix_word top t) k) (upper_word inst i))
    (upper_word item n))

pub guard_word : (top : List ℕ) → IsWord top → IsWord (guard_of top)
unfolding guard_of
guard_word top w =
    (refl, each_join is_name_character (top_prefix top) (codes "_H_") (word_characters (top_prefix top) (prefix_word top w)) (each_passes is_name_character (codes "_H_") refl))
