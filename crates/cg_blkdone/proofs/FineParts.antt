-- The parts of completed descriptions are values that a document can say, and shallow enough.
use Rattle.std.proofs.Common.{ℕ, suc, ◌+◌, ◌-◌, ◌/◌, ◌^◌, Bool, true, false, cond, List, [], ◌∷◌, ◌++◌, map, Option, Some, None, refl, arith}
use Rattle.std.specs.Prelude.{All, codes, decimal, option_map, unwrap_or}
use Rattle.std.specs.Option.{option_map_or}
use Rattle.std.specs.Str.{bytes_eq, IsAscii, IsUtf8}
use Rattle.std.proofs.Math.Nat.{div-le_self, mod-le}
use Rattle.std.proofs.lemmas.Bool.Decides.{nat_tests}
use Rattle.std.proofs.lemmas.List.Elements.{All-head, All-tail}
use Rattle.std.proofs.lemmas.Str.{IsUtf8-from_ascii, IsAscii-append}
use Rattle.std.proofs.lemmas.Str.Ascii.{IsAscii-nil, IsAscii-cons}
use Rattle.serde_json.specs.Data.{Data, boolean, string}
use Rattle.cg_svspec.specs.Characters.{Each, is_digit}
use Rattle.cg_svspec.proofs.Numerals.{decimal_digits}
use Rattle.cg_desc.specs.declared.block.SwAccess.{SwAccess}
use Rattle.cg_desc.specs.declared.block.SwAccess.TheVariants as software
use Rattle.cg_desc.specs.declared.block.HwAccess.{HwAccess}
use Rattle.cg_desc.specs.declared.block.HwAccess.TheVariants as hardware
use Rattle.cg_hjson.specs.Json.{json_of}
use Rattle.cg_hjson.specs.Views.{tree_of}
use Rattle.cg_hjson.specs.declared.tree.Tree.{Tree}
use Rattle.cg_hjson.specs.declared.tree.Member.{Member}
use Rattle.cg_keys.specs.Elements.{elements}
use Rattle.cg_keys.specs.Lookups.{boolean_at, number_at, text_at, window_access_at}
use Rattle.cg_keys.specs.Values.{members_of}
use Rattle.cg_blkread.specs.Described.{field_desc, field_part, no_bits}
use Rattle.cg_blkread.specs.Raw.{Shared, boolean_or_number, boolean_reset, field_reset, filled_name, is_compact, is_true, raw_field, register_reset, shared_of}
use Rattle.cg_blkread.specs.declared.raw.Bits.{Bits}
use Rattle.cg_blkread.specs.declared.raw.RawField.{RawField}
use Rattle.cg_jsonspec.specs.Said.{IsSayable}
use Rattle.cg_blkdone.specs.Full.{Pair, bits_text, copy_pairs, field_pairs, full_fields, full_multireg, full_register, full_window, hardware_word, number_if, number_of, pair_if, register_pairs, reset_of, said_with, software_word, window_pairs}
use Rattle.cg_blkdone.proofs.Fine.{AreFine, FinePairs, IsFine, a_word, fine_with, list_fine, low_ascii}
use Rattle.cg_blkdone.proofs.FineTrees.{IfAny, IsFineTree, IsSmall, fine_elements, number_at_small, says_fine, text_utf8}

-- ---- values without parts

-- a number
pub number_fine : (n k : ℕ) → IsSmall k → IsFine n (number_of k)
unfolding IsSayable
number_fine n k h = (h, omega arith)

-- a string
pub string_fine : (n : ℕ) (s : List ℕ) → IsUtf8 s → IsFine n (string s)
unfolding IsSayable
string_fine n s h = (h, omega arith)

-- true and false
pub boolean_fine : (n : ℕ) (b : Bool) → IsFine n (boolean b)
unfolding IsSayable
boolean_fine n b = (tt, omega arith)

-- ---- lists and pairs

-- values that are made of fine trees
pub each_fine : (m n : ℕ) (f : Tree → Data) (ts : List Tree) → ((t : Tree) → IsFineTree m t → IsFine n (f t)) → All (IsFineTree m) ts → AreFine n (map f ts)
each_fine m n f [] by h = tt
each_fine m n f (t ∷ ts) by h = (by t (All-head (IsFineTree m) t ts h), each_fine m n f ts by (All-tail (IsFineTree m) t ts h))

-- a number at a key, if there is one
if_fine : (n : ℕ) (key : List ℕ) (o : Option ℕ) → IsUtf8 key → IfAny IsSmall o → FinePairs n (pair_if key (option_map number_of o))
if_fine n key None u h = tt
if_fine n key (Some k) u h = (u, number_fine n k h, tt)

-- a number at a key, if it is one there
pub number_if_fine : (n : ℕ) (key : List ℕ) (ms : List Member) → IsUtf8 key → FinePairs n (number_if key ms)
number_if_fine n key ms u = if_fine n key (number_at 0 4294967295 key ms) u (number_at_small key ms)

-- pairs before other pairs
pub both_fine : (n : ℕ) (ps qs : List Pair) → FinePairs n ps → FinePairs n qs → FinePairs n (ps ++ qs)
both_fine n [] qs h k = k
both_fine n (p ∷ ps) qs h k = (h.0, h.1, both_fine n ps qs h.2 k)

-- ---- words

-- the words of the kinds of access
software_utf8 : (a : SwAccess) → IsUtf8 (software_word a)
unfolding software_word
software_utf8 software.Ro = a_word (codes "ro") refl
software_utf8 software.Rc = a_word (codes "rc") refl
software_utf8 software.Rw = a_word (codes "rw") refl
software_utf8 software.R0w1c = a_word (codes "r0w1c") refl
software_utf8 software.Rw1s = a_word (codes "rw1s") refl
software_utf8 software.Rw1c = a_word (codes "rw1c") refl
software_utf8 software.Rw0c = a_word (codes "rw0c") refl
software_utf8 software.Wo = a_word (codes "wo") refl
software_utf8 software.Nothing = a_word (codes "none") refl

hardware_utf8 : (a : HwAccess) → IsUtf8 (hardware_word a)
unfolding hardware_word
hardware_utf8 hardware.Hro = a_word (codes "hro") refl
hardware_utf8 hardware.Hrw = a_word (codes "hrw") refl
hardware_utf8 hardware.Hwo = a_word (codes "hwo") refl
hardware_utf8 hardware.Nothing = a_word (codes "none") refl

-- digits are ASCII
digits_ascii : (s : List ℕ) → Each is_digit s → IsAscii s
digits_ascii [] h = IsAscii-nil
digits_ascii (c ∷ s) h = let digit = h.0 in IsAscii-cons c s (grind (arith, nat_tests)) (digits_ascii s h.1)

-- bits as `m:l`
bits_utf8 : (b : Bits) → IsUtf8 (bits_text b)
unfolding bits_text
bits_utf8 b =
    IsUtf8-from_ascii _ (IsAscii-append (decimal b.msb) _ (digits_ascii (decimal b.msb) (decimal_digits b.msb))
    (IsAscii-cons 58 (decimal b.lsb) (omega arith) (digits_ascii (decimal b.lsb) (decimal_digits b.lsb))))

-- the name of a field by its place
numbered_utf8 : (k : ℕ) → IsUtf8 (codes "field" ++ decimal k)
numbered_utf8 k = IsUtf8-from_ascii _ (IsAscii-append (codes "field") (decimal k) (low_ascii (codes "field") refl) (digits_ascii (decimal k) (decimal_digits k)))

-- the name that counts for a field
name_utf8 : (own : Option (List ℕ)) (register : List ℕ) (sole : Bool) (k : ℕ) → IfAny IsUtf8 own → IsUtf8 register → IsUtf8 (filled_name own register sole k)
name_utf8 (Some name) register sole k own u = own
name_utf8 None register true k own u = u
name_utf8 None register false k own u = numbered_utf8 k

-- a string, or else another
pub or_utf8 : (o : Option (List ℕ)) (s : List ℕ) → IfAny IsUtf8 o → IsUtf8 s → IsUtf8 (unwrap_or o s)
or_utf8 None s h u = u
or_utf8 (Some x) s h u = h

-- a number, or else another
pub or_small : (o : Option ℕ) (k : ℕ) → IfAny IsSmall o → IsSmall k → IsSmall (unwrap_or o k)
or_small None k h u = u
or_small (Some x) k h u = h

-- ---- reset values

-- the reset values of booleans
boolean_small : (mubi b : Bool) → IsSmall (boolean_reset mubi b)
boolean_small true true = omega arith
boolean_small true false = omega arith
boolean_small false true = omega arith
boolean_small false false = omega arith

-- a boolean as a reset value, or else a number
either_small : (mubi : Bool) (b : Option Bool) (o : Option ℕ) → IfAny IsSmall o → IfAny IsSmall (boolean_or_number mubi b o)
either_small mubi None o h = h
either_small mubi (Some b) o h = boolean_small mubi b

-- the reset value of a register
register_reset_small : (ms : List Member) → IfAny IsSmall (register_reset ms)
unfolding register_reset
register_reset_small ms = either_small false (boolean_at (codes "resval") ms) (number_at 0 4294967295 (codes "resval") ms) (number_at_small (codes "resval") ms)

-- 0 for the unknown value
unknown_small : (b : Bool) (o : Option ℕ) → IfAny IsSmall o → IfAny IsSmall (cond b (Some 0) o)
unknown_small true o h = omega arith
unknown_small false o h = h

-- the reset value that a field has itself
field_reset_small : (mubi : Bool) (ms : List Member) → IfAny IsSmall (field_reset mubi ms)
unfolding field_reset
field_reset_small mubi ms =
    unknown_small (option_map_or (bytes_eq (codes "x")) (text_at (codes "resval") ms) false) _
    (either_small mubi (boolean_at (codes "resval") ms) (number_at 0 4294967295 (codes "resval") ms) (number_at_small (codes "resval") ms))

-- a field's bits of its register's reset value
part_small : (v : ℕ) (b : Bits) → IsSmall v → IsSmall (field_part v b)
part_small v b h =
    let high = mod-le (v / 2 ^ b.lsb) (2 ^ (b.msb - b.lsb + 1)) in
    let whole = div-le_self v (2 ^ b.lsb) in
    omega (arith, high, whole, h)

-- a field's own reset value, or its bits of its register's, or 0
own_or_part : (own reset : Option ℕ) (b : Bits) → IfAny IsSmall own → IfAny IsSmall reset → IsSmall (unwrap_or own (option_map_or (λ v. field_part v b) reset 0))
own_or_part (Some v) reset b h r = h
own_or_part None None b h r = omega arith
own_or_part None (Some v) b h r = part_small v b r

-- the reset value that counts for a field
reset_small : (reset : Option ℕ) (f : RawField) → IfAny IsSmall f.resval → IfAny IsSmall reset → IsSmall (reset_of reset f)
unfolding field_desc
reset_small reset f h r = own_or_part f.resval reset (unwrap_or f.bits no_bits) h r

-- ---- fields

-- a field with everything said
field_fine : (n : ℕ) (shared : Shared) (reset : Option ℕ) (k : ℕ) (t : Tree) → IsUtf8 shared.name → IfAny IsSmall reset → IsFineTree (suc n) t
    → IsFine (suc n) (said_with (field_pairs reset (raw_field shared k t)) t)
unfolding field_pairs raw_field
field_fine n shared reset k t u r h =
    let f = raw_field shared k t in
    fine_with n (field_pairs reset f) (json_of (tree_of t)) (
      a_word (codes "bits") refl,
      string_fine n _ (bits_utf8 (unwrap_or f.bits no_bits)),
      (
        a_word (codes "name") refl,
        string_fine n _ (name_utf8 (text_at (codes "name") (members_of t)) shared.name shared.sole k (text_utf8 n t (codes "name") h) u),
        (
          a_word (codes "swaccess") refl,
          string_fine n _ (software_utf8 f.sw),
          (
            a_word (codes "hwaccess") refl,
            string_fine n _ (hardware_utf8 f.hw),
            (
              a_word (codes "resval") refl,
              number_fine n _ (reset_small reset f (field_reset_small f.mubi (members_of t)) r),
              (a_word (codes "mubi") refl, boolean_fine n f.mubi, tt),
            ),
          ),
        ),
      ),
    )
    (says_fine (suc n) t h)

-- the fields of a register
fields_fine : (n : ℕ) (shared : Shared) (reset : Option ℕ) (k : ℕ) (ts : List Tree) → IsUtf8 shared.name → IfAny IsSmall reset → All (IsFineTree (suc n)) ts
    → AreFine (suc n) (full_fields shared reset k ts)
unfolding full_fields
fields_fine n shared reset k [] u r h = tt
fields_fine n shared reset k (t ∷ ts) u r h =
    (field_fine n shared reset k t u r (All-head (IsFineTree (suc n)) t ts h), fields_fine n shared reset (k + 1) ts u r (All-tail (IsFineTree (suc n)) t ts h))

-- ---- entries

-- what is put into a register
pub registers_fine : (n : ℕ) (t : Tree) → IsFineTree (suc (suc (suc n))) t → FinePairs (suc (suc n)) (register_pairs (members_of t))
unfolding register_pairs shared_of
registers_fine n t h =
    let ms = members_of t in
    let m = suc (suc n) in
    let named = or_utf8 (text_at (codes "name") ms) [] (text_utf8 m t (codes "name") h) (a_word [] refl) in
    let fields = fields_fine n (shared_of ms) (register_reset ms) 1 (elements (codes "fields") ms) named (register_reset_small ms) (fine_elements (suc n) t (codes "fields") h) in (
      a_word (codes "swaccess") refl,
      string_fine m _ (software_utf8 (shared_of ms).sw),
      (
        a_word (codes "hwaccess") refl,
        string_fine m _ (hardware_utf8 (shared_of ms).hw),
        (
          a_word (codes "hwext") refl,
          boolean_fine m (is_true (codes "hwext") ms),
          (
            a_word (codes "hwqe") refl,
            boolean_fine m (is_true (codes "hwqe") ms),
            (
              a_word (codes "hwre") refl,
              boolean_fine m (is_true (codes "hwre") ms),
              (
                a_word (codes "shadowed") refl,
                boolean_fine m (is_true (codes "shadowed") ms),
                (
                  a_word (codes "fields") refl,
                  list_fine (suc n) _ fields,
                  if_fine m (codes "resval") (register_reset ms) (a_word (codes "resval") refl) (register_reset_small ms),
                ),
              ),
            ),
          ),
        ),
      ),
    )

-- a register
pub register_fine : (n : ℕ) (t : Tree) → IsFineTree (suc (suc (suc n))) t → IsFine (suc (suc (suc n))) (full_register t)
register_fine n t h = fine_with (suc (suc n)) (register_pairs (members_of t)) (json_of (tree_of t)) (registers_fine n t h) (says_fine (suc (suc (suc n))) t h)

-- what is put into a multireg beside that
copies_fine : (n : ℕ) (ms : List Member) → FinePairs n (copy_pairs ms)
unfolding copy_pairs
copies_fine n ms = (
  a_word (codes "regwen_multi") refl,
  boolean_fine n (is_true (codes "regwen_multi") ms),
  (a_word (codes "compact") refl, boolean_fine n (is_compact ms), number_if_fine n (codes "count") ms (a_word (codes "count") refl)),
)

-- a multireg
pub multireg_fine : (n : ℕ) (t : Tree) → IsFineTree (suc (suc (suc n))) t → IsFine (suc (suc (suc n))) (full_multireg t)
multireg_fine n t h =
    let ms = members_of t in
    let pairs = both_fine (suc (suc n)) (register_pairs ms) (copy_pairs ms) (registers_fine n t h) (copies_fine (suc (suc n)) ms) in
    fine_with (suc (suc n)) (register_pairs ms ++ copy_pairs ms) (json_of (tree_of t)) pairs (says_fine (suc (suc (suc n))) t h)

-- what is put into a window
windows_fine : (n : ℕ) (ms : List Member) → FinePairs n (window_pairs ms)
unfolding window_pairs
windows_fine n ms = (
  a_word (codes "byte-write") refl,
  boolean_fine n (is_true (codes "byte-write") ms),
  (
    a_word (codes "swaccess") refl,
    string_fine n _ (software_utf8 (unwrap_or (window_access_at (codes "swaccess") ms) software.Rw)),
    number_if_fine n (codes "items") ms (a_word (codes "items") refl),
  ),
)

-- a window
pub window_fine : (n : ℕ) (t : Tree) → IsFineTree (suc n) t → IsFine (suc n) (full_window t)
window_fine n t h = fine_with n (window_pairs (members_of t)) (json_of (tree_of t)) (windows_fine n (members_of t)) (says_fine (suc n) t h)
