-- What the entries of a block break of the rules on bits, reset values and counts, by the JSON values that they tell.
use Rattle.std.proofs.Common.{◌≡◌, ℕ, ◌+◌, ◌^◌, ◌/◌, ◌%◌, Bool, true, false, not, ◌&&◌, ◌||◌, ◌==◌, cond, is_some, codes, bytes_eq, List, [], ◌∷◌, ◌++◌, map, Option, Some, None, option_map, option_and_then, unwrap_or, refl, ap, ◌∙◌}
use Rattle.std.specs.List.{flat_map, list_all, list_any, range_with_len}
use Rattle.std.specs.Option.{option_map_or}
use Rattle.serde_json.specs.Data.{Data}
use Rattle.serde_json.specs.Find.{as_str, get}
use Rattle.cg_finding.specs.Finding.{each_after, finding}
use Rattle.cg_desc.specs.declared.block.SwAccess.TheVariants as software
use Rattle.cg_desc.specs.declared.block.HwAccess.TheVariants as hardware
use Rattle.cg_hjson.specs.declared.tree.Tree.{Tree}
use Rattle.cg_keys.specs.Elements.{elements}
use Rattle.cg_keys.specs.Table.{value_at}
use Rattle.cg_keys.specs.Values.{members_of}
use Rattle.cg_blkread.specs.Raw.{Parameter, Shared, boolean_or_number, count_at, field_reset, number_or_parameter, raw_entry, raw_field, raw_fields, raw_multireg, raw_register, raw_window, register_reset, shared_of, number_or_zero}
use Rattle.cg_blkread.specs.Values.{bad_bits, bad_count, entry_values, has_stray_bit, holds_bit, is_count_to, is_too_wide, no_fields, overlap, register_values, shares_bit, stray_reset, wide_reset}
use Rattle.cg_blkread.specs.declared.raw.Bits.{Bits}
use Rattle.cg_blkread.specs.declared.raw.RawField.{RawField}
use Rattle.cg_blkread.specs.declared.raw.RawRegister.{RawRegister}
use Rattle.cg_blkread.specs.declared.raw.RawEntry.TheVariants as entry
use Rattle.cg_blkdone.specs.Places.{start}
use Rattle.cg_blkdone.proofs.Lookups.{bits_at_told, bits_told_in, boolean_at_told, boolean_told_in, elements_told, number_at_told, number_told_in, text_at_told}
use Rattle.cg_blkdone.proofs.SoundEntries.{is_true_told}
use Rattle.cg_blkdone.proofs.SoundNone.{is_none, none_by_both, none_of_each, none_unless, none_when}
use Rattle.cg_blkdone.proofs.SoundTables.{elements_of}
use Rattle.cg_blkdone.proofs.Told.{found_told, told}

-- ---- fields

-- the bits of a field, if they are good
abbrev pub own_bits : Data → Option Bits
own_bits d = option_and_then bits_told_in (get (codes "bits") d)

-- the number at a key, if it has 32 bits
abbrev pub word_told : List ℕ → Data → Option ℕ
word_told key d = option_and_then (number_told_in 0 4294967295) (get key d)

-- the boolean at a key, if it is one
abbrev pub true_told : List ℕ → Data → Option Bool
true_told key d = option_and_then boolean_told_in (get key d)

-- the string at a key, if it is one
abbrev pub text_told_at : List ℕ → Data → Option (List ℕ)
text_told_at key d = option_and_then as_str (get key d)

-- a field's own reset value, if it has one
abbrev pub own_reset : Data → Option ℕ
own_reset d =
    cond (option_map_or (bytes_eq (codes "x")) (text_told_at (codes "resval") d) false) (Some 0)
    (boolean_or_number (is_true_told (codes "mubi") d) (true_told (codes "resval") d) (word_told (codes "resval") d))

-- a register's reset value, if it has one
abbrev pub reset_told : Data → Option ℕ
reset_told d = boolean_or_number false (true_told (codes "resval") d) (word_told (codes "resval") d)

-- the bits of a field by what it tells
pub bits_by_told : (shared : Shared) (n : ℕ) (t : Tree) → (raw_field shared n t).bits ≡ own_bits (told t)
unfolding raw_field
bits_by_told shared n t = bits_at_told (codes "bits") t

-- its reset value by what it tells
pub own_reset_by_told : (shared : Shared) (n : ℕ) (t : Tree) → (raw_field shared n t).resval ≡ own_reset (told t)
unfolding raw_field field_reset
own_reset_by_told shared n t = λ i.
    cond (option_map_or (bytes_eq (codes "x")) (text_at_told (codes "resval") t i) false) (Some 0)
    (boolean_or_number (unwrap_or (boolean_at_told (codes "mubi") t i) false) (boolean_at_told (codes "resval") t i) (number_at_told 0 4294967295 (codes "resval") t i))

-- the reset value of a register by what it tells
pub reset_by_told : (t : Tree) → register_reset (members_of t) ≡ reset_told (told t)
unfolding register_reset
reset_by_told t = λ i. boolean_or_number false (boolean_at_told (codes "resval") t i) (number_at_told 0 4294967295 (codes "resval") t i)

-- ---- fields together

-- the bits of fields
abbrev pub raw_bits : List RawField → List (Option Bits)
raw_bits fs = map (λ f. f.bits) fs

raw_bits_told : (shared : Shared) (n : ℕ) (ts : List Tree) → raw_bits (raw_fields shared n ts) ≡ map own_bits (map told ts)
raw_bits_told shared n [] = refl
raw_bits_told shared n (t ∷ ts) = λ i. bits_by_told shared n t i ∷ raw_bits_told shared (n + 1) ts i

-- no bits share one with earlier ones
abbrev pub are_apart : List (Option Bits) → List (Option Bits) → Bool
are_apart before [] = true
are_apart before (b ∷ bs) = not (list_any (λ a. shares_bit a b) before) && are_apart (before ++ b ∷ []) bs

any_shares : (before : List RawField) (b : Option Bits) → list_any (λ (f : RawField). shares_bit f.bits b) before ≡ list_any (λ a. shares_bit a b) (raw_bits before)
any_shares [] b = refl
any_shares (f ∷ fs) b = ap (λ t. shares_bit f.bits b || t) (any_shares fs b)

bits_behind : (fs : List RawField) (f : RawField) → raw_bits (fs ++ f ∷ []) ≡ raw_bits fs ++ f.bits ∷ []
bits_behind [] f = refl
bits_behind (g ∷ gs) f = ap (λ bs. g.bits ∷ bs) (bits_behind gs f)

-- what is found of bits that are shared
pub none_overlap : (before fs : List RawField) → is_none (each_after overlap before fs) ≡ are_apart (raw_bits before) (raw_bits fs)
unfolding each_after
none_overlap before [] = refl
none_overlap before (f ∷ fs) =
    none_by_both (overlap before f) (each_after overlap (before ++ f ∷ []) fs) _ _
    (none_when (list_any (λ b. shares_bit b.bits f.bits) before) (finding 3 31 f.bits_at f.name) ∙ ap not (any_shares before f.bits))
    (none_overlap (before ++ f ∷ []) fs ∙ ap (λ bs. are_apart bs (raw_bits fs)) (bits_behind before f))

-- a reset value fits its bits
abbrev pub is_narrow : Data → Bool
is_narrow d = not (is_too_wide (own_bits d) (own_reset d))

all_narrow : (shared : Shared) (n : ℕ) (ts : List Tree) → list_all (λ (f : RawField). not (is_too_wide f.bits f.resval)) (raw_fields shared n ts) ≡ list_all is_narrow (map told ts)
all_narrow shared n [] = refl
all_narrow shared n (t ∷ ts) = λ i. not (is_too_wide (bits_by_told shared n t i) (own_reset_by_told shared n t i)) && all_narrow shared (n + 1) ts i

all_some : (fs : List RawField) → list_all (λ (f : RawField). is_some f.bits) fs ≡ list_all is_some (raw_bits fs)
all_some [] = refl
all_some (f ∷ fs) = ap (λ b. is_some f.bits && b) (all_some fs)

-- ---- bits of a register that are no field's

-- a field of which only the bits are known
abbrev pub bare : Option Bits → RawField
bare b = record {
  name = codes "f";
  bits = b;
  bits_at = start;
  sw = software.Ro;
  hw = hardware.Hro;
  resval = None;
  resval_at = start;
  mubi = false;
  at = start;
}

any_holds : (k : ℕ) (fs : List RawField) → list_any (λ (f : RawField). holds_bit k f.bits) fs ≡ list_any (λ (f : RawField). holds_bit k f.bits) (map bare (raw_bits fs))
any_holds k [] = refl
any_holds k (f ∷ fs) = ap (λ t. holds_bit k f.bits || t) (any_holds k fs)

-- some bit of the value is in none of these bits
abbrev pub is_stray : List (Option Bits) → ℕ → Bool
is_stray bs v = has_stray_bit (map bare bs) v

stray_by_bits : (fs : List RawField) (v : ℕ) → has_stray_bit fs v ≡ is_stray (raw_bits fs) v
unfolding has_stray_bit
stray_by_bits fs v = λ i. list_any (λ k. ((v / 2 ^ k) % 2 == 1) && not (any_holds k fs i)) (range_with_len 0 32)

-- some bit of the reset value is in none of the fields, where all their bits are good
abbrev pub strays : List (Option Bits) → Option ℕ → Bool
strays bs v = list_all is_some bs && option_map_or (is_stray bs) v false

strays_by_bits : (fs : List RawField) (v : Option ℕ) → option_map_or (has_stray_bit fs) v false ≡ option_map_or (is_stray (raw_bits fs)) v false
strays_by_bits fs None = refl
strays_by_bits fs (Some v) = stray_by_bits fs v

-- ---- registers

-- a list is not empty
abbrev pub has_some : {X : Type 0} → List X → Bool
has_some [] = false
has_some (x ∷ xs) = true

-- a register breaks no rule on values
abbrev pub register_values_good : Data → Bool
register_values_good d =
    has_some (map own_bits (elements_of (codes "fields") d)) && (list_all is_some (map own_bits (elements_of (codes "fields") d))
    && (are_apart [] (map own_bits (elements_of (codes "fields") d)) && (list_all is_narrow (elements_of (codes "fields") d)
    && not (strays (map own_bits (elements_of (codes "fields") d)) (reset_told d)))))

some_field : (r : RawRegister) (fs : List RawField) → is_none (no_fields (record r { fields = fs })) ≡ has_some (raw_bits fs)
some_field r [] = refl
some_field r (f ∷ fs) = refl

by_fields : (r : RawRegister) → is_none (register_values r)
    ≡ (has_some (raw_bits r.fields) && (list_all is_some (raw_bits r.fields) && (are_apart [] (raw_bits r.fields)
    && (list_all (λ (f : RawField). not (is_too_wide f.bits f.resval)) r.fields && not (strays (raw_bits r.fields) r.resval)))))
unfolding register_values stray_reset
by_fields r =
    none_by_both (no_fields r) _ _ _ (some_field r r.fields)
    (none_by_both (flat_map (bad_bits r.name) r.fields) _ _ _
    (none_of_each (bad_bits r.name) (λ f. is_some f.bits) r.fields (λ f. none_unless (is_some f.bits) (finding 3 30 f.bits_at r.name)) ∙ all_some r.fields)
    (none_by_both (each_after overlap [] r.fields) _ _ _ (none_overlap [] r.fields)
    (none_by_both (flat_map (wide_reset r.name) r.fields) (stray_reset r) _ _
    (none_of_each (wide_reset r.name) (λ f. not (is_too_wide f.bits f.resval)) r.fields (λ f. none_when (is_too_wide f.bits f.resval) (finding 3 32 f.resval_at r.name)))
    (none_when (list_all (λ f. is_some f.bits) r.fields && option_map_or (has_stray_bit r.fields) r.resval false) (finding 3 32 r.resval_at r.name)
    ∙ (λ i. not (all_some r.fields i && strays_by_bits r.fields r.resval i))))))

none_of_register_values : (t : Tree) → is_none (register_values (raw_register t)) ≡ register_values_good (told t)
unfolding raw_register
none_of_register_values t =
    let shared : Shared = shared_of (members_of t) in
    let ts : List Tree = elements (codes "fields") (members_of t) in
    let bits : raw_bits (raw_fields shared 1 ts) ≡ map own_bits (elements_of (codes "fields") (told t)) = raw_bits_told shared 1 ts
    ∙ ap (map own_bits) (elements_told (codes "fields") t) in
    let narrow = all_narrow shared 1 ts ∙ ap (list_all is_narrow) (elements_told (codes "fields") t) in
    by_fields (raw_register t)
    ∙ (λ i. has_some (bits i) && (list_all is_some (bits i) && (are_apart [] (bits i) && (narrow i && not (strays (bits i) (reset_by_told t i))))))

-- ---- entries

-- a number, or that of the parameter that is named
abbrev pub count_told : List Parameter → List ℕ → Data → Option ℕ
count_told ps key d = number_or_parameter ps (word_told key d) (text_told_at key d)

count_by_told : (ps : List Parameter) (key : List ℕ) (t : Tree) → count_at ps key (members_of t) ≡ count_told ps key (told t)
unfolding count_at
count_by_told ps key t = λ i. number_or_parameter ps (number_at_told 0 4294967295 key t i) (text_at_told key t i)

-- a multireg breaks no rule on values
abbrev pub multireg_values : List Parameter → Data → Bool
multireg_values ps d = register_values_good d && is_count_to 4096 (count_told ps (codes "count") d)

-- a window breaks no rule on values
abbrev pub window_values : List Parameter → Data → Bool
window_values ps d = is_count_to 4194304 (count_told ps (codes "items") d)

-- so does an entry, by what stands at its keys
abbrev pub kind_values : List Parameter → Data → Option Data → Option Data → Option Data → Option Data → Bool
kind_values ps d m w s r =
    option_map_or (multireg_values ps) m (option_map_or (window_values ps) w
    (option_map_or (λ (e : Data). true) s (option_map_or (λ (e : Data). true) r (register_values_good d))))

none_by_kind : (ps : List Parameter) (t : Tree) (m w s r : Option Tree) →
    is_none (entry_values (option_map_or (λ m. entry.Multireg (raw_multireg ps m)) m
    (option_map_or (λ w. entry.Window (raw_window ps w)) w
    (option_map_or (λ s. entry.SkipTo (number_or_zero s) s.at) s
    (option_map_or (λ r. entry.Reserved (number_or_zero r) r.at) r (entry.Register (raw_register t)))))))
    ≡ kind_values ps (told t) (option_map told m) (option_map told w) (option_map told s) (option_map told r)
unfolding entry_values raw_multireg raw_window
none_by_kind ps t (Some m) w s r =
    none_by_both (register_values (raw_register m)) (bad_count (raw_multireg ps m)) _ _ (none_of_register_values m)
    (none_unless (is_count_to 4096 (raw_multireg ps m).count) (finding 3 37 (raw_multireg ps m).count_at (raw_register m).name)
    ∙ ap (is_count_to 4096) (count_by_told ps (codes "count") m))
none_by_kind ps t None (Some w) s r =
    none_unless (is_count_to 4194304 (raw_window ps w).items) (finding 3 40 (raw_window ps w).items_at (raw_window ps w).name)
    ∙ ap (is_count_to 4194304) (count_by_told ps (codes "items") w)
none_by_kind ps t None None (Some s) r = refl
none_by_kind ps t None None None (Some r) = refl
none_by_kind ps t None None None None = none_of_register_values t

-- by what it tells
abbrev pub values_good : List Parameter → Data → Bool
values_good ps d = kind_values ps d (get (codes "multireg") d) (get (codes "window") d) (get (codes "skipto") d) (get (codes "reserved") d)

-- what is found of the values of an entry, by what it tells
pub none_of_values : (ps : List Parameter) (t : Tree) → is_none (entry_values (raw_entry ps t)) ≡ values_good ps (told t)
unfolding raw_entry
none_of_values ps t =
    none_by_kind ps t (value_at (codes "multireg") (members_of t)) (value_at (codes "window") (members_of t)) (value_at (codes "skipto") (members_of t)) (value_at (codes "reserved") (members_of t))
    ∙ (λ i. kind_values ps (told t) (found_told (codes "multireg") t i) (found_told (codes "window") t i) (found_told (codes "skipto") t i) (found_told (codes "reserved") t i))
