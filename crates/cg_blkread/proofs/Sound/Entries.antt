-- Entries of which nothing is found have valid descriptions.
use Rattle.std.proofs.Common.{ℕ, ◌≡◌, ◌<◌, ◌≤◌, suc, Bool, true, false, not, ◌==◌, nat_le, nat_lt, is_some, List, [], ◌∷◌, map, length, codes, Option, Some, None, refl, arith, if◌then◌else◌}
use Rattle.std.proofs.lemmas.Bool.{and_parts, eqb-true}
use Rattle.std.proofs.lemmas.Bool.Decides.{nat_tests}
use Rattle.std.specs.Bool.{⊤}
use Rattle.std.specs.List.{flat_map}
use Rattle.std.specs.Option.{MatchOption, option_and_then, option_map_or, unwrap_or}
use Rattle.std.specs.Str.{bytes_eq}
use Rattle.cg_svspec.specs.Characters.{IsWord}
use Rattle.cg_svspec.specs.Printable.{AllOf}
use Rattle.cg_desc.specs.Laid.{HasField, IsWindowAccess}
use Rattle.cg_desc.specs.Valid.{HasOneField, IsValidEntry, IsValidRegister}
use Rattle.cg_desc.specs.declared.block.SwAccess.TheVariants as software
use Rattle.cg_hjson.specs.declared.tree.Tree.{Tree}
use Rattle.cg_finding.specs.Finding.{each_after}
use Rattle.cg_keys.specs.Elements.{elements}
use Rattle.cg_keys.specs.Forms.{window_access}
use Rattle.cg_keys.specs.Lookups.{text_at, window_access_at}
use Rattle.cg_keys.specs.Table.{value_at}
use Rattle.cg_keys.specs.Values.{members_of}
use Rattle.cg_blkread.specs.Described.{field_desc, in_bit_order, put_field, register_desc, written_entry}
use Rattle.cg_blkread.specs.Raw.{Parameter, Shared, is_compact, is_true, number_or_zero, raw_entry, raw_fields, raw_multireg, raw_register, raw_window, shared_of}
use Rattle.cg_blkread.specs.Values.{bad_bits, entry_values, is_count_to, no_fields, overlap, register_values, wide_reset}
use Rattle.cg_blkread.specs.declared.raw.Bits.{Bits}
use Rattle.cg_blkread.specs.declared.raw.RawField.{RawField}
use Rattle.cg_blkread.specs.declared.raw.RawRegister.{RawRegister}
use Rattle.cg_blkread.specs.declared.raw.RawEntry.{RawEntry}
use Rattle.cg_blkread.specs.declared.raw.RawEntry.TheVariants as entry
use Rattle.cg_blkread.proofs.Sound.Empty.{empty_each, empty_parts, empty_unless, empty_when}
use Rattle.cg_blkread.proofs.Sound.Fields.{order_fits, order_has}
use Rattle.cg_blkread.proofs.Sound.RawFields.{GoodIfAny, HasGoodBits, IsSound, Written, all_apart, all_fit, fields_written, none_overlaps}
use Rattle.cg_blkread.proofs.Sound.Words.{EntryWords, HasName, RegisterWords}

-- ---- registers

good_bits : (o : Option Bits) → is_some o ≡ true → GoodIfAny o → HasGoodBits o
good_bits None h good = cc
good_bits (Some b) h good = good

-- fields of which nothing is found
sound_fields : (register : List ℕ) (fs : List RawField) → AllOf Written fs → AllOf (λ f. bad_bits register f ≡ []) fs → AllOf (λ f. wide_reset register f ≡ []) fs
    → AllOf IsSound fs
sound_fields register [] written bits resets = tt
sound_fields register (f ∷ fs) written bits resets = (
  record {
    name = written.0.name;
    bits = good_bits f.bits (empty_unless _ _ bits.0) written.0.bits;
    resval = empty_when _ _ resets.0;
  },
  sound_fields register fs written.1 bits.1 resets.1,
)

some_field : (register : Option ℕ) (r : RawRegister) (fs : List RawField) → no_fields (record r { fields = fs }) ≡ [] → HasField (map (field_desc register) fs)
some_field register r [] h = cc
some_field register r (f ∷ fs) h = tt

-- a register as it is written, of which nothing is found
valid_raw : (r : RawRegister) → IsWord r.name → AllOf Written r.fields → register_values r ≡ [] → IsValidRegister (register_desc r)
unfolding register_desc register_values
valid_raw r name written h =
    let first = empty_parts (no_fields r) _ h in
    let second = empty_parts (flat_map (bad_bits r.name) r.fields) _ first.1 in
    let third = empty_parts (each_after overlap [] r.fields) _ second.1 in
    let fourth = empty_parts (flat_map (wide_reset r.name) r.fields) _ third.1 in
    let sound : AllOf IsSound r.fields = sound_fields r.name r.fields written (empty_each (bad_bits r.name) r.fields second.0) (empty_each (wide_reset r.name) r.fields fourth.0) in
    record {
      name = name;
      some_field = order_has (map (field_desc r.resval) r.fields) (some_field r.resval r r.fields first.0);
      fields = order_fits (map (field_desc r.resval) r.fields) (all_fit r.resval r.fields sound) (all_apart r.resval r.fields sound (none_overlaps [] r.fields third.0).1);
    }

valid_register : (t : Tree) → RegisterWords t → register_values (raw_register t) ≡ [] → IsValidRegister (register_desc (raw_register t))
unfolding raw_register shared_of
valid_register t words h =
    valid_raw (raw_register t) words.0 (fields_written (shared_of (members_of t)) 1 (elements (codes "fields") (members_of t)) words.1 words.0) h

-- ---- multiregs

some_count : (most : ℕ) (o : Option ℕ) → is_count_to most o ≡ true → (0 < unwrap_or o 0) × (unwrap_or o 0 ≤ most)
some_count most None h = cc
some_count most (Some n) h = let parts = and_parts (nat_lt 0 n) (nat_le n most) h in (grind (arith, nat_tests), grind (arith, nat_tests))

one_field : (register : Option ℕ) (shared : Shared) (number : ℕ) (ts : List Tree) → (length ts == 1) ≡ true
    → HasOneField (in_bit_order (map (field_desc register) (raw_fields shared number ts)))
unfolding in_bit_order put_field
one_field register shared number [] h = cc
one_field register shared number (t ∷ []) h = tt
one_field register shared number (t ∷ u ∷ ts) h = let one : suc (suc (length ts)) ≡ 1 = eqb-true _ _ h in absurd (omega arith)

compact_has_one : (t : Tree) → is_compact (members_of t) ≡ true → HasOneField (register_desc (raw_register t)).fields
unfolding is_compact register_desc raw_register
compact_has_one t h = one_field _ (shared_of (members_of t)) 1 (elements (codes "fields") (members_of t)) (and_parts _ _ h).0

not_true : (b : Bool) → not b ≡ true → b ≡ false
not_true true h = cc
not_true false h = refl

compact_has_no_gates : (t : Tree) → is_compact (members_of t) ≡ true → is_true (codes "regwen_multi") (members_of t) ≡ false
unfolding is_compact
compact_has_no_gates t h = not_true _ (and_parts _ _ (and_parts _ _ h).1).0

valid_multireg : (ps : List Parameter) (t : Tree) → RegisterWords t → entry_values (entry.Multireg (raw_multireg ps t)) ≡ []
    → IsValidEntry (written_entry (entry.Multireg (raw_multireg ps t)))
unfolding entry_values written_entry raw_multireg
valid_multireg ps t words h =
    let parts = empty_parts (register_values (raw_register t)) _ h in
    let count = some_count 4096 (raw_multireg ps t).count (empty_unless _ _ parts.1) in
    record {
      register = valid_register t words parts.0;
      some_copy = count.0;
      few_copies = count.1;
      sole = compact_has_one t;
      one_gate = compact_has_no_gates t;
    }

-- ---- windows

access_by : (a b c : Bool) → IsWindowAccess (unwrap_or (if a then Some software.Rw else if b then Some software.Ro else if c then Some software.Wo else None) software.Rw)
access_by true b c = tt
access_by false true c = tt
access_by false false true = tt
access_by false false false = tt

access_fits : (o : Option (List ℕ)) → IsWindowAccess (unwrap_or (option_and_then window_access o) software.Rw)
unfolding window_access
access_fits None = tt
access_fits (Some s) = access_by (bytes_eq s (codes "rw")) (bytes_eq s (codes "ro")) (bytes_eq s (codes "wo"))

valid_window : (ps : List Parameter) (t : Tree) → HasName t → entry_values (entry.Window (raw_window ps t)) ≡ []
    → IsValidEntry (written_entry (entry.Window (raw_window ps t)))
unfolding entry_values written_entry raw_window window_access_at
valid_window ps t name h =
    let items = some_count 4194304 (raw_window ps t).items (empty_unless _ _ h) in
    record {
      name = name;
      access = access_fits (text_at (codes "swaccess") (members_of t));
      some_item = items.0;
      few_items = items.1;
    }

-- ---- entries

valid_plain : (t : Tree) → RegisterWords t → entry_values (entry.Register (raw_register t)) ≡ [] → IsValidEntry (written_entry (entry.Register (raw_register t)))
unfolding entry_values written_entry
valid_plain t words h = valid_register t words h

-- the entry by what stands at its keys
abbrev entry_by : List Parameter → Tree → Option Tree → Option Tree → Option Tree → Option Tree → RawEntry
entry_by ps t m w s r =
    option_map_or (λ m. entry.Multireg (raw_multireg ps m)) m
    (option_map_or (λ w. entry.Window (raw_window ps w)) w
    (option_map_or (λ s. entry.SkipTo (number_or_zero s) s.at) s
    (option_map_or (λ r. entry.Reserved (number_or_zero r) r.at) r
    (entry.Register (raw_register t)))))

valid_by : (ps : List Parameter) (t : Tree) (m w s r : Option Tree)
    → MatchOption m (MatchOption w (MatchOption s (MatchOption r (RegisterWords t) (λ r. ⊤)) (λ s. ⊤)) HasName) RegisterWords
    → entry_values (entry_by ps t m w s r) ≡ [] → IsValidEntry (written_entry (entry_by ps t m w s r))
unfolding written_entry
valid_by ps t (Some m) w s r words h = valid_multireg ps m words h
valid_by ps t None (Some w) s r words h = valid_window ps w words h
valid_by ps t None None (Some s) r words h = tt
valid_by ps t None None None (Some r) words h = tt
valid_by ps t None None None None words h = valid_plain t words h

valid_entry : (ps : List Parameter) (t : Tree) → EntryWords t → entry_values (raw_entry ps t) ≡ [] → IsValidEntry (written_entry (raw_entry ps t))
unfolding raw_entry
valid_entry ps t words h =
    valid_by ps t (value_at (codes "multireg") (members_of t)) (value_at (codes "window") (members_of t)) (value_at (codes "skipto") (members_of t))
    (value_at (codes "reserved") (members_of t)) words h

-- the entries of a list, of which nothing is found
pub valid_entries : (ps : List Parameter) (ts : List Tree) → AllOf EntryWords ts → flat_map entry_values (map (raw_entry ps) ts) ≡ []
    → AllOf IsValidEntry (map (λ e. written_entry (raw_entry ps e)) ts)
valid_entries ps [] words h = tt
valid_entries ps (t ∷ ts) words h =
    let parts = empty_parts (entry_values (raw_entry ps t)) (flat_map entry_values (map (raw_entry ps) ts)) h in
    (valid_entry ps t words.0 parts.0, valid_entries ps ts words.1 parts.1)
