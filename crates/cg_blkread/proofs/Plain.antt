-- Where a block breaks no rule, its shadowed registers have storage and plain fields.
use Rattle.std.proofs.Common.{◌≡◌, ℕ, ◌+◌, Bool, true, false, not, ◌&&◌, ◌||◌, cond, is_some, List, [], ◌∷◌, ◌++◌, map, codes, Option, Some, None, option_and_then, refl, sym, ap, ◌∙◌, subst}
use Rattle.std.specs.Prelude.{unwrap_or}
use Rattle.std.proofs.lemmas.Bool.{and_from}
use Rattle.std.specs.Bool.{⊤}
use Rattle.std.specs.List.{flat_map, list_any}
use Rattle.std.specs.Option.{MatchOption, option_map_or}
use Rattle.cg_svspec.specs.Printable.{AllOf}
use Rattle.cg_svspec.proofs.Runs.{or_false_left, or_false_right}
use Rattle.cg_desc.specs.declared.block.SwAccess.{SwAccess}
use Rattle.cg_desc.specs.declared.block.SwAccess.TheVariants.{Rw, Nothing}
use Rattle.cg_desc.specs.declared.block.HwAccess.TheVariants.{Hro}
use Rattle.cg_hjson.specs.declared.tree.Tree.{Tree}
use Rattle.cg_hjson.specs.declared.tree.Member.{Member}
use Rattle.cg_finding.specs.Finding.{Finding, In}
use Rattle.cg_finding.specs.Rules.{outside_the_profile}
use Rattle.cg_keys.specs.Elements.{element_faults, elements, list_faults, object_faults}
use Rattle.cg_keys.specs.Forms.{fits, fits_one, hardware, is_one_of, software}
use Rattle.cg_keys.specs.Lookups.{hardware_at, is_fit_at, software_at, text_at}
use Rattle.cg_keys.specs.Table.{Key, key_faults, value_at, value_faults}
use Rattle.cg_keys.specs.Values.{items_of, members_of, text_in}
use Rattle.cg_keys.specs.declared.forms.Form.TheVariants.{Boolean, Items, Object, Word}
use Rattle.cg_keys.specs.declared.words.Words.{Words}
use Rattle.cg_keys.specs.declared.words.Words.TheVariants.{Hardware, Software}
use Rattle.cg_blkread.specs.Described.{block_of, entries_in, entry_list_of, face_desc, field_desc, register_desc, written_entry}
use Rattle.cg_blkread.specs.Interfaces.{EntryList, devices, entry_lists}
use Rattle.cg_blkread.specs.Keys.{can_be_judged, cannot_be_shadowed, compact_outside, entry_faults, entry_kind_faults, entry_list_faults, field_faults, hardware_that_counts, is_other_than_rw, is_rw, is_written_by_hardware, key_faults as block_faults, kind_that_counts, kinds_are_told, mubi_outside, multireg_faults, outside_if_true, outside_key, register_faults, register_outside, shadow_outside, takes_other_values, window_faults}
use Rattle.cg_blkread.specs.Plain.{EntryIsPlain, IsPlain, IsPlainIfShadowed, ShadowedArePlain}
use Rattle.cg_blkread.specs.Raw.{Parameter, is_true, number_or_zero, parameters, raw_entry, raw_field, raw_fields, raw_multireg, raw_register, raw_window, shared_of}
use Rattle.cg_blkread.specs.Reads.{Violates}
use Rattle.cg_blkread.specs.Tables.{copy_keys, field_keys, register_keys, word_number}
use Rattle.cg_blkread.specs.declared.raw.RawEntry.TheVariants as entry
use Rattle.cg_blkread.proofs.Facts.Listed.{nothing_listed}
use Rattle.cg_blkread.proofs.Facts.Registers.{kind_at, looked_has, true_has, true_there}
use Rattle.cg_blkread.proofs.Sound.Empty.{all_both, all_from, empty_each, empty_parts, none_passes}
use Rattle.cg_blkread.proofs.Sound.Fields.{order_all_of}
use Rattle.cg_blkread.proofs.Sound.Forms.{needed_fits, one_form, possible_fits}
use Rattle.cg_blkread.proofs.Sound.Keys.{none_found}
use Rattle.cg_blkread.proofs.Sound.Objects.{all_fit, all_mapped, elements_are_objects, list_of_objects, object_table}
use Rattle.cg_blkread.proofs.Sound.Values.{list_has}

-- ---- kinds

-- a word that has a form is one of the kind's words
abbrev pub AreWordsOf : {K : Type 0} → Words → (List ℕ → Option K) → Type 0
AreWordsOf words kinds = (s : List ℕ) → is_one_of words s ≡ is_some (kinds s)

pub software_words : AreWordsOf Software software
unfolding is_one_of
software_words s = refl

pub hardware_words : AreWordsOf Hardware hardware
unfolding is_one_of
hardware_words s = refl

some_or : {K : Type 0} (k : Option K) (other : K) → is_some k ≡ true → k ≡ Some (unwrap_or k other)
some_or None other h = cc
some_or (Some k) other h = refl

-- the kind that a value is, which has the form of one
pub kind_of_text : {K : Type 0} (words : Words) (kinds : List ℕ → Option K) → AreWordsOf words kinds → (s : Option (List ℕ)) (other : K)
    → (option_map_or (is_one_of words) s false || false) ≡ true → option_and_then kinds s ≡ Some (unwrap_or (option_and_then kinds s) other)
kind_of_text words kinds are None other h = cc
kind_of_text words kinds are (Some s) other h = some_or (kinds s) other (sym (are s) ∙ or_false (is_one_of words s) h) where
  or_false : (b : Bool) → (b || false) ≡ true → b ≡ true
  or_false true h = refl
  or_false false h = cc

kind_of_value : {K : Type 0} (words : Words) (kinds : List ℕ → Option K) → AreWordsOf words kinds → (o : Option Tree) (other : K)
    → option_map_or (fits_one (Word words ∷ [])) o true ≡ true
    → option_map_or (λ t. option_and_then kinds (text_in t)) o (Some other) ≡ Some (unwrap_or (option_and_then kinds (option_and_then text_in o)) other)
unfolding fits
kind_of_value words kinds are None other h = refl
kind_of_value words kinds are (Some t) other h = kind_of_text words kinds are (text_in t) other h

-- where both words have their form, the kind that counts is the one that is read
kind_is_read : {K : Type 0} (words : Words) (kinds : List ℕ → Option K) → AreWordsOf words kinds → (otherwise : K) (key : List ℕ) (register field : Tree)
    → is_fit_at (Word words ∷ []) key (members_of register) ≡ true → is_fit_at (Word words ∷ []) key (members_of field) ≡ true
    → kind_at kinds otherwise key register field
    ≡ Some (unwrap_or (option_and_then kinds (text_at key (members_of field))) (unwrap_or (option_and_then kinds (text_at key (members_of register))) otherwise))
unfolding is_fit_at text_at
kind_is_read words kinds are otherwise key register field first second =
    ap (option_map_or (λ t. option_and_then kinds (text_in t)) (value_at key (members_of field)))
    (kind_of_value words kinds are (value_at key (members_of register)) otherwise first)
    ∙ kind_of_value words kinds are (value_at key (members_of field)) _ second

software_is_read : (register field : Tree) (n : ℕ) → is_fit_at (Word Software ∷ []) (codes "swaccess") (members_of register) ≡ true
    → is_fit_at (Word Software ∷ []) (codes "swaccess") (members_of field) ≡ true
    → kind_that_counts (members_of register) (members_of field) ≡ Some (raw_field (shared_of (members_of register)) n field).sw
unfolding kind_that_counts raw_field shared_of software_at
software_is_read register field n first second = kind_is_read Software software software_words Nothing (codes "swaccess") register field first second

hardware_is_read : (register field : Tree) (n : ℕ) → is_fit_at (Word Hardware ∷ []) (codes "hwaccess") (members_of register) ≡ true
    → is_fit_at (Word Hardware ∷ []) (codes "hwaccess") (members_of field) ≡ true
    → hardware_that_counts (members_of register) (members_of field) ≡ Some (raw_field (shared_of (members_of register)) n field).hw
unfolding hardware_that_counts raw_field shared_of hardware_at
hardware_is_read register field n first second = kind_is_read Hardware hardware hardware_words Hro (codes "hwaccess") register field first second

-- ---- fields

-- a field is an object whose kinds have their forms
record IsToldField (field : Tree) : Type 0 where
  object : fits Object field ≡ true
  software : is_fit_at (Word Software ∷ []) (codes "swaccess") (members_of field) ≡ true
  hardware : is_fit_at (Word Hardware ∷ []) (codes "hwaccess") (members_of field) ≡ true

told_field : (register : List Member) (field : Tree) → fits Object field ≡ true → field_faults register field ≡ [] → IsToldField field
unfolding field_faults
told_field register field is h =
    let table = object_table field_keys field is (empty_parts (object_faults field_keys field) (mubi_outside register (members_of field)) h).0 in
    let rows = empty_each (key_faults field.at (members_of field)) field_keys table in
    record {
      object = is;
      software = possible_fits field.at (members_of field) (codes "swaccess") (Word Software ∷ []) rows.1.1.0;
      hardware = possible_fits field.at (members_of field) (codes "hwaccess") (Word Hardware ∷ []) rows.1.1.1.0;
    }

is_plain_kind : (k : SwAccess) → not (is_rw k) ≡ false → k ≡ Rw
is_plain_kind Rw h = refl
is_plain_kind k h = cc

module _ (register : Tree) (software_fits : is_fit_at (Word Software ∷ []) (codes "swaccess") (members_of register) ≡ true)
    (hardware_fits : is_fit_at (Word Hardware ∷ []) (codes "hwaccess") (members_of register) ≡ true) where
  kinds_told : (field : Tree) → IsToldField field → kinds_are_told (members_of register) field ≡ true
  unfolding kinds_are_told
  kinds_told field told = λ i.
      told.object i && (is_some (software_is_read register field 0 software_fits told.software i) && is_some (hardware_is_read register field 0 hardware_fits told.hardware i))

  plain_field : (n : ℕ) (reset : Option ℕ) (field : Tree) → IsToldField field → takes_other_values (members_of register) field ≡ false
      → IsPlain (field_desc reset (raw_field (shared_of (members_of register)) n field))
  unfolding takes_other_values field_desc
  plain_field n reset field told other =
      let sw : not (is_rw (raw_field (shared_of (members_of register)) n field).sw) ≡ false =
      sym (ap is_other_than_rw (software_is_read register field n software_fits told.software))
      ∙ or_false_left (is_other_than_rw (kind_that_counts (members_of register) (members_of field))) (is_written_by_hardware (hardware_that_counts (members_of register) (members_of field))) other in (
        is_plain_kind (raw_field (shared_of (members_of register)) n field).sw sw,
        sym (ap is_written_by_hardware (hardware_is_read register field n hardware_fits told.hardware))
            ∙ or_false_right (is_other_than_rw (kind_that_counts (members_of register) (members_of field))) (is_written_by_hardware (hardware_that_counts (members_of register) (members_of field))) other,
      )

  plain_fields : (n : ℕ) (reset : Option ℕ) (fields : List Tree) → AllOf IsToldField fields → AllOf (λ f. takes_other_values (members_of register) f ≡ false) fields
      → AllOf IsPlain (map (field_desc reset) (raw_fields (shared_of (members_of register)) n fields))
  plain_fields n reset [] told other = tt
  plain_fields n reset (f ∷ fs) told other = (plain_field n reset f told.0 other.0, plain_fields (n + 1) reset fs told.1 other.1)

-- ---- registers

-- a register that is shadowed, of which nothing is found, can be
can_be_shadowed : (r : Tree) → shadow_outside (members_of r) ≡ [] → can_be_judged (members_of r) ≡ true → is_true (codes "shadowed") (members_of r) ≡ true
    → cannot_be_shadowed (members_of r) ≡ false
unfolding shadow_outside
can_be_shadowed r none judged shadowed = by (cannot_be_shadowed (members_of r)) refl where
  by : (b : Bool) → cannot_be_shadowed (members_of r) ≡ b → b ≡ false
  by false e = refl
  by true e =
      let one = true_there (codes "shadowed") r shadowed in
      let found : Finding = outside_the_profile one.0.at (codes "shadowed") in
      absurd (subst (In found) none (looked_has (can_be_judged (members_of r) && cannot_be_shadowed (members_of r)) found (outside_if_true (members_of r) (codes "shadowed"))
      (and_from (can_be_judged (members_of r)) (cannot_be_shadowed (members_of r)) judged e) (true_has (codes "shadowed") r one.0 one.1)))

register_plain : (more : List Key) (r : Tree) → fits Object r ≡ true → register_faults (register_keys ++ more) r ≡ [] → IsPlainIfShadowed (register_desc (raw_register r))
unfolding register_faults register_outside can_be_judged cannot_be_shadowed register_desc raw_register
register_plain more r is h =
    let ms : List Member = members_of r in
    let fields : List Tree = elements (codes "fields") ms in
    let first = empty_parts (object_faults (register_keys ++ more) r) _ h in
    let second = empty_parts (register_outside ms) _ first.1 in
    let third = empty_parts (element_faults (codes "fields") ms) _ second.1 in
    let rows = empty_each (key_faults r.at ms) (register_keys ++ more) (object_table (register_keys ++ more) r is first.0) in
    let sw = possible_fits r.at ms (codes "swaccess") (Word Software ∷ []) rows.1.0 in
    let hw = possible_fits r.at ms (codes "hwaccess") (Word Hardware ∷ []) rows.1.1.0 in
    let told : AllOf IsToldField fields =
    all_from (λ f. (fits Object f ≡ true) × (field_faults ms f ≡ [])) IsToldField fields (λ f both. told_field ms f both.0 both.1)
    (all_both (λ f. fits Object f ≡ true) (λ f. field_faults ms f ≡ []) fields (elements_are_objects (codes "fields") ms third.0) (empty_each (field_faults ms) fields third.1)) in
    let judged : can_be_judged ms ≡ true = λ i.
    possible_fits r.at ms (codes "hwext") (Boolean ∷ []) rows.1.1.1.0 i
    && (needed_fits r.at ms (codes "fields") (Items ∷ []) rows.1.1.1.1.1.1.1.1.1.0 i
    && all_fit (kinds_are_told ms) fields (all_from IsToldField (λ f. kinds_are_told ms f ≡ true) fields (kinds_told r sw hw) told) i) in
    let can : is_true (codes "shadowed") ms ≡ true → cannot_be_shadowed ms ≡ false =
    λ shadowed. can_be_shadowed r (empty_parts (shadow_outside ms) _ second.0).0 judged shadowed in
    record {
      stored = λ shadowed. or_false_left (is_true (codes "hwext") ms) (list_any (takes_other_values ms) fields) (can shadowed);
      fields = λ shadowed.
          order_all_of IsPlain (map (field_desc (raw_register r).resval) (raw_fields (shared_of ms) 1 fields))
          (plain_fields r sw hw 1 (raw_register r).resval fields told
          (none_passes (takes_other_values ms) fields (or_false_right (is_true (codes "hwext") ms) (list_any (takes_other_values ms) fields) (can shadowed))));
    }

multireg_plain : (m : Tree) → multireg_faults m ≡ [] → IsPlainIfShadowed (register_desc (raw_register m))
unfolding multireg_faults
multireg_plain m h =
    let first = empty_parts (value_faults (codes "multireg") (Object ∷ []) m) _ h in
    register_plain copy_keys m (one_form (codes "multireg") Object m first.0)
    (empty_parts (register_faults (register_keys ++ copy_keys) m) (compact_outside (members_of m)) first.1).0

-- ---- entries

-- the entry by what stands at its keys
plain_by : (ps : List Parameter) (t : Tree) (m w s r : Option Tree) → fits Object t ≡ true
    → option_map_or multireg_faults m
    (option_map_or window_faults w
    (option_map_or (value_faults (codes "skipto") (word_number ∷ [])) s
    (option_map_or (value_faults (codes "reserved") (word_number ∷ [])) r
    (register_faults register_keys t)))) ≡ []
    → EntryIsPlain (written_entry (option_map_or (λ m. entry.Multireg (raw_multireg ps m)) m
    (option_map_or (λ w. entry.Window (raw_window ps w)) w
    (option_map_or (λ s. entry.SkipTo (number_or_zero s) s.at) s
    (option_map_or (λ r. entry.Reserved (number_or_zero r) r.at) r
    (entry.Register (raw_register t)))))))
unfolding written_entry raw_multireg
plain_by ps t (Some m) w s r is h = multireg_plain m h
plain_by ps t None (Some w) s r is h = tt
plain_by ps t None None (Some s) r is h = tt
plain_by ps t None None None (Some r) is h = tt
plain_by ps t None None None None is h = register_plain [] t is h

entry_plain : (ps : List Parameter) (t : Tree) → fits Object t ≡ true → entry_faults t ≡ [] → EntryIsPlain (written_entry (raw_entry ps t))
unfolding entry_faults entry_kind_faults raw_entry
entry_plain ps t is h =
    let ms : List Member = members_of t in
    let whole : entry_kind_faults ms t ++ outside_key ms (codes "sameaddr") ≡ [] = ap (λ b. cond b (entry_kind_faults ms t ++ outside_key ms (codes "sameaddr")) []) (sym is) ∙ h in
    plain_by ps t (value_at (codes "multireg") ms) (value_at (codes "window") ms) (value_at (codes "skipto") ms) (value_at (codes "reserved") ms) is
    (empty_parts (entry_kind_faults ms t) (outside_key ms (codes "sameaddr")) whole).0

-- the entries of a list
abbrev ListIsPlain : List Parameter → Tree → Type 0
ListIsPlain ps t = AllOf (λ e. EntryIsPlain (written_entry (raw_entry ps e))) (items_of t)

list_plain : (ps : List Parameter) (l : EntryList) → entry_list_faults l ≡ [] → ListIsPlain ps l.value
unfolding entry_list_faults
list_plain ps l h =
    let first = empty_parts (value_faults l.key (Items ∷ []) l.value) _ h in
    let second = empty_parts (list_faults Object l.key l.value) (flat_map entry_faults (items_of l.value)) first.1 in
    all_from (λ t. (fits Object t ≡ true) × (entry_faults t ≡ [])) (λ e. EntryIsPlain (written_entry (raw_entry ps e))) (items_of l.value) (λ t both. entry_plain ps t both.0 both.1)
    (all_both (λ t. fits Object t ≡ true) (λ t. entry_faults t ≡ []) (items_of l.value) (list_of_objects l.key l.value second.0) (empty_each entry_faults (items_of l.value) second.1))

entries_plain : (ps : List Parameter) (o : Option Tree) → MatchOption o ⊤ (ListIsPlain ps) → AllOf EntryIsPlain (entries_in ps o)
entries_plain ps None plain = tt
entries_plain ps (Some t) plain = all_mapped EntryIsPlain (λ e. written_entry (raw_entry ps e)) (items_of t) plain

face_plain : (t d : Tree) → block_faults t ≡ [] → AllOf EntryIsPlain (face_desc (members_of t) d).entries
unfolding face_desc
face_plain t d keys =
    let ms = members_of t in
    entries_plain (parameters ms) (entry_list_of ms d)
    (list_has (ListIsPlain (parameters ms)) ms d
    (all_from (λ l. entry_list_faults l ≡ []) (λ (l : EntryList). ListIsPlain (parameters ms) l.value) (entry_lists ms) (list_plain (parameters ms))
    (empty_each entry_list_faults (entry_lists ms) (none_found t keys).entries)))

every_face : (t : Tree) (ds : List Tree) → block_faults t ≡ [] → AllOf (λ f. AllOf EntryIsPlain f.entries) (map (face_desc (members_of t)) ds)
every_face t [] keys = tt
every_face t (d ∷ ds) keys = (face_plain t d keys, every_face t ds keys)

-- all of a block
pub shadowed_are_plain : (t : Tree) (file : ℕ) → ((f : Finding) → ¬ Violates t f) → ShadowedArePlain (block_of file t)
unfolding block_of
shadowed_are_plain t file sound = every_face t (devices (members_of t)) (nothing_listed t sound).0
