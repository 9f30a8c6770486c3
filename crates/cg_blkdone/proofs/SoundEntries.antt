-- What the entries of a block break of the rules on keys, by the JSON values that they tell.
use Rattle.std.proofs.Common.{◌≡◌, ℕ, nat_lt, Bool, true, false, ◌&&◌, ◌||◌, cond, is_some, length, codes, List, [], ◌∷◌, ◌++◌, map, Option, Some, None, option_map, option_and_then, unwrap_or, refl, sym, ap, ◌∙◌}
use Rattle.std.proofs.lemmas.List.{length-map}
use Rattle.std.specs.List.{list_all, list_any}
use Rattle.std.specs.Option.{option_map_or}
use Rattle.serde_json.specs.Data.{Data}
use Rattle.serde_json.specs.Find.{as_array, as_str, get}
use Rattle.cg_desc.specs.declared.place.At.{At}
use Rattle.cg_desc.specs.declared.block.SwAccess.{SwAccess}
use Rattle.cg_desc.specs.declared.block.SwAccess.TheVariants.{Nothing}
use Rattle.cg_desc.specs.declared.block.HwAccess.{HwAccess}
use Rattle.cg_desc.specs.declared.block.HwAccess.TheVariants.{Hro}
use Rattle.cg_finding.specs.Finding.{Finding, finding}
use Rattle.cg_hjson.specs.declared.tree.Tree.{Tree}
use Rattle.cg_keys.specs.Elements.{elements, element_faults, list_faults, object_faults}
use Rattle.cg_keys.specs.Forms.{fits, fits_one, hardware, software}
use Rattle.cg_keys.specs.Lookups.{boolean_at, is_fit_at}
use Rattle.cg_keys.specs.Table.{Key, value_at, value_faults}
use Rattle.cg_keys.specs.Values.{array_in, items_of, members_of, text_in}
use Rattle.cg_keys.specs.declared.forms.Form.{Form}
use Rattle.cg_keys.specs.declared.forms.Form.TheVariants.{Boolean, Items, Object}
use Rattle.cg_blkread.specs.Bits.{bits_in}
use Rattle.cg_blkread.specs.Interfaces.{EntryList}
use Rattle.cg_blkread.specs.Keys.{can_be_judged, cannot_be_shadowed, compact_outside, entry_faults, entry_kind_faults, entry_list_faults, field_faults, fields_are_objects, hardware_that_counts, has_other_kind, has_other_width, is_other_than_rw, is_written_by_hardware, kind_that_counts, kinds_are_told, mubi_outside, multireg_faults, outside_if_true, outside_key, register_faults, register_outside, shadow_outside, takes_other_values, window_faults}
use Rattle.cg_blkread.specs.Tables.{copy_keys, field_keys, register_keys, window_keys, word_number}
use Rattle.cg_blkdone.proofs.Lookups.{bits_at_told, bits_told_in, boolean_at_told, boolean_told_in, elements_told, is_object, items_told_in}
use Rattle.cg_blkdone.proofs.SoundNone.{is_none, none_by_both, none_of_each, none_where}
use Rattle.cg_blkdone.proofs.SoundTables.{all_elements, all_items, all_told, by_value_at, elements_of, fits_by_told, fits_one_by_told, fits_one_told, none_in_value, none_of_element_list, none_of_elements, none_of_list, none_of_object, object_good}
use Rattle.cg_blkdone.proofs.Told.{array_told, found_told, listed, text_told, told}

-- ---- outside

-- the boolean at a key is there and true
abbrev pub is_true_told : List ℕ → Data → Bool
is_true_told key d = unwrap_or (option_and_then boolean_told_in (get key d)) false

-- nothing stands at a key
abbrev pub is_absent : List ℕ → Data → Bool
is_absent key d = option_map_or (λ (e : Data). false) (get key d) true

-- what stands at a key, if anything, is not true
abbrev pub is_not_true : List ℕ → Data → Bool
is_not_true key d = cond (is_true_told key d) (is_absent key d) true

none_at_value : (g : At → Finding) (o : Option Tree) → is_none (option_map_or (λ (t : Tree). g t.at ∷ []) o []) ≡ option_map_or (λ (t : Tree). false) o true
none_at_value g None = refl
none_at_value g (Some t) = refl

-- a key that is outside
pub none_of_key_outside : (key : List ℕ) (t : Tree) → is_none (outside_key (members_of t) key) ≡ is_absent key (told t)
unfolding outside_key
none_of_key_outside key t =
    none_at_value (λ at. finding 2 26 at key) (value_at key (members_of t)) ∙ by_value_at (λ (t : Tree). false) (λ (e : Data). false) true (λ t. refl) key t

none_of_true : (key : List ℕ) (t : Tree) → is_none (outside_if_true (members_of t) key) ≡ is_not_true key (told t)
unfolding outside_if_true
none_of_true key t =
    none_where (unwrap_or (boolean_at key (members_of t)) false) (outside_key (members_of t) key)
    ∙ (λ i. cond (unwrap_or (boolean_at_told key t i) false) (none_of_key_outside key t i) true)

-- the key is absent, or its value has one of the forms
abbrev pub fit_at_told : List Form → List ℕ → Data → Bool
fit_at_told forms key d = option_map_or (fits_one_told forms) (get key d) true

-- the form of what stands at a key
pub fit_at_by_told : (forms : List Form) (key : List ℕ) (t : Tree) → is_fit_at forms key (members_of t) ≡ fit_at_told forms key (told t)
unfolding is_fit_at
fit_at_by_told forms key t = by_value_at (fits_one forms) (fits_one_told forms) true (fits_one_by_told forms) key t

-- the boolean at a key
abbrev pub true_by_told : (key : List ℕ) (t : Tree) → unwrap_or (boolean_at key (members_of t)) false ≡ is_true_told key (told t)
true_by_told key t = ap (λ o. unwrap_or o false) (boolean_at_told key t)

-- ---- kinds

-- the kind that counts for a field, by its word at a key
abbrev pub kind_by_word : {K : Type 0} → (List ℕ → Option K) → K → List ℕ → Data → Data → Option K
kind_by_word kinds otherwise key register d =
    option_map_or (λ e. option_and_then kinds (as_str e)) (get key d) (option_map_or (λ e. option_and_then kinds (as_str e)) (get key register) (Some otherwise))

-- how software accesses it
abbrev pub kind_told : Data → Data → Option SwAccess
kind_told register d = kind_by_word software Nothing (codes "swaccess") register d

-- how hardware does
abbrev pub hardware_told : Data → Data → Option HwAccess
hardware_told register d = kind_by_word hardware Hro (codes "hwaccess") register d

word_told : {K : Type 0} (kinds : List ℕ → Option K) (t : Tree) → option_and_then kinds (text_in t) ≡ option_and_then kinds (as_str (told t))
word_told kinds t = ap (option_and_then kinds) (text_told t)

word_by_told : {K : Type 0} (kinds : List ℕ → Option K) (otherwise : K) (key : List ℕ) (register t : Tree)
    → option_map_or (λ t. option_and_then kinds (text_in t)) (value_at key (members_of t))
    (option_map_or (λ t. option_and_then kinds (text_in t)) (value_at key (members_of register)) (Some otherwise))
    ≡ kind_by_word kinds otherwise key (told register) (told t)
word_by_told kinds otherwise key register t =
    by_value_at (λ t. option_and_then kinds (text_in t)) (λ e. option_and_then kinds (as_str e)) _ (word_told kinds) key t
    ∙ ap (option_map_or (λ e. option_and_then kinds (as_str e)) (get key (told t)))
    (by_value_at (λ t. option_and_then kinds (text_in t)) (λ e. option_and_then kinds (as_str e)) (Some otherwise) (word_told kinds) key register)

kind_by_told : (register t : Tree) → kind_that_counts (members_of register) (members_of t) ≡ kind_told (told register) (told t)
unfolding kind_that_counts
kind_by_told register t = word_by_told software Nothing (codes "swaccess") register t

hardware_by_told : (register t : Tree) → hardware_that_counts (members_of register) (members_of t) ≡ hardware_told (told register) (told t)
unfolding hardware_that_counts
hardware_by_told register t = word_by_told hardware Hro (codes "hwaccess") register t

-- ---- shadowed registers

-- a field is an object, and the kinds that count for it have their forms
abbrev pub kinds_good : Data → Data → Bool
kinds_good register d = is_object d && (is_some (kind_told register d) && is_some (hardware_told register d))

kinds_by_told : (register t : Tree) → kinds_are_told (members_of register) t ≡ kinds_good (told register) (told t)
unfolding kinds_are_told
kinds_by_told register t = λ i. fits_by_told Object t i && (is_some (kind_by_told register t i) && is_some (hardware_by_told register t i))

-- a field takes other values than those that software writes twice
abbrev pub takes_other : Data → Data → Bool
takes_other register d = is_other_than_rw (kind_told register d) || is_written_by_hardware (hardware_told register d)

takes_by_told : (register t : Tree) → takes_other_values (members_of register) t ≡ takes_other (told register) (told t)
unfolding takes_other_values
takes_by_told register t = λ i. is_other_than_rw (kind_by_told register t i) || is_written_by_hardware (hardware_by_told register t i)

-- what is asked of a shadowed register has its form
abbrev pub is_judged : Data → Bool
is_judged d = fit_at_told (Boolean ∷ []) (codes "hwext") d && (fit_at_told (Items ∷ []) (codes "fields") d && list_all (kinds_good d) (elements_of (codes "fields") d))

judged_by_told : (t : Tree) → can_be_judged (members_of t) ≡ is_judged (told t)
unfolding can_be_judged
judged_by_told t = λ i.
    fit_at_by_told (Boolean ∷ []) (codes "hwext") t i
    && (fit_at_by_told (Items ∷ []) (codes "fields") t i
    && all_elements (kinds_are_told (members_of t)) (kinds_good (told t)) (codes "fields") t (kinds_by_told t) i)

-- a register has no storage, or a field that takes other values
abbrev pub has_other : Data → Bool
has_other d = is_true_told (codes "hwext") d || list_any (takes_other d) (elements_of (codes "fields") d)

any_told : (f : Tree → Bool) (g : Data → Bool) (ts : List Tree) → ((t : Tree) → f t ≡ g (told t)) → list_any f ts ≡ list_any g (map told ts)
any_told f g [] same = refl
any_told f g (t ∷ ts) same = λ i. same t i || any_told f g ts same i

other_by_told : (t : Tree) → cannot_be_shadowed (members_of t) ≡ has_other (told t)
unfolding cannot_be_shadowed
other_by_told t = λ i.
    true_by_told (codes "hwext") t i
    || (any_told (takes_other_values (members_of t)) (takes_other (told t)) (elements (codes "fields") (members_of t)) (takes_by_told t)
    ∙ ap (list_any (takes_other (told t))) (elements_told (codes "fields") t)) i

-- a register that cannot be shadowed is not
abbrev pub shadow_good : Data → Bool
shadow_good d = cond (is_judged d && has_other d) (is_not_true (codes "shadowed") d) true

none_of_shadow : (t : Tree) → is_none (shadow_outside (members_of t)) ≡ shadow_good (told t)
unfolding shadow_outside
none_of_shadow t =
    none_where (can_be_judged (members_of t) && cannot_be_shadowed (members_of t)) (outside_if_true (members_of t) (codes "shadowed"))
    ∙ (λ i. cond (judged_by_told t i && other_by_told t i) (none_of_true (codes "shadowed") t i) true)

-- a register is not asynchronous or an alias, and not shadowed where it cannot be
abbrev pub is_inside : Data → Bool
is_inside d = shadow_good d && (is_absent (codes "async") d && (is_absent (codes "sync") d && is_absent (codes "alias_target") d))

none_of_outside : (t : Tree) → is_none (register_outside (members_of t)) ≡ is_inside (told t)
unfolding register_outside
none_of_outside t =
    none_by_both (shadow_outside (members_of t)) _ _ _ (none_of_shadow t)
    (none_by_both (outside_key (members_of t) (codes "async")) _ _ _ (none_of_key_outside (codes "async") t)
    (none_by_both (outside_key (members_of t) (codes "sync")) _ _ _ (none_of_key_outside (codes "sync") t) (none_of_key_outside (codes "alias_target") t)))

-- ---- fields

-- a multi-bit boolean has four bits and a plain kind
abbrev pub mubi_good : Data → Data → Bool
mubi_good register d =
    cond (has_other_width (option_and_then bits_told_in (get (codes "bits") d)) || has_other_kind (kind_told register d)) (is_not_true (codes "mubi") d) true

none_of_mubi : (register t : Tree) → is_none (mubi_outside (members_of register) (members_of t)) ≡ mubi_good (told register) (told t)
unfolding mubi_outside
none_of_mubi register t =
    none_where (has_other_width (option_and_then bits_in (value_at (codes "bits") (members_of t)))
    || has_other_kind (kind_that_counts (members_of register) (members_of t))) (outside_if_true (members_of t) (codes "mubi"))
    ∙ (λ i. cond (has_other_width (bits_at_told (codes "bits") t i) || has_other_kind (kind_by_told register t i)) (none_of_true (codes "mubi") t i) true)

-- a field of a register breaks no rule on keys
abbrev pub field_good : Data → Data → Bool
field_good register d = object_good field_keys d && mubi_good register d

none_of_field : (register t : Tree) → is_none (field_faults (members_of register) t) ≡ field_good (told register) (told t)
unfolding field_faults
none_of_field register t =
    none_by_both (object_faults field_keys t) (mubi_outside (members_of register) (members_of t)) _ _ (none_of_object field_keys t) (none_of_mubi register t)

-- ---- registers

-- a register with these keys breaks no rule on keys
abbrev pub register_good : List Key → Data → Bool
register_good ks d =
    object_good ks d && (is_inside d && (list_all is_object (elements_of (codes "fields") d) && list_all (field_good d) (elements_of (codes "fields") d)))

-- what is found of a register, by what it tells
pub none_of_register : (ks : List Key) (t : Tree) → is_none (register_faults ks t) ≡ register_good ks (told t)
unfolding register_faults
none_of_register ks t =
    none_by_both (object_faults ks t) _ _ _ (none_of_object ks t)
    (none_by_both (register_outside (members_of t)) _ _ _ (none_of_outside t)
    (none_by_both (element_faults (codes "fields") (members_of t)) _ _ _ (none_of_element_list (codes "fields") t)
    (none_of_elements (field_faults (members_of t)) (field_good (told t)) (codes "fields") t (none_of_field t))))

-- ---- multiregs and windows

-- a list of objects
abbrev pub objects_in : Data → Bool
objects_in d = option_map_or (list_all is_object) (option_map listed (as_array d)) false

-- `fields` is a list of objects
abbrev pub fields_objects : Data → Bool
fields_objects d = option_map_or objects_in (get (codes "fields") d) false

mapped_objects : (o : Option (List Tree)) → option_map_or (list_all (fits Object)) o false ≡ option_map_or (list_all is_object) (option_map (map told) o) false
mapped_objects None = refl
mapped_objects (Some ts) = all_told (fits Object) is_object ts (fits_by_told Object)

fields_by_told : (t : Tree) → fields_are_objects (members_of t) ≡ fields_objects (told t)
unfolding fields_are_objects
fields_by_told t =
    by_value_at (λ t. option_map_or (list_all (fits Object)) (array_in t) false) objects_in false
    (λ t. mapped_objects (array_in t) ∙ ap (λ o. option_map_or (list_all is_object) o false) (array_told t)) (codes "fields") t

-- how many elements a list has
pub length_by_told : (key : List ℕ) (t : Tree) → length (elements key (members_of t)) ≡ length (elements_of key (told t))
length_by_told key t = sym (length-map (elements key (members_of t)) told) ∙ ap length (elements_told key t)

-- copies of several fields, or with gates of their own
abbrev pub is_apart : Data → Bool
is_apart d =
    fields_objects d && (fit_at_told (Boolean ∷ []) (codes "regwen_multi") d
    && (nat_lt 1 (length (elements_of (codes "fields") d)) || is_true_told (codes "regwen_multi") d))

-- are not compacted
abbrev pub compact_good : Data → Bool
compact_good d = cond (is_apart d) (is_not_true (codes "compact") d) true

none_of_compact : (t : Tree) → is_none (compact_outside (members_of t)) ≡ compact_good (told t)
unfolding compact_outside
none_of_compact t =
    none_where _ (outside_if_true (members_of t) (codes "compact"))
    ∙ (λ i. cond (fields_by_told t i && (fit_at_by_told (Boolean ∷ []) (codes "regwen_multi") t i
    && (nat_lt 1 (length_by_told (codes "fields") t i) || true_by_told (codes "regwen_multi") t i))) (none_of_true (codes "compact") t i) true)

-- a multireg breaks no rule on keys
abbrev pub multireg_good : Data → Bool
multireg_good d = fits_one_told (Object ∷ []) d && (register_good (register_keys ++ copy_keys) d && compact_good d)

none_of_multireg : (t : Tree) → is_none (multireg_faults t) ≡ multireg_good (told t)
unfolding multireg_faults
none_of_multireg t =
    none_by_both (value_faults (codes "multireg") (Object ∷ []) t) _ _ _ (none_in_value (codes "multireg") (Object ∷ []) t)
    (none_by_both (register_faults (register_keys ++ copy_keys) t) _ _ _ (none_of_register (register_keys ++ copy_keys) t) (none_of_compact t))

-- a window breaks no rule on keys
abbrev pub window_good : Data → Bool
window_good d = fits_one_told (Object ∷ []) d && object_good window_keys d

none_of_window : (t : Tree) → is_none (window_faults t) ≡ window_good (told t)
unfolding window_faults
none_of_window t =
    none_by_both (value_faults (codes "window") (Object ∷ []) t) _ _ _ (none_in_value (codes "window") (Object ∷ []) t) (none_of_object window_keys t)

-- ---- entries

-- an entry by what stands at the keys that it may be known by
abbrev pub kind_good : Data → Option Data → Option Data → Option Data → Option Data → Bool
kind_good d m w s r =
    option_map_or multireg_good m (option_map_or window_good w
    (option_map_or (fits_one_told (word_number ∷ [])) s (option_map_or (fits_one_told (word_number ∷ [])) r (register_good register_keys d))))

none_by_kind : (t : Tree) (m w s r : Option Tree) →
    is_none (option_map_or multireg_faults m (option_map_or window_faults w
    (option_map_or (value_faults (codes "skipto") (word_number ∷ [])) s
    (option_map_or (value_faults (codes "reserved") (word_number ∷ [])) r (register_faults register_keys t)))))
    ≡ kind_good (told t) (option_map told m) (option_map told w) (option_map told s) (option_map told r)
none_by_kind t (Some m) w s r = none_of_multireg m
none_by_kind t None (Some w) s r = none_of_window w
none_by_kind t None None (Some s) r = none_in_value (codes "skipto") (word_number ∷ []) s
none_by_kind t None None None (Some r) = none_in_value (codes "reserved") (word_number ∷ []) r
none_by_kind t None None None None = none_of_register register_keys t

-- by what it tells
abbrev pub kind_good_in : Data → Bool
kind_good_in d = kind_good d (get (codes "multireg") d) (get (codes "window") d) (get (codes "skipto") d) (get (codes "reserved") d)

none_of_kind : (t : Tree) → is_none (entry_kind_faults (members_of t) t) ≡ kind_good_in (told t)
unfolding entry_kind_faults
none_of_kind t =
    none_by_kind t (value_at (codes "multireg") (members_of t)) (value_at (codes "window") (members_of t)) (value_at (codes "skipto") (members_of t)) (value_at (codes "reserved") (members_of t))
    ∙ (λ i. kind_good (told t) (found_told (codes "multireg") t i) (found_told (codes "window") t i) (found_told (codes "skipto") t i) (found_told (codes "reserved") t i))

-- an entry, if it is an object
abbrev pub entry_good : Data → Bool
entry_good d = cond (is_object d) (kind_good_in d && is_absent (codes "sameaddr") d) true

-- what is found of an entry, by what it tells
pub none_of_entry : (t : Tree) → is_none (entry_faults t) ≡ entry_good (told t)
unfolding entry_faults
none_of_entry t =
    none_where (fits Object t) (entry_kind_faults (members_of t) t ++ outside_key (members_of t) (codes "sameaddr"))
    ∙ (λ i. cond (fits_by_told Object t i)
    (none_by_both (entry_kind_faults (members_of t) t) (outside_key (members_of t) (codes "sameaddr")) _ _ (none_of_kind t) (none_of_key_outside (codes "sameaddr") t) i) true)

-- a list of objects that are entries
abbrev pub list_good : Data → Bool
list_good d = fits_one_told (Items ∷ []) d && (list_all is_object (items_told_in d) && list_all entry_good (items_told_in d))

-- what is found of a list of entries, by what it tells
pub none_of_entry_list : (l : EntryList) → is_none (entry_list_faults l) ≡ list_good (told l.value)
unfolding entry_list_faults
none_of_entry_list l =
    none_by_both (value_faults l.key (Items ∷ []) l.value) _ _ _ (none_in_value l.key (Items ∷ []) l.value)
    (none_by_both (list_faults Object l.key l.value) _ _ _ (none_of_list l.key l.value)
    (none_of_each entry_faults (λ t. is_none (entry_faults t)) (items_of l.value) (λ t. refl)
    ∙ all_items (λ t. is_none (entry_faults t)) entry_good l.value none_of_entry))
