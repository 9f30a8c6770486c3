-- The rules on a block by their parts, as tests of what it tells.
use Rattle.std.proofs.Common.{◌≡◌, ℕ, Bool, true, not, ◌&&◌, cond, codes, List, [], ◌∷◌, ◌++◌, map, Some, refl, ap, ◌∙◌}
use Rattle.std.proofs.lemmas.Grind.{flat_map-append}
use Rattle.std.specs.List.{flat_map, list_all}
use Rattle.std.specs.Option.{option_map_or}
use Rattle.serde_json.specs.Data.{Data}
use Rattle.serde_json.specs.Find.{get}
use Rattle.cg_finding.specs.Finding.{finding}
use Rattle.cg_hjson.specs.declared.tree.Tree.{Tree}
use Rattle.cg_hjson.specs.declared.tree.Member.{Member}
use Rattle.cg_keys.specs.Duplicates.{duplicate_faults}
use Rattle.cg_keys.specs.Elements.{each_faults, element_faults, elements, length_faults}
use Rattle.cg_keys.specs.Table.{Key, table_faults, value_at}
use Rattle.cg_keys.specs.Values.{items_of, members_of, object_in}
use Rattle.cg_blkread.specs.Interfaces.{EntryList, devices, entry_lists, equal_names, interface_faults, interfaces, interfaces_are_good, lists_in, lists_of_value, many_devices, missing_lists, nameless_devices, shape_faults}
use Rattle.cg_blkread.specs.Keys.{entry_list_faults, key_faults, lengths_faults, lists_faults, objects_faults, protocol_outside, width_outside}
use Rattle.cg_blkread.specs.Raw.{Parameter, parameters, raw_entry}
use Rattle.cg_blkread.specs.Reads.{raw_entries, value_faults}
use Rattle.cg_blkread.specs.Tables.{alert_keys, block_keys, clocking_keys, interface_keys, interrupt_keys, parameter_keys, pin_keys}
use Rattle.cg_blkread.specs.Values.{entry_values}
use Rattle.cg_blkread.specs.declared.raw.RawEntry.{RawEntry}
use Rattle.cg_blkdone.proofs.Lookups.{items_told, items_told_in}
use Rattle.cg_blkdone.proofs.SoundEntries.{list_good, none_of_entry_list}
use Rattle.cg_blkdone.proofs.SoundInterfaces.{all_good, all_good_by_told, all_named, few_devices, interfaces_told, names_good, none_of_equal, none_of_many, none_of_nameless, none_of_protocols, protocol_good}
use Rattle.cg_blkdone.proofs.SoundNone.{is_none, none_by_both, none_of_each, none_when, none_where}
use Rattle.cg_blkdone.proofs.SoundShape.{is_misshapen, lists_pass, missing_in}
use Rattle.cg_blkdone.proofs.SoundTables.{length_good, none_of_each_object, none_of_element_list, none_of_length, none_of_table, objects_good, table_good}
use Rattle.cg_blkdone.proofs.SoundValues.{none_of_values, values_good}
use Rattle.cg_blkdone.proofs.Told.{told}

-- ---- lists of parts

none_of_objects : (key : List ℕ) (ks : List Key) (t : Tree) → is_none (objects_faults key ks (members_of t)) ≡ objects_good ks key (told t)
unfolding objects_faults
none_of_objects key ks t =
    none_by_both (element_faults key (members_of t)) (each_faults ks (elements key (members_of t))) _ _ (none_of_element_list key t) (none_of_each_object ks key t)

-- the list at a key, if there is one, has so many elements
abbrev pub length_at : ℕ → ℕ → List ℕ → Data → Bool
length_at least most key d = option_map_or (length_good least most) (get key d) true

-- the lists of a block have so many elements as they may
abbrev pub lengths_good : Data → Bool
lengths_good d =
    length_at 1 64 (codes "clocking") d && (length_at 0 64 (codes "available_input_list") d
    && (length_at 0 64 (codes "available_output_list") d && length_at 0 64 (codes "available_inout_list") d))

none_of_lengths : (t : Tree) → is_none (lengths_faults (members_of t)) ≡ lengths_good (told t)
unfolding lengths_faults
none_of_lengths t =
    let ms : List Member = members_of t in
    none_by_both (length_faults 1 64 (codes "clocking") ms) _ _ _ (none_of_length 1 64 (codes "clocking") t)
    (none_by_both (length_faults 0 64 (codes "available_input_list") ms) _ _ _ (none_of_length 0 64 (codes "available_input_list") t)
    (none_by_both (length_faults 0 64 (codes "available_output_list") ms) _ _ _ (none_of_length 0 64 (codes "available_output_list") t)
    (none_of_length 0 64 (codes "available_inout_list") t)))

-- and are lists of good objects
abbrev pub lists_good : Data → Bool
lists_good d =
    objects_good clocking_keys (codes "clocking") d && (objects_good interface_keys (codes "bus_interfaces") d
    && (objects_good interrupt_keys (codes "interrupt_list") d && (objects_good alert_keys (codes "alert_list") d
    && (objects_good parameter_keys (codes "param_list") d && (objects_good pin_keys (codes "available_input_list") d
    && (objects_good pin_keys (codes "available_output_list") d && objects_good pin_keys (codes "available_inout_list") d))))))

none_of_lists : (t : Tree) → is_none (lists_faults (members_of t)) ≡ lists_good (told t)
unfolding lists_faults
none_of_lists t =
    let ms : List Member = members_of t in
    none_by_both (objects_faults (codes "clocking") clocking_keys ms) _ _ _ (none_of_objects (codes "clocking") clocking_keys t)
    (none_by_both (objects_faults (codes "bus_interfaces") interface_keys ms) _ _ _ (none_of_objects (codes "bus_interfaces") interface_keys t)
    (none_by_both (objects_faults (codes "interrupt_list") interrupt_keys ms) _ _ _ (none_of_objects (codes "interrupt_list") interrupt_keys t)
    (none_by_both (objects_faults (codes "alert_list") alert_keys ms) _ _ _ (none_of_objects (codes "alert_list") alert_keys t)
    (none_by_both (objects_faults (codes "param_list") parameter_keys ms) _ _ _ (none_of_objects (codes "param_list") parameter_keys t)
    (none_by_both (objects_faults (codes "available_input_list") pin_keys ms) _ _ _ (none_of_objects (codes "available_input_list") pin_keys t)
    (none_by_both (objects_faults (codes "available_output_list") pin_keys ms) _ _ _ (none_of_objects (codes "available_output_list") pin_keys t)
    (none_of_objects (codes "available_inout_list") pin_keys t)))))))

-- ---- interfaces

-- what is asked of the lists of entries of t, which stand in r
abbrev pub shape_good : Tree → Tree → Bool
shape_good t r =
    not (is_misshapen (devices (members_of t)) r (object_in r)) && is_none (option_map_or (missing_in (devices (members_of t)) r) (object_in r) [])

-- what is asked of the interfaces and the lists of entries together
abbrev pub together_good : Tree → Tree → Bool
together_good t r = few_devices (told t) && cond (all_good (told t)) (all_named (told t) && (names_good (told t) && shape_good t r)) true

none_of_shape : (t r : Tree) → value_at (codes "registers") (members_of t) ≡ Some r → is_none (shape_faults (members_of t))
    ≡ not (is_misshapen (devices (members_of t)) r (object_in r))
unfolding shape_faults
none_of_shape t r there =
    ap (λ o. is_none (option_map_or (λ (l : Tree). cond (is_misshapen (devices (members_of t)) l (object_in l)) (finding 2 22 l.at (codes "registers") ∷ []) []) o [])) there
    ∙ none_when (is_misshapen (devices (members_of t)) r (object_in r)) (finding 2 22 r.at (codes "registers"))

none_of_missing : (t r : Tree) → value_at (codes "registers") (members_of t) ≡ Some r
    → is_none (missing_lists (members_of t)) ≡ is_none (option_map_or (missing_in (devices (members_of t)) r) (object_in r) [])
unfolding missing_lists
none_of_missing t r there = ap (λ o. is_none (option_map_or (λ (l : Tree). option_map_or (missing_in (devices (members_of t)) l) (object_in l) []) o [])) there

none_together : (t r : Tree) → value_at (codes "registers") (members_of t) ≡ Some r → is_none (interface_faults (members_of t)) ≡ together_good t r
unfolding interface_faults
none_together t r there =
    let ms : List Member = members_of t in
    none_by_both (many_devices ms) _ _ _ (none_of_many t)
    (none_where (interfaces_are_good ms) (nameless_devices ms ++ (equal_names ms ++ (shape_faults ms ++ missing_lists ms)))
    ∙ (λ i. cond (all_good_by_told t i)
    (none_by_both (nameless_devices ms) _ _ _ (none_of_nameless t)
    (none_by_both (equal_names ms) _ _ _ (none_of_equal t)
    (none_by_both (shape_faults ms) (missing_lists ms) _ _ (none_of_shape t r there) (none_of_missing t r there))) i) true))

-- ---- entries

none_of_entries : (t r : Tree) → value_at (codes "registers") (members_of t) ≡ Some r
    → is_none (flat_map entry_list_faults (entry_lists (members_of t))) ≡ lists_pass list_good r (object_in r)
unfolding entry_lists
none_of_entries t r there =
    ap (λ o. is_none (flat_map entry_list_faults (lists_of_value o))) there
    ∙ none_of_each entry_list_faults (λ l. list_good (told l.value)) (lists_in r (object_in r)) none_of_entry_list

-- ---- all rules on keys

-- a block whose lists of entries stand in r breaks no rule on keys
abbrev pub keys_good : Tree → Tree → Bool
keys_good t r =
    is_none (duplicate_faults t) && (table_good block_keys (told t) && (lengths_good (told t) && (lists_good (told t)
    && (is_none (width_outside (members_of t)) && (list_all protocol_good (interfaces_told (told t))
    && (together_good t r && lists_pass list_good r (object_in r)))))))

-- what is found on keys, by these tests
pub none_of_keys : (t r : Tree) → value_at (codes "registers") (members_of t) ≡ Some r → is_none (key_faults t) ≡ keys_good t r
unfolding key_faults
none_of_keys t r there =
    let ms : List Member = members_of t in
    none_by_both (duplicate_faults t) _ _ _ refl
    (none_by_both (table_faults t.at ms block_keys) _ _ _ (none_of_table t.at t block_keys)
    (none_by_both (lengths_faults ms) _ _ _ (none_of_lengths t)
    (none_by_both (lists_faults ms) _ _ _ (none_of_lists t)
    (none_by_both (width_outside ms) _ _ _ refl
    (none_by_both (flat_map protocol_outside (interfaces ms)) _ _ _ (none_of_protocols t)
    (none_by_both (interface_faults ms) (flat_map entry_list_faults (entry_lists ms)) _ _ (none_together t r there) (none_of_entries t r there)))))))

-- ---- all rules on values

none_of_items : (params : List Parameter) (ts : List Tree) → is_none (flat_map entry_values (map (raw_entry params) ts)) ≡ list_all (values_good params) (map told ts)
none_of_items params [] = refl
none_of_items params (t ∷ ts) =
    none_by_both (entry_values (raw_entry params t)) (flat_map entry_values (map (raw_entry params) ts)) _ _ (none_of_values params t) (none_of_items params ts)

-- the values in a list of entries break no rule
abbrev pub list_values : List Parameter → Data → Bool
list_values params d = list_all (values_good params) (items_told_in d)

none_of_raw : (params : List Parameter) (ls : List EntryList)
    → is_none (flat_map entry_values (flat_map (λ (l : EntryList). map (raw_entry params) (items_of l.value)) ls))
    ≡ list_all (λ (l : EntryList). list_values params (told l.value)) ls
none_of_raw params [] = refl
none_of_raw params (l ∷ ls) =
    let here : List RawEntry = map (raw_entry params) (items_of l.value) in
    let rest : List RawEntry = flat_map (λ (k : EntryList). map (raw_entry params) (items_of k.value)) ls in
    ap is_none (flat_map-append entry_values here rest)
    ∙ none_by_both (flat_map entry_values here) (flat_map entry_values rest) _ _
    (none_of_items params (items_of l.value) ∙ ap (list_all (values_good params)) (items_told l.value)) (none_of_raw params ls)

-- what is found on values, by this test
pub none_of_all_values : (t r : Tree) → value_at (codes "registers") (members_of t) ≡ Some r
    → is_none (value_faults t) ≡ lists_pass (list_values (parameters (members_of t))) r (object_in r)
unfolding value_faults raw_entries entry_lists
none_of_all_values t r there =
    ap (λ o. is_none (flat_map entry_values (flat_map (λ (l : EntryList). map (raw_entry (parameters (members_of t))) (items_of l.value)) (lists_of_value o)))) there
    ∙ none_of_raw (parameters (members_of t)) (lists_in r (object_in r))
