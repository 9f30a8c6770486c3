-- What a block breaks of the rules on keys, kinds and the profile.
use Rattle.std.specs.Prelude.{ℕ, ◌==◌, nat_lt, is_some, Bool, true, false, not, ◌&&◌, ◌||◌, cond, List, [], ◌∷◌, ◌++◌, length, flat_map, codes, Option, Some, None, option_and_then, unwrap_or}
use Rattle.std.specs.List.{list_all, list_any}
use Rattle.std.specs.Option.{option_map_or}
use Rattle.std.specs.Str.{bytes_eq}
use Rattle.cg_desc.specs.declared.block.SwAccess.{SwAccess}
use Rattle.cg_desc.specs.declared.block.SwAccess.TheVariants.{Ro, Rw, Wo, Nothing}
use Rattle.cg_desc.specs.declared.block.HwAccess.{HwAccess}
use Rattle.cg_desc.specs.declared.block.HwAccess.TheVariants.{Hro}
use Rattle.cg_desc.specs.AccessTable.{hardware_writes}
use Rattle.cg_hjson.specs.declared.tree.Tree.{Tree}
use Rattle.cg_hjson.specs.declared.tree.Member.{Member}
use Rattle.cg_finding.specs.Finding.{Finding}
use Rattle.cg_finding.specs.Rules as rules
use Rattle.cg_keys.specs.Values.{array_in, text_in, members_of, items_of}
use Rattle.cg_keys.specs.Forms.{software, hardware, fits}
use Rattle.cg_keys.specs.Table.{Key, value_at, value_faults, table_faults}
use Rattle.cg_keys.specs.Duplicates.{duplicate_faults}
use Rattle.cg_keys.specs.Elements.{elements, list_faults, element_faults, length_faults, object_faults, each_faults}
use Rattle.cg_keys.specs.Lookups.{text_at, boolean_at, number_at, is_fit_at}
use Rattle.cg_keys.specs.declared.forms.Form.TheVariants.{Boolean, Items, Object}
use Rattle.cg_blkread.specs.Bits.{bits_in, width_of}
use Rattle.cg_blkread.specs.Interfaces.{interfaces, EntryList, entry_lists, at_value, interface_faults}
use Rattle.cg_blkread.specs.Tables.{word_number, block_keys, clocking_keys, interface_keys, interrupt_keys, alert_keys, parameter_keys, pin_keys, register_keys, copy_keys, window_keys, field_keys}
use Rattle.cg_blkread.specs.declared.raw.Bits.{Bits}

-- ---- 26: outside the profile

-- a key whose presence alone is outside
unfoldable pub outside_key : List Member → List ℕ → List Finding
outside_key ms key = at_value key ms (λ at. rules.outside_the_profile at key ∷ [])

-- a key that is outside where it is true
unfoldable pub outside_if_true : List Member → List ℕ → List Finding
outside_if_true ms key = cond (unwrap_or (boolean_at key ms) false) (outside_key ms key) []

-- The software kind that counts for a field: its own, or else its register's, or else none; nothing where that has not its form.
unfoldable pub kind_that_counts : List Member → List Member → Option SwAccess
kind_that_counts register field =
    option_map_or (λ t. option_and_then software (text_in t)) (value_at (codes "swaccess") field)
    (option_map_or (λ t. option_and_then software (text_in t)) (value_at (codes "swaccess") register) (Some Nothing))

-- The hardware kind that counts for a field: its own, or else its register's, or else `hro`; nothing where that has not its form.
unfoldable pub hardware_that_counts : List Member → List Member → Option HwAccess
hardware_that_counts register field =
    option_map_or (λ t. option_and_then hardware (text_in t)) (value_at (codes "hwaccess") field)
    (option_map_or (λ t. option_and_then hardware (text_in t)) (value_at (codes "hwaccess") register) (Some Hro))

-- a field is an object, and the kinds that count for it have their forms
unfoldable pub kinds_are_told : List Member → Tree → Bool
kinds_are_told register field =
    fits Object field && (is_some (kind_that_counts register (members_of field)) && is_some (hardware_that_counts register (members_of field)))

-- what is asked of a shadowed register has its form
unfoldable pub can_be_judged : List Member → Bool
can_be_judged ms =
    is_fit_at (Boolean ∷ []) (codes "hwext") ms
    && (is_fit_at (Items ∷ []) (codes "fields") ms && list_all (kinds_are_told ms) (elements (codes "fields") ms))

abbrev pub is_rw : SwAccess → Bool
is_rw Rw = true
is_rw _ = false

abbrev pub is_other_than_rw : Option SwAccess → Bool
is_other_than_rw None = false
is_other_than_rw (Some k) = not (is_rw k)

abbrev pub is_written_by_hardware : Option HwAccess → Bool
is_written_by_hardware None = false
is_written_by_hardware (Some k) = hardware_writes k

-- a field does not take its value by two writes of software alone
unfoldable pub takes_other_values : List Member → Tree → Bool
takes_other_values register field =
    is_other_than_rw (kind_that_counts register (members_of field)) || is_written_by_hardware (hardware_that_counts register (members_of field))

-- a register that has no storage, or a field that takes other values
unfoldable pub cannot_be_shadowed : List Member → Bool
cannot_be_shadowed ms = unwrap_or (boolean_at (codes "hwext") ms) false || list_any (takes_other_values ms) (elements (codes "fields") ms)

-- a shadowed register has storage, and its fields take values by two writes of software alone
unfoldable pub shadow_outside : List Member → List Finding
shadow_outside ms = cond (can_be_judged ms && cannot_be_shadowed ms) (outside_if_true ms (codes "shadowed")) []

-- a register that is shadowed and cannot be so, asynchronous or an alias
unfoldable pub register_outside : List Member → List Finding
register_outside ms =
    shadow_outside ms
    ++ (outside_key ms (codes "async") ++ (outside_key ms (codes "sync") ++ outside_key ms (codes "alias_target")))

abbrev pub takes_mubi : SwAccess → Bool
takes_mubi Ro = true
takes_mubi Rw = true
takes_mubi Wo = true
takes_mubi _ = false

abbrev pub has_other_width : Option Bits → Bool
has_other_width None = false
has_other_width (Some b) = not (width_of b == 4)

abbrev pub has_other_kind : Option SwAccess → Bool
has_other_kind None = false
has_other_kind (Some k) = not (takes_mubi k)

-- a multi-bit boolean has four bits, and software reads or writes it plainly
unfoldable pub mubi_outside : List Member → List Member → List Finding
mubi_outside register field =
    cond (has_other_width (option_and_then bits_in (value_at (codes "bits") field)) || has_other_kind (kind_that_counts register field))
    (outside_if_true field (codes "mubi")) []

-- `fields` is a list of objects
unfoldable pub fields_are_objects : List Member → Bool
fields_are_objects ms = option_map_or (λ t. option_map_or (list_all (fits Object)) (array_in t) false) (value_at (codes "fields") ms) false

-- copies of several fields, or each with a gate of its own, are not compacted
unfoldable pub compact_outside : List Member → List Finding
compact_outside ms =
    cond (fields_are_objects ms && (is_fit_at (Boolean ∷ []) (codes "regwen_multi") ms
    && (nat_lt 1 (length (elements (codes "fields") ms)) || unwrap_or (boolean_at (codes "regwen_multi") ms) false)))
    (outside_if_true ms (codes "compact")) []

-- registers have 32 bits
unfoldable pub width_outside : List Member → List Finding
width_outside ms = option_map_or (λ n. cond (n == 32) [] (outside_key ms (codes "regwidth"))) (number_at 0 4294967295 (codes "regwidth") ms) []

-- interfaces speak TL-UL
unfoldable pub protocol_outside : Tree → List Finding
protocol_outside t =
    option_map_or (λ p. cond (bytes_eq p (codes "tlul")) [] (outside_key (members_of t) (codes "protocol"))) (text_at (codes "protocol") (members_of t)) []

-- ---- entries

unfoldable pub field_faults : List Member → Tree → List Finding
field_faults register t = object_faults field_keys t ++ mubi_outside register (members_of t)

-- what is asked of the members of a register, and of a multireg
unfoldable pub register_faults : List Key → Tree → List Finding
register_faults keys t =
    object_faults keys t
    ++ (register_outside (members_of t)
    ++ (element_faults (codes "fields") (members_of t)
    ++ flat_map (field_faults (members_of t)) (elements (codes "fields") (members_of t))))

unfoldable pub multireg_faults : Tree → List Finding
multireg_faults t =
    value_faults (codes "multireg") (Object ∷ []) t ++ (register_faults (register_keys ++ copy_keys) t ++ compact_outside (members_of t))

unfoldable pub window_faults : Tree → List Finding
window_faults t = value_faults (codes "window") (Object ∷ []) t ++ object_faults window_keys t

-- an entry that is known by its key, of which the first in this order counts; else it is a register
unfoldable pub entry_kind_faults : List Member → Tree → List Finding
entry_kind_faults ms t =
    option_map_or multireg_faults (value_at (codes "multireg") ms)
    (option_map_or window_faults (value_at (codes "window") ms)
    (option_map_or (value_faults (codes "skipto") (word_number ∷ [])) (value_at (codes "skipto") ms)
    (option_map_or (value_faults (codes "reserved") (word_number ∷ [])) (value_at (codes "reserved") ms)
    (register_faults register_keys t))))

unfoldable pub entry_faults : Tree → List Finding
entry_faults t = cond (fits Object t) (entry_kind_faults (members_of t) t ++ outside_key (members_of t) (codes "sameaddr")) []

-- 22: the value is no list, or one of its elements no object
unfoldable pub entry_list_faults : EntryList → List Finding
entry_list_faults l =
    value_faults l.key (Items ∷ []) l.value ++ (list_faults Object l.key l.value ++ flat_map entry_faults (items_of l.value))

-- ---- the block

-- a list of objects with these keys
unfoldable pub objects_faults : List ℕ → List Key → List Member → List Finding
objects_faults key keys ms = element_faults key ms ++ each_faults keys (elements key ms)

unfoldable pub lists_faults : List Member → List Finding
lists_faults ms =
    objects_faults (codes "clocking") clocking_keys ms
    ++ (objects_faults (codes "bus_interfaces") interface_keys ms
    ++ (objects_faults (codes "interrupt_list") interrupt_keys ms
    ++ (objects_faults (codes "alert_list") alert_keys ms
    ++ (objects_faults (codes "param_list") parameter_keys ms
    ++ (objects_faults (codes "available_input_list") pin_keys ms
    ++ (objects_faults (codes "available_output_list") pin_keys ms
    ++ objects_faults (codes "available_inout_list") pin_keys ms))))))

unfoldable pub lengths_faults : List Member → List Finding
lengths_faults ms =
    length_faults 1 64 (codes "clocking") ms
    ++ (length_faults 0 64 (codes "available_input_list") ms
    ++ (length_faults 0 64 (codes "available_output_list") ms
    ++ length_faults 0 64 (codes "available_inout_list") ms))

-- all of a block
unfoldable pub key_faults : Tree → List Finding
key_faults t =
    duplicate_faults t
    ++ (table_faults t.at (members_of t) block_keys
    ++ (lengths_faults (members_of t)
    ++ (lists_faults (members_of t)
    ++ (width_outside (members_of t)
    ++ (flat_map protocol_outside (interfaces (members_of t))
    ++ (interface_faults (members_of t)
    ++ flat_map entry_list_faults (entry_lists (members_of t))))))))
