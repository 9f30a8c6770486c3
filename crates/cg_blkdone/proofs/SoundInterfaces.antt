-- What a block breaks of the rules on its interfaces, by the JSON value that it tells.
use Rattle.std.proofs.Common.{◌≡◌, ℕ, nat_lt, Bool, true, false, ◌&&◌, ◌||◌, cond, length, is_some, codes, bytes_eq, List, [], ◌∷◌, map, Option, Some, None, option_map, option_and_then, refl, sym, ap, ◌∙◌}
use Rattle.std.proofs.lemmas.List.{length-map}
use Rattle.std.specs.List.{filter, flat_map, list_all, list_any}
use Rattle.std.specs.Option.{option_map_or}
use Rattle.serde_json.specs.Data.{Data}
use Rattle.serde_json.specs.Find.{as_array, as_str, get}
use Rattle.cg_desc.specs.declared.place.At.{At}
use Rattle.cg_finding.specs.Finding.{Finding, finding}
use Rattle.cg_hjson.specs.declared.tree.Tree.{Tree}
use Rattle.cg_keys.specs.Elements.{elements}
use Rattle.cg_keys.specs.Lookups.{text_at}
use Rattle.cg_keys.specs.Table.{value_at}
use Rattle.cg_keys.specs.Values.{array_in, members_of}
use Rattle.cg_keys.specs.declared.forms.Form.TheVariants.{Name, Word}
use Rattle.cg_keys.specs.declared.words.Words.TheVariants.{Direction}
use Rattle.cg_blkread.specs.Interfaces.{devices, equal_names, has_same_names, hosts, interface_name, interfaces, interfaces_are_good, is_device, is_good_interface, is_host, many_devices, nameless_devices, same_name}
use Rattle.cg_blkread.specs.Keys.{protocol_outside, outside_key}
use Rattle.cg_blkdone.proofs.Lookups.{elements_told, is_object, text_at_told}
use Rattle.cg_blkdone.proofs.SoundEntries.{fit_at_by_told, fit_at_told, is_absent, none_of_key_outside}
use Rattle.cg_blkdone.proofs.SoundNone.{is_none, none_of_each, none_unless, none_where}
use Rattle.cg_blkdone.proofs.SoundTables.{all_told, by_value_at, elements_of, there_told}
use Rattle.cg_blkdone.proofs.Told.{array_told, listed, object_told, told}

-- ---- each interface

-- a word stands at a key
abbrev pub has_text_told : List ℕ → List ℕ → Data → Bool
has_text_told key word d = option_map_or (bytes_eq word) (option_and_then as_str (get key d)) false

-- a device interface
abbrev pub is_device_told : Data → Bool
is_device_told d = has_text_told (codes "direction") (codes "device") d

-- a host interface
abbrev pub is_host_told : Data → Bool
is_host_told d = has_text_told (codes "direction") (codes "host") d

-- the name of an interface, if it has one
abbrev pub name_told : Data → Option (List ℕ)
name_told d = option_and_then as_str (get (codes "name") d)

-- is what its value tells
pub name_by_told : (t : Tree) → interface_name t ≡ name_told (told t)
name_by_told t = text_at_told (codes "name") t

device_by_told : (t : Tree) → is_device t ≡ is_device_told (told t)
device_by_told t = ap (λ o. option_map_or (bytes_eq (codes "device")) o false) (text_at_told (codes "direction") t)

host_by_told : (t : Tree) → is_host t ≡ is_host_told (told t)
host_by_told t = ap (λ o. option_map_or (bytes_eq (codes "host")) o false) (text_at_told (codes "direction") t)

filter_one : (b : Bool) (t : Tree) (ts : List Tree) → map told (cond b (t ∷ ts) ts) ≡ cond b (told t ∷ map told ts) (map told ts)
filter_one true t ts = refl
filter_one false t ts = refl

filter_told : (f : Tree → Bool) (g : Data → Bool) → ((t : Tree) → f t ≡ g (told t)) → (ts : List Tree) → map told (filter f ts) ≡ filter g (map told ts)
filter_told f g same [] = refl
filter_told f g same (t ∷ ts) =
    filter_one (f t) t (filter f ts) ∙ (λ i. cond (same t i) (told t ∷ filter_told f g same ts i) (filter_told f g same ts i))

-- the interfaces of a block
abbrev pub interfaces_told : Data → List Data
interfaces_told d = elements_of (codes "bus_interfaces") d

-- its device interfaces
abbrev pub devices_told : Data → List Data
devices_told d = filter is_device_told (interfaces_told d)

-- its host interfaces
abbrev pub hosts_told : Data → List Data
hosts_told d = filter is_host_told (interfaces_told d)

-- the device interfaces by what the block tells
pub devices_by_told : (t : Tree) → map told (devices (members_of t)) ≡ devices_told (told t)
unfolding devices interfaces
devices_by_told t =
    filter_told is_device is_device_told device_by_told (elements (codes "bus_interfaces") (members_of t)) ∙ ap (filter is_device_told) (elements_told (codes "bus_interfaces") t)

hosts_by_told : (t : Tree) → map told (hosts (members_of t)) ≡ hosts_told (told t)
unfolding hosts interfaces
hosts_by_told t =
    filter_told is_host is_host_told host_by_told (elements (codes "bus_interfaces") (members_of t)) ∙ ap (filter is_host_told) (elements_told (codes "bus_interfaces") t)

-- so is how many there are
pub count_by_told : (t : Tree) → length (devices (members_of t)) ≡ length (devices_told (told t))
count_by_told t = sym (length-map (devices (members_of t)) told) ∙ ap length (devices_by_told t)

-- ---- good interfaces

-- a good interface
abbrev pub good_told : Data → Bool
good_told d =
    is_object d && (is_some (get (codes "direction") d)
    && (fit_at_told (Word Direction ∷ []) (codes "direction") d && fit_at_told (Name ∷ []) (codes "name") d))

good_by_told : (t : Tree) → is_good_interface t ≡ good_told (told t)
unfolding is_good_interface
good_by_told t = λ i.
    object_told t i && (there_told (codes "direction") t i
    && (fit_at_by_told (Word Direction ∷ []) (codes "direction") t i && fit_at_by_told (Name ∷ []) (codes "name") t i))

-- a list of good interfaces
abbrev pub all_good_in : Data → Bool
all_good_in d = option_map_or (list_all good_told) (option_map listed (as_array d)) false

-- all interfaces of a block are good
abbrev pub all_good : Data → Bool
all_good d = option_map_or all_good_in (get (codes "bus_interfaces") d) false

mapped_good : (o : Option (List Tree)) → option_map_or (list_all is_good_interface) o false ≡ option_map_or (list_all good_told) (option_map (map told) o) false
mapped_good None = refl
mapped_good (Some ts) = all_told is_good_interface good_told ts good_by_told

-- is what the block tells
pub all_good_by_told : (t : Tree) → interfaces_are_good (members_of t) ≡ all_good (told t)
unfolding interfaces_are_good
all_good_by_told t =
    by_value_at (λ t. option_map_or (list_all is_good_interface) (array_in t) false) all_good_in false
    (λ t. mapped_good (array_in t) ∙ ap (λ o. option_map_or (list_all good_told) o false) (array_told t)) (codes "bus_interfaces") t

-- ---- how many, and their names

at_value_none : (f : At → Finding) (o : Option Tree) → is_none (option_map_or (λ (t : Tree). f t.at ∷ []) o []) ≡ option_map_or (λ (t : Tree). false) o true
at_value_none f None = refl
at_value_none f (Some t) = refl

none_at_interfaces : (t : Tree)
    → is_none (option_map_or (λ (l : Tree). finding 2 22 l.at (codes "bus_interfaces") ∷ []) (value_at (codes "bus_interfaces") (members_of t)) [])
    ≡ is_absent (codes "bus_interfaces") (told t)
none_at_interfaces t =
    at_value_none (λ at. finding 2 22 at (codes "bus_interfaces")) (value_at (codes "bus_interfaces") (members_of t))
    ∙ by_value_at (λ (t : Tree). false) (λ (e : Data). false) true (λ t. refl) (codes "bus_interfaces") t

-- at most eight device interfaces
abbrev pub few_devices : Data → Bool
few_devices d = cond (nat_lt 8 (length (devices_told d))) (is_absent (codes "bus_interfaces") d) true

-- what is found of more
pub none_of_many : (t : Tree) → is_none (many_devices (members_of t)) ≡ few_devices (told t)
unfolding many_devices
none_of_many t =
    none_where (nat_lt 8 (length (devices (members_of t)))) _
    ∙ (λ i. cond (nat_lt 8 (count_by_told t i)) (none_at_interfaces t i) true)

-- each of several device interfaces has a name
abbrev pub all_named : Data → Bool
all_named d = cond (nat_lt 1 (length (devices_told d))) (list_all (λ e. is_some (name_told e)) (devices_told d)) true

none_nameless : (ts : List Tree) → is_none (flat_map (λ (t : Tree). cond (is_some (interface_name t)) [] (finding 2 21 t.at (codes "name") ∷ [])) ts)
    ≡ list_all (λ e. is_some (name_told e)) (map told ts)
none_nameless ts =
    none_of_each (λ (t : Tree). cond (is_some (interface_name t)) [] (finding 2 21 t.at (codes "name") ∷ [])) (λ t. is_some (interface_name t)) ts
    (λ t. none_unless (is_some (interface_name t)) (finding 2 21 t.at (codes "name")))
    ∙ all_told (λ t. is_some (interface_name t)) (λ e. is_some (name_told e)) ts (λ t. ap is_some (name_by_told t))

-- what is found of those without
pub none_of_nameless : (t : Tree) → is_none (nameless_devices (members_of t)) ≡ all_named (told t)
unfolding nameless_devices
none_of_nameless t =
    none_where (nat_lt 1 (length (devices (members_of t)))) _
    ∙ (λ i. cond (nat_lt 1 (count_by_told t i)) ((none_nameless (devices (members_of t)) ∙ ap (list_all (λ e. is_some (name_told e))) (devices_by_told t)) i) true)

-- some two have one name, or none
unfoldable pub same_names : List Data → Bool
same_names [] = false
same_names (d ∷ ds) = list_any (λ e. same_name (name_told d) (name_told e)) ds || same_names ds

any_same : (t : Tree) (ts : List Tree) → list_any (λ u. same_name (interface_name t) (interface_name u)) ts
    ≡ list_any (λ e. same_name (name_told (told t)) (name_told e)) (map told ts)
any_same t [] = refl
any_same t (u ∷ us) = λ i. same_name (name_by_told t i) (name_by_told u i) || any_same t us i

same_by_told : (ts : List Tree) → has_same_names ts ≡ same_names (map told ts)
unfolding has_same_names same_names
same_by_told [] = refl
same_by_told (t ∷ ts) = λ i. any_same t ts i || same_by_told ts i

-- no two of one direction have one name
abbrev pub names_good : Data → Bool
names_good d = cond (same_names (devices_told d) || same_names (hosts_told d)) (is_absent (codes "bus_interfaces") d) true

-- what is found of those that have
pub none_of_equal : (t : Tree) → is_none (equal_names (members_of t)) ≡ names_good (told t)
unfolding equal_names
none_of_equal t =
    none_where (has_same_names (devices (members_of t)) || has_same_names (hosts (members_of t))) _
    ∙ (λ i. cond ((same_by_told (devices (members_of t)) ∙ ap same_names (devices_by_told t)) i || (same_by_told (hosts (members_of t)) ∙ ap same_names (hosts_by_told t)) i)
    (none_at_interfaces t i) true)

-- ---- protocols

-- an interface speaks TL-UL
abbrev pub protocol_good : Data → Bool
protocol_good d = option_map_or (λ p. cond (bytes_eq p (codes "tlul")) true (is_absent (codes "protocol") d)) (option_and_then as_str (get (codes "protocol") d)) true

protocol_by : (t : Tree) (o : Option (List ℕ))
    → is_none (option_map_or (λ p. cond (bytes_eq p (codes "tlul")) [] (outside_key (members_of t) (codes "protocol"))) o [])
    ≡ option_map_or (λ p. cond (bytes_eq p (codes "tlul")) true (is_absent (codes "protocol") (told t))) o true
protocol_by t None = refl
protocol_by t (Some p) = by (bytes_eq p (codes "tlul")) where
  by : (b : Bool) → is_none (cond b [] (outside_key (members_of t) (codes "protocol"))) ≡ cond b true (is_absent (codes "protocol") (told t))
  by true = refl
  by false = none_of_key_outside (codes "protocol") t

none_of_protocol : (t : Tree) → is_none (protocol_outside t) ≡ protocol_good (told t)
unfolding protocol_outside
none_of_protocol t =
    protocol_by t (text_at (codes "protocol") (members_of t))
    ∙ ap (λ o. option_map_or (λ p. cond (bytes_eq p (codes "tlul")) true (is_absent (codes "protocol") (told t))) o true) (text_at_told (codes "protocol") t)

-- what is found of other protocols
pub none_of_protocols : (t : Tree) → is_none (flat_map protocol_outside (interfaces (members_of t))) ≡ list_all protocol_good (interfaces_told (told t))
unfolding interfaces
none_of_protocols t =
    none_of_each protocol_outside (λ e. is_none (protocol_outside e)) (elements (codes "bus_interfaces") (members_of t)) (λ e. refl)
    ∙ all_told (λ e. is_none (protocol_outside e)) protocol_good (elements (codes "bus_interfaces") (members_of t)) none_of_protocol
    ∙ ap (list_all protocol_good) (elements_told (codes "bus_interfaces") t)
