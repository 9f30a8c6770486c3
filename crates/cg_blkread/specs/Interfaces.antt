-- The interfaces of a block, and what its `registers` are to be for them.
use Rattle.std.specs.Prelude.{ℕ, ◌==◌, nat_lt, Bool, true, false, not, ◌&&◌, ◌||◌, cond, is_some, List, [], ◌∷◌, ◌++◌, map, length, filter, flat_map, codes, Option, Some, None}
use Rattle.std.specs.List.{list_any, list_all}
use Rattle.std.specs.Option.{option_map_or}
use Rattle.std.specs.Str.{bytes_eq}
use Rattle.cg_desc.specs.declared.place.At.{At}
use Rattle.cg_hjson.specs.declared.tree.Tree.{Tree}
use Rattle.cg_hjson.specs.declared.tree.Member.{Member}
use Rattle.cg_finding.specs.Finding.{Finding}
use Rattle.cg_finding.specs.Rules as rules
use Rattle.cg_keys.specs.Values.{object_in, array_in, members_of}
use Rattle.cg_keys.specs.Table.{value_at}
use Rattle.cg_keys.specs.Elements.{elements}
use Rattle.cg_keys.specs.Lookups.{text_at, is_fit_at}
use Rattle.cg_keys.specs.declared.forms.Form.TheVariants.{Name, Word}
use Rattle.cg_keys.specs.declared.words.Words.TheVariants.{Direction}

-- ---- the interfaces

abbrev pub has_text : List ℕ → List ℕ → Tree → Bool
has_text key word t = option_map_or (bytes_eq word) (text_at key (members_of t)) false

abbrev pub is_device : Tree → Bool
is_device t = has_text (codes "direction") (codes "device") t

abbrev pub is_host : Tree → Bool
is_host t = has_text (codes "direction") (codes "host") t

-- the name of an interface, which it need not have
abbrev pub interface_name : Tree → Option (List ℕ)
interface_name t = text_at (codes "name") (members_of t)

unfoldable pub interfaces : List Member → List Tree
interfaces ms = elements (codes "bus_interfaces") ms

unfoldable pub devices : List Member → List Tree
devices ms = filter is_device (interfaces ms)

unfoldable pub hosts : List Member → List Tree
hosts ms = filter is_host (interfaces ms)

-- its direction is there, and direction and name have their forms
unfoldable pub is_good_interface : Tree → Bool
is_good_interface t =
    is_some (object_in t)
    && (is_some (value_at (codes "direction") (members_of t))
    && (is_fit_at (Word Direction ∷ []) (codes "direction") (members_of t) && is_fit_at (Name ∷ []) (codes "name") (members_of t)))

-- All interfaces are good: where one is not, nothing is asked of their names together, nor of the shape and lists of `registers`.
unfoldable pub interfaces_are_good : List Member → Bool
interfaces_are_good ms = option_map_or (λ t. option_map_or (list_all is_good_interface) (array_in t) false) (value_at (codes "bus_interfaces") ms) false

-- ---- the lists of entries

-- the members but for those whose key an earlier one has
unfoldable pub first_members_after : List (List ℕ) → List Member → List Member
first_members_after before [] = []
first_members_after before (m ∷ ms) = cond (list_any (bytes_eq m.key) before) (first_members_after before ms) (m ∷ first_members_after (m.key ∷ before) ms)

abbrev pub first_members : List Member → List Member
first_members ms = first_members_after [] ms

-- a key, and the value that is to be a list of entries
pub record EntryList : Type 0 where
  pub key : List ℕ
  pub value : Tree

abbrev pub lists_in : Tree → Option (List Member) → List EntryList
lists_in t None = record { key = codes "registers"; value = t } ∷ []
lists_in t (Some ms) = map (λ m. record { key = m.key; value = m.value }) (first_members ms)

abbrev pub lists_of_value : Option Tree → List EntryList
lists_of_value None = []
lists_of_value (Some t) = lists_in t (object_in t)

-- the lists of entries: `registers` itself, or each of its members
unfoldable pub entry_lists : List Member → List EntryList
entry_lists ms = lists_of_value (value_at (codes "registers") ms)

-- ---- what is broken

abbrev pub at_value : List ℕ → List Member → (At → List Finding) → List Finding
at_value key ms f = option_map_or (λ t. f t.at) (value_at key ms) []

-- 22: more than eight device interfaces
unfoldable pub many_devices : List Member → List Finding
many_devices ms = cond (nat_lt 8 (length (devices ms))) (at_value (codes "bus_interfaces") ms (λ at. rules.wrong_kind at (codes "bus_interfaces") ∷ [])) []

-- 21: one of several device interfaces has no name
unfoldable pub nameless_devices : List Member → List Finding
nameless_devices ms =
    cond (nat_lt 1 (length (devices ms))) (flat_map (λ t. cond (is_some (interface_name t)) [] (rules.missing_key t.at (codes "name") ∷ [])) (devices ms)) []

abbrev pub same_name : Option (List ℕ) → Option (List ℕ) → Bool
same_name None None = true
same_name (Some a) (Some b) = bytes_eq a b
same_name (Some a) None = false
same_name None (Some b) = false

-- some two of them have one name, or none
unfoldable pub has_same_names : List Tree → Bool
has_same_names [] = false
has_same_names (t ∷ ts) = list_any (λ u. same_name (interface_name t) (interface_name u)) ts || has_same_names ts

-- 22: two interfaces of one direction have one name, or none
unfoldable pub equal_names : List Member → List Finding
equal_names ms =
    cond (has_same_names (devices ms) || has_same_names (hosts ms)) (at_value (codes "bus_interfaces") ms (λ at. rules.wrong_kind at (codes "bus_interfaces") ∷ [])) []

-- one list is asked for where there is no device interface, or the only one has no name
abbrev pub asks_for_list : List Tree → Bool
asks_for_list [] = true
asks_for_list (t ∷ []) = not (is_some (interface_name t))
asks_for_list (t ∷ u ∷ ts) = false

abbrev pub is_entry_less : Tree → Bool
is_entry_less t = option_map_or (λ ts. length ts == 0) (array_in t) true

abbrev pub names_device : List Tree → List ℕ → Bool
names_device ds name = list_any (λ d. option_map_or (bytes_eq name) (interface_name d) false) ds

-- entries for which there is no device interface
abbrev pub has_stray_entries : List Tree → Tree → Option (List Member) → Bool
has_stray_entries ds t None = not (is_entry_less t) && (length ds == 0)
has_stray_entries ds t (Some ms) = list_any (λ m. not (names_device ds m.key) && not (is_entry_less m.value)) (first_members ms)

-- 22: `registers` is a list where an object is asked for, or an object where a list is, or has entries without an interface
unfoldable pub shape_faults : List Member → List Finding
shape_faults ms = option_map_or (λ t.
    cond ((is_some (array_in t) && not (asks_for_list (devices ms))) || ((is_some (object_in t) && asks_for_list (devices ms)) || has_stray_entries (devices ms) t (object_in t)))
    (rules.wrong_kind t.at (codes "registers") ∷ []) []) (value_at (codes "registers") ms) []

abbrev pub missing_list : At → List Member → Option (List ℕ) → List Finding
missing_list opener ms None = []
missing_list opener ms (Some name) = cond (is_some (value_at name ms)) [] (rules.missing_key opener name ∷ [])

-- 21: `registers` is an object without the list of a named device interface
unfoldable pub missing_lists : List Member → List Finding
missing_lists ms = option_map_or (λ t.
    option_map_or (λ lists. flat_map (λ d. missing_list t.at lists (interface_name d)) (devices ms)) (object_in t) []) (value_at (codes "registers") ms) []

-- all on the names of interfaces and on the shape and the lists of `registers`
unfoldable pub interface_faults : List Member → List Finding
interface_faults ms =
    many_devices ms
    ++ cond (interfaces_are_good ms) (nameless_devices ms ++ (equal_names ms ++ (shape_faults ms ++ missing_lists ms))) []
