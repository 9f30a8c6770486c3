-- The device interfaces where nothing is found: at most eight, each of a good name if any, no two of one.
use Rattle.std.proofs.Common.{◌≡◌, ℕ, ◌≤◌, Bool, true, false, ◌&&◌, ◌||◌, cond, codes, is_some, length, List, [], ◌∷◌, map, Option, Some, None, refl, sym, ap, ◌∙◌}
use Rattle.std.specs.Prelude.{nat_lt}
use Rattle.std.specs.List.{filter, list_any, list_all}
use Rattle.std.specs.Option.{option_map_or}
use Rattle.std.specs.Cmp.Lexicographic.{nat_list_eq_equiv}
use Rattle.std.proofs.lemmas.Bool.{both_ways, ltb-false}
use Rattle.std.proofs.lemmas.List.{length-map}
use Rattle.cg_svspec.specs.Printable.{AllOf}
use Rattle.cg_svspec.proofs.Runs.{or_false_left, or_false_right}
use Rattle.cg_desc.specs.Valid.{HostsDiffer, InterfacesDiffer, IsNameIfAny, IsShortNameIfAny}
use Rattle.cg_desc.specs.declared.block.FaceDesc.{FaceDesc}
use Rattle.cg_desc.specs.declared.block.HostFace.{HostFace}
use Rattle.cg_finding.specs.Finding.{finding}
use Rattle.cg_hjson.specs.declared.tree.Tree.{Tree}
use Rattle.cg_hjson.specs.declared.tree.Member.{Member}
use Rattle.cg_keys.specs.Elements.{elements, items_in}
use Rattle.cg_keys.specs.Forms.{fits, fits_one}
use Rattle.cg_keys.specs.Lookups.{is_fit_at}
use Rattle.cg_keys.specs.Table.{key_faults, table_faults, value_at}
use Rattle.cg_keys.specs.Values.{array_in, members_of, or_empty}
use Rattle.cg_keys.specs.declared.forms.Form.TheVariants.{Items, Name, Object, Word}
use Rattle.cg_keys.specs.declared.words.Words.TheVariants.{Direction}
use Rattle.cg_blkread.specs.Described.{face_desc}
use Rattle.cg_blkread.specs.Interfaces.{devices, equal_names, has_same_names, hosts, interface_name, interfaces, interfaces_are_good, is_device, is_good_interface, many_devices, same_name}
use Rattle.cg_blkread.specs.Keys.{objects_faults}
use Rattle.cg_blkread.specs.Tables.{interface_keys}
use Rattle.cg_blkread.proofs.Sound.Empty.{all_both, all_from, empty_parts, empty_when, none_passes}
use Rattle.cg_blkread.proofs.Sound.Forms.{needed_fits, needed_there, is_named, possible_fits, possible_short_name}
use Rattle.cg_blkread.proofs.Sound.Objects.{all_filtered, all_fit, listed_objects, listed_tables}

-- a host interface, with its name
abbrev pub host_of : Tree → HostFace
host_of t = record { name = interface_name t }

-- ---- each interface

-- what an interface's table says where it finds nothing
record IsWell (t : Tree) : Type 0 where
  there : is_some (value_at (codes "direction") (members_of t)) ≡ true
  direction : is_fit_at (Word Direction ∷ []) (codes "direction") (members_of t) ≡ true
  fit : is_fit_at (Name ∷ []) (codes "name") (members_of t) ≡ true
  name : IsShortNameIfAny (interface_name t)

well : (t : Tree) → table_faults t.at (members_of t) interface_keys ≡ [] → IsWell t
well t h =
    let first = empty_parts (key_faults t.at (members_of t) _) _ h in
    let second = empty_parts (key_faults t.at (members_of t) _) _ first.1 in
    let third = empty_parts (key_faults t.at (members_of t) _) _ second.1 in
    record {
      there = needed_there t.at (members_of t) (codes "direction") (Word Direction ∷ []) second.0;
      direction = needed_fits t.at (members_of t) (codes "direction") (Word Direction ∷ []) second.0;
      fit = possible_fits t.at (members_of t) (codes "name") (Name ∷ []) third.0;
      name = possible_short_name t.at (members_of t) (codes "name") third.0;
    }

all_well : (ms : List Member) → objects_faults (codes "bus_interfaces") interface_keys ms ≡ [] → AllOf IsWell (interfaces ms)
unfolding interfaces
all_well ms h =
    all_from (λ t. table_faults t.at (members_of t) interface_keys ≡ []) IsWell (elements (codes "bus_interfaces") ms) (λ t table. well t table)
    (listed_tables (codes "bus_interfaces") interface_keys ms h)

-- each interface of a direction has a good name, if any
pub short_names : (ms : List Member) (test : Tree → Bool) → objects_faults (codes "bus_interfaces") interface_keys ms ≡ []
    → AllOf (λ t. IsShortNameIfAny (interface_name t)) (filter test (interfaces ms))
short_names ms test h =
    all_filtered (λ t. IsShortNameIfAny (interface_name t)) test (interfaces ms)
    (all_from IsWell (λ t. IsShortNameIfAny (interface_name t)) (interfaces ms) (λ t is. is.name) (all_well ms h))

pub names_if_any : (ms : List Member) → objects_faults (codes "bus_interfaces") interface_keys ms ≡ [] → AllOf (λ t. IsNameIfAny (interface_name t)) (devices ms)
unfolding devices
names_if_any ms h =
    all_from (λ t. IsShortNameIfAny (interface_name t)) (λ t. IsNameIfAny (interface_name t)) (filter is_device (interfaces ms)) (λ t is. is_named (interface_name t) is)
    (short_names ms is_device h)

-- ---- all interfaces

good : (t : Tree) → fits Object t ≡ true → IsWell t → is_good_interface t ≡ true
unfolding is_good_interface fits
good t is well = λ i. is i && (well.there i && (well.direction i && well.fit i))

-- the interfaces are a list of good ones
are_good : (ms : List Member) → is_some (value_at (codes "bus_interfaces") ms) ≡ true → is_fit_at (Items ∷ []) (codes "bus_interfaces") ms ≡ true
    → list_all is_good_interface (interfaces ms) ≡ true → interfaces_are_good ms ≡ true
unfolding interfaces_are_good interfaces elements is_fit_at fits
are_good ms there fit all = by (value_at (codes "bus_interfaces") ms) there fit all where
  by_list : (o : Option (List Tree)) → (is_some o || false) ≡ true → list_all is_good_interface (or_empty o) ≡ true → option_map_or (list_all is_good_interface) o false ≡ true
  by_list None fit all = cc
  by_list (Some ts) fit all = all

  by : (o : Option Tree) → is_some o ≡ true → option_map_or (fits_one (Items ∷ [])) o true ≡ true → list_all is_good_interface (items_in o) ≡ true
      → option_map_or (λ t. option_map_or (list_all is_good_interface) (array_in t) false) o false ≡ true
  by None there fit all = cc
  by (Some t) there fit all = by_list (array_in t) fit all

pub interfaces_good : (ms : List Member) → is_some (value_at (codes "bus_interfaces") ms) ≡ true → is_fit_at (Items ∷ []) (codes "bus_interfaces") ms ≡ true
    → objects_faults (codes "bus_interfaces") interface_keys ms ≡ [] → interfaces_are_good ms ≡ true
unfolding interfaces
interfaces_good ms there fit h =
    are_good ms there fit
    (all_fit is_good_interface (interfaces ms)
    (all_from (λ t. (fits Object t ≡ true) × IsWell t) (λ t. is_good_interface t ≡ true) (interfaces ms) (λ t both. good t both.0 both.1)
    (all_both (λ t. fits Object t ≡ true) IsWell (interfaces ms) (listed_objects (codes "bus_interfaces") interface_keys ms h) (all_well ms h))))

-- ---- how many, and their names together

-- a test that tells at a list that is there
told_not : (b : Bool) (o : Option Tree) → is_some o ≡ true → cond b (option_map_or (λ t. finding 2 22 t.at (codes "bus_interfaces") ∷ []) o []) [] ≡ [] → b ≡ false
told_not b None there h = cc
told_not b (Some t) there h = empty_when b (finding 2 22 t.at (codes "bus_interfaces")) h

pub at_most_eight : (ms : List Member) → is_some (value_at (codes "bus_interfaces") ms) ≡ true → many_devices ms ≡ []
    → length (map (face_desc ms) (devices ms)) ≤ 8
unfolding many_devices
at_most_eight ms there h =
    rw (length-map (devices ms) (face_desc ms)) (ltb-false 8 (length (devices ms)) (told_not (nat_lt 8 (length (devices ms))) (value_at (codes "bus_interfaces") ms) there h))

same_as_itself : (o : Option (List ℕ)) → same_name o o ≡ true
same_as_itself None = refl
same_as_itself (Some s) = nat_list_eq_equiv.refl s

-- names that are not the same differ
names_differ : (a b : Option (List ℕ)) → same_name a b ≡ false → ¬ (a ≡ b)
names_differ a b h is = both_ways (same_name a b) h (ap (same_name a) (sym is) ∙ same_as_itself a)

apart : (ms : List Member) (t : Tree) (us : List Tree) → AllOf (λ u. same_name (interface_name t) (interface_name u) ≡ false) us
    → AllOf (λ (g : FaceDesc). ¬ (interface_name t ≡ g.name)) (map (face_desc ms) us)
unfolding face_desc
apart ms t [] none = tt
apart ms t (u ∷ us) none = (names_differ (interface_name t) (interface_name u) none.0, apart ms t us none.1)

all_differ : (ms : List Member) (ts : List Tree) → has_same_names ts ≡ false → InterfacesDiffer (map (face_desc ms) ts)
unfolding has_same_names face_desc
all_differ ms [] h = tt
all_differ ms (t ∷ ts) h =
    let same : Bool = list_any (λ u. same_name (interface_name t) (interface_name u)) ts in (
      apart ms t ts (none_passes (λ u. same_name (interface_name t) (interface_name u)) ts (or_false_left same (has_same_names ts) h)),
      all_differ ms ts (or_false_right same (has_same_names ts) h),
    )

pub names_apart : (ms : List Member) → is_some (value_at (codes "bus_interfaces") ms) ≡ true → equal_names ms ≡ [] → InterfacesDiffer (map (face_desc ms) (devices ms))
unfolding equal_names
names_apart ms there h =
    all_differ ms (devices ms)
    (or_false_left (has_same_names (devices ms)) (has_same_names (hosts ms))
    (told_not (has_same_names (devices ms) || has_same_names (hosts ms)) (value_at (codes "bus_interfaces") ms) there h))

-- so do hosts
hosts_apart_from : (t : Tree) (us : List Tree) → AllOf (λ u. same_name (interface_name t) (interface_name u) ≡ false) us
    → AllOf (λ (h : HostFace). ¬ (interface_name t ≡ h.name)) (map host_of us)
hosts_apart_from t [] none = tt
hosts_apart_from t (u ∷ us) none = (names_differ (interface_name t) (interface_name u) none.0, hosts_apart_from t us none.1)

hosts_differ : (ts : List Tree) → has_same_names ts ≡ false → HostsDiffer (map host_of ts)
unfolding has_same_names
hosts_differ [] h = tt
hosts_differ (t ∷ ts) h =
    let same : Bool = list_any (λ u. same_name (interface_name t) (interface_name u)) ts in (
      hosts_apart_from t ts (none_passes (λ u. same_name (interface_name t) (interface_name u)) ts (or_false_left same (has_same_names ts) h)),
      hosts_differ ts (or_false_right same (has_same_names ts) h),
    )

pub hosts_apart : (ms : List Member) → is_some (value_at (codes "bus_interfaces") ms) ≡ true → equal_names ms ≡ [] → HostsDiffer (map host_of (hosts ms))
unfolding equal_names
hosts_apart ms there h =
    hosts_differ (hosts ms)
    (or_false_right (has_same_names (devices ms)) (has_same_names (hosts ms))
    (told_not (has_same_names (devices ms) || has_same_names (hosts ms)) (value_at (codes "bus_interfaces") ms) there h))
