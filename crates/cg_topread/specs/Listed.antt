-- What a top's description breaks, as lists of findings.
use Rattle.std.specs.Prelude.{ℕ, cond, nat_le, List, [], ◌∷◌, ◌++◌, flat_map, codes}
use Rattle.std.specs.Option.{option_map_or}
use Rattle.cg_finding.specs.Finding.{Finding}
use Rattle.cg_finding.specs.Rules as rules
use Rattle.cg_hjson.specs.declared.tree.Tree.{Tree}
use Rattle.cg_hjson.specs.declared.tree.Member.{Member}
use Rattle.cg_keys.specs.Duplicates.{duplicate_faults}
use Rattle.cg_keys.specs.Elements.{each_faults, element_faults, elements, length_faults, object_faults}
use Rattle.cg_keys.specs.Lists.{first_members}
use Rattle.cg_keys.specs.Lookups.{object_at}
use Rattle.cg_keys.specs.Table.{Key, table_faults, value_at, value_faults}
use Rattle.cg_keys.specs.Values.{items_of, members_of, or_empty}
use Rattle.cg_topread.specs.Tables.{base_forms, bases_forms, clock_source_keys, clocks_keys, instance_keys, named_keys, pinmux_keys, pinout_keys, reset_source_keys, resets_keys, signal_keys, source_forms, top_keys, use_keys}
use Rattle.cg_topread.specs.Types.{type_count}

-- the members of the object at a key; none where there is no object
unfoldable pub members_at : List ℕ → List Member → List Member
members_at key ms = or_empty (object_at key ms)

-- ---- sources and base addresses

unfoldable pub source_faults : List Key → Member → List Finding
source_faults ks m = value_faults m.key source_forms m.value ++ object_faults ks m.value

unfoldable pub sources_faults : List Key → List Member → List Finding
sources_faults ks ms = flat_map (source_faults ks) (first_members ms)

abbrev pub base_faults : Member → List Finding
base_faults m = value_faults m.key base_forms m.value

unfoldable pub bases_faults : List Member → List Finding
bases_faults ms = flat_map base_faults (first_members ms)

unfoldable pub face_faults : Member → List Finding
face_faults m = value_faults m.key bases_forms m.value ++ bases_faults (members_of m.value)

unfoldable pub faces_faults : List Member → List Finding
faces_faults ms = flat_map face_faults (first_members ms)

-- ---- instances and crossbars

unfoldable pub instance_members_faults : List Member → List Finding
instance_members_faults ms =
    sources_faults clock_source_keys (members_at (codes "clock_srcs") ms)
    ++ (sources_faults reset_source_keys (members_at (codes "reset_connections") ms)
    ++ (bases_faults (members_at (codes "base_addr") ms) ++ faces_faults (members_at (codes "base_addrs") ms)))

unfoldable pub instance_faults : Tree → List Finding
instance_faults t = object_faults instance_keys t ++ instance_members_faults (members_of t)

unfoldable pub use_faults : Tree → List Finding
use_faults t = object_faults use_keys t ++ sources_faults clock_source_keys (members_at (codes "clock_srcs") (members_of t))

-- 22: more than 64 types
unfoldable pub list_types_faults : Tree → List Finding
list_types_faults list = cond (nat_le (type_count (items_of list)) 64) [] (rules.wrong_kind list.at (codes "module") ∷ [])

unfoldable pub types_faults : List Member → List Finding
types_faults ms = option_map_or list_types_faults (value_at (codes "module") ms) []

-- ---- sections

-- the list at a key is one of objects with names
unfoldable pub names_faults : List ℕ → List Member → List Finding
names_faults key ms = element_faults key ms ++ each_faults named_keys (elements key ms)

unfoldable pub clocks_faults : Tree → List Finding
clocks_faults t = object_faults clocks_keys t ++ (names_faults (codes "srcs") (members_of t) ++ names_faults (codes "derived_srcs") (members_of t))

unfoldable pub resets_faults : Tree → List Finding
resets_faults t = object_faults resets_keys t ++ names_faults (codes "nodes") (members_of t)

unfoldable pub pinout_faults : Tree → List Finding
pinout_faults t = object_faults pinout_keys t ++ (length_faults 0 256 (codes "pads") (members_of t) ++ names_faults (codes "pads") (members_of t))

unfoldable pub pinmux_faults : Tree → List Finding
pinmux_faults t =
    object_faults pinmux_keys t
    ++ (length_faults 0 1024 (codes "signals") (members_of t)
    ++ (element_faults (codes "signals") (members_of t) ++ each_faults signal_keys (elements (codes "signals") (members_of t))))

-- the value at a key breaks this
abbrev pub at_key : (Tree → List Finding) → List ℕ → List Member → List Finding
at_key faults key ms = option_map_or faults (value_at key ms) []

unfoldable pub sections_faults : List Member → List Finding
sections_faults ms =
    at_key clocks_faults (codes "clocks") ms
    ++ (at_key resets_faults (codes "resets") ms
    ++ (at_key pinout_faults (codes "pinout") ms ++ at_key pinmux_faults (codes "pinmux") ms))

-- ---- the top

unfoldable pub spaces_faults : List Member → List Finding
spaces_faults ms = length_faults 1 8 (codes "addr_spaces") ms ++ names_faults (codes "addr_spaces") ms

unfoldable pub instances_faults : List Member → List Finding
instances_faults ms =
    length_faults 0 256 (codes "module") ms
    ++ (types_faults ms ++ (element_faults (codes "module") ms ++ flat_map instance_faults (elements (codes "module") ms)))

unfoldable pub crossbars_faults : List Member → List Finding
crossbars_faults ms =
    length_faults 0 16 (codes "xbar") ms ++ (element_faults (codes "xbar") ms ++ flat_map use_faults (elements (codes "xbar") ms))

unfoldable pub top_faults : Tree → List Finding
top_faults t =
    duplicate_faults t
    ++ (table_faults t.at (members_of t) top_keys
    ++ (sections_faults (members_of t)
    ++ (spaces_faults (members_of t) ++ (instances_faults (members_of t) ++ crossbars_faults (members_of t)))))
