-- What instances, crossbars and the sections of a top break, as facts.
use Rattle.std.proofs.Common.{◌≡◌, ℕ, ◌<◌, false, nat_le, List, [], ◌++◌, Option, Some, None, inl, inr, refl, sym, subst, arith}
use Rattle.std.specs.Option.{option_map_or}
use Rattle.std.specs.Prelude.{codes}
use Rattle.std.proofs.lemmas.Bool.Decides.{nat_tests}
use Rattle.cg_finding.specs.Finding.{Finding, In}
use Rattle.cg_finding.specs.Rules as rules
use Rattle.cg_finding.proofs.Members.{in_either, in_left, in_right, in_unless, unless_has}
use Rattle.cg_hjson.specs.declared.tree.Tree.{Tree}
use Rattle.cg_hjson.specs.declared.tree.Member.{Member}
use Rattle.cg_keys.specs.Elements.{each_faults, element_faults, elements, item_faults, length_faults, object_faults}
use Rattle.cg_keys.specs.Lists.{first_members_after}
use Rattle.cg_keys.specs.Lookups.{object_at}
use Rattle.cg_keys.specs.Table.{table_faults, value_at}
use Rattle.cg_keys.specs.Values.{items_of, object_in}
use Rattle.cg_keys.specs.declared.forms.Form.TheVariants as form
use Rattle.cg_keys.proofs.ListFacts.{Says, elements_have, in_elements, in_item_faults, in_length_faults, in_object_keys, item_faults_has, length_faults_has, object_keys_has}
use Rattle.cg_keys.proofs.Relation.{in_table_faults, table_faults_has}
use Rattle.cg_topread.specs.Listed.{bases_faults, clocks_faults, faces_faults, instance_faults, instance_members_faults, list_types_faults, members_at, names_faults, pinmux_faults, pinout_faults, resets_faults, sources_faults, types_faults, use_faults}
use Rattle.cg_topread.specs.Tables.{clock_source_keys, clocks_keys, instance_keys, pinmux_keys, pinout_keys, reset_source_keys, resets_keys, signal_keys, use_keys}
use Rattle.cg_topread.specs.Types.{type_count}
use Rattle.cg_topread.specs.Violations as fact
use Rattle.cg_topread.specs.Violations.{BreaksBases, BreaksClocks, BreaksFaces, BreaksInstance, BreaksPinmux, BreaksPinout, BreaksResets, BreaksSignal, BreaksSources, BreaksUse, TooManyTypes}
use Rattle.cg_topread.proofs.ListedFacts.{bases_have, faces_have, in_bases, in_faces, in_members_at, in_names, in_object_and, in_sources, members_at_has, names_have, no_bases, no_faces, no_names, no_sources, object_and_has, sources_have}

-- ---- instances

no_instance_members : (f : Finding) → In f (instance_members_faults []) → ⊥
unfolding instance_members_faults members_at object_at value_at sources_faults bases_faults faces_faults first_members_after
no_instance_members f among = absurd among

pub in_instance : (f : Finding) → Says BreaksInstance instance_faults f
unfolding instance_faults instance_members_faults
in_instance f t among =
    let inside = in_object_and instance_keys instance_members_faults f t (no_instance_members f) among in
    let ms = inside.0 in
    let clocks : List Finding = sources_faults clock_source_keys (members_at (codes "clock_srcs") ms) in
    let resets : List Finding = sources_faults reset_source_keys (members_at (codes "reset_connections") ms) in
    let bases : List Finding = bases_faults (members_at (codes "base_addr") ms) in
    let faces : List Finding = faces_faults (members_at (codes "base_addrs") ms) in (
      ms,
      inside.1,
      elim (in_either f (table_faults t.at ms instance_keys) (clocks ++ (resets ++ (bases ++ faces))) inside.2) [
        | inl table ↦ fact.keys (in_table_faults t.at ms instance_keys f table)
        | inr rest ↦ elim (in_either f clocks (resets ++ (bases ++ faces)) rest) [
          | inl here ↦ fact.in_clocks (in_members_at (BreaksSources clock_source_keys) (sources_faults clock_source_keys) ms (codes "clock_srcs") f (no_sources clock_source_keys f) (in_sources clock_source_keys f) here)
          | inr rest ↦ elim (in_either f resets (bases ++ faces) rest) [
            | inl here ↦ fact.in_resets (in_members_at (BreaksSources reset_source_keys) (sources_faults reset_source_keys) ms (codes "reset_connections") f (no_sources reset_source_keys f) (in_sources reset_source_keys f) here)
            | inr rest ↦ elim (in_either f bases faces rest) [
              | inl here ↦ fact.in_bases (in_members_at BreaksBases bases_faults ms (codes "base_addr") f (no_bases f) (in_bases f) here)
              | inr here ↦ fact.in_faces (in_members_at BreaksFaces faces_faults ms (codes "base_addrs") f (no_faces f) (in_faces f) here)
            ]
          ]
        ]
      ],
    )

pub instance_has : (f : Finding) (t : Tree) (ms : List Member) → object_in t ≡ Some ms → BreaksInstance t.at ms f → In f (instance_faults t)
unfolding instance_faults instance_members_faults
instance_has f t ms is breaks = object_and_has instance_keys instance_members_faults f t ms is (by breaks)
  where
    table : List Finding
    table = table_faults t.at ms instance_keys

    clocks : List Finding
    clocks = sources_faults clock_source_keys (members_at (codes "clock_srcs") ms)

    resets : List Finding
    resets = sources_faults reset_source_keys (members_at (codes "reset_connections") ms)

    bases : List Finding
    bases = bases_faults (members_at (codes "base_addr") ms)

    faces : List Finding
    faces = faces_faults (members_at (codes "base_addrs") ms)

    by : BreaksInstance t.at ms f → In f (table ++ (clocks ++ (resets ++ (bases ++ faces))))
    by (fact.keys b) = in_left f table _ (table_faults_has t.at ms instance_keys f b)
    by (fact.in_clocks w) =
        in_right f table _ (in_left f clocks _ (members_at_has (BreaksSources clock_source_keys) (sources_faults clock_source_keys) ms (codes "clock_srcs") f (sources_have clock_source_keys f) w))
    by (fact.in_resets w) =
        in_right f table _ (in_right f clocks _ (in_left f resets _
        (members_at_has (BreaksSources reset_source_keys) (sources_faults reset_source_keys) ms (codes "reset_connections") f (sources_have reset_source_keys f) w)))
    by (fact.in_bases w) =
        in_right f table _ (in_right f clocks _ (in_right f resets _ (in_left f bases faces (members_at_has BreaksBases bases_faults ms (codes "base_addr") f (bases_have f) w))))
    by (fact.in_faces w) =
        in_right f table _ (in_right f clocks _ (in_right f resets _ (in_right f bases faces (members_at_has BreaksFaces faces_faults ms (codes "base_addrs") f (faces_have f) w))))

-- ---- crossbars

abbrev use_members : List Member → List Finding
use_members ms = sources_faults clock_source_keys (members_at (codes "clock_srcs") ms)

no_use_members : (f : Finding) → In f (use_members []) → ⊥
unfolding members_at object_at value_at sources_faults first_members_after
no_use_members f among = absurd among

pub in_use : (f : Finding) → Says BreaksUse use_faults f
unfolding use_faults
in_use f t among =
    let inside = in_object_and use_keys use_members f t (no_use_members f) among in (
      inside.0,
      inside.1,
      elim (in_either f (table_faults t.at inside.0 use_keys) (use_members inside.0) inside.2) [
        | inl table ↦ fact.keys (in_table_faults t.at inside.0 use_keys f table)
        | inr here ↦ fact.in_clocks (in_members_at (BreaksSources clock_source_keys) (sources_faults clock_source_keys) inside.0 (codes "clock_srcs") f (no_sources clock_source_keys f) (in_sources clock_source_keys f) here)
      ],
    )

pub use_has : (f : Finding) (t : Tree) (ms : List Member) → object_in t ≡ Some ms → BreaksUse t.at ms f → In f (use_faults t)
unfolding use_faults
use_has f t ms is breaks = object_and_has use_keys use_members f t ms is (by breaks)
  where
    by : BreaksUse t.at ms f → In f (table_faults t.at ms use_keys ++ use_members ms)
    by (fact.keys b) = in_left f (table_faults t.at ms use_keys) _ (table_faults_has t.at ms use_keys f b)
    by (fact.in_clocks w) =
        in_right f (table_faults t.at ms use_keys) _ (members_at_has (BreaksSources clock_source_keys) (sources_faults clock_source_keys) ms (codes "clock_srcs") f (sources_have clock_source_keys f) w)

-- ---- types

past : (n most : ℕ) → nat_le n most ≡ false → most < n
past n most h = grind (arith, nat_tests)

not_within : (n most : ℕ) → most < n → nat_le n most ≡ false
not_within n most h = grind (arith, nat_tests)

pub in_types : (ms : List Member) (f : Finding) → In f (types_faults ms) → TooManyTypes ms f
unfolding types_faults list_types_faults
in_types ms f among = by (value_at (codes "module") ms) refl among
  where
    by : (v : Option Tree) → value_at (codes "module") ms ≡ v → In f (option_map_or list_types_faults v []) → TooManyTypes ms f
    by None is h = absurd h
    by (Some list) is h =
        let unless = in_unless (nat_le (type_count (items_of list)) 64) f (rules.wrong_kind list.at (codes "module")) h in
        record { list = list; there = is; many = past (type_count (items_of list)) 64 unless.0; says = unless.1 }

pub types_have : (ms : List Member) (f : Finding) → TooManyTypes ms f → In f (types_faults ms)
unfolding types_faults list_types_faults
types_have ms f w =
    subst (λ (v : Option Tree). In f (option_map_or list_types_faults v [])) (sym w.there)
    (unless_has (nat_le (type_count (items_of w.list)) 64) f (rules.wrong_kind w.list.at (codes "module")) (not_within (type_count (items_of w.list)) 64 w.many) w.says)

-- ---- clocks

abbrev clocks_members : List Member → List Finding
clocks_members ms = names_faults (codes "srcs") ms ++ names_faults (codes "derived_srcs") ms

no_clocks_members : (f : Finding) → In f (clocks_members []) → ⊥
no_clocks_members f among =
    elim (in_either f (names_faults (codes "srcs") []) (names_faults (codes "derived_srcs") []) among) [
      | inl here ↦ no_names (codes "srcs") f here
      | inr here ↦ no_names (codes "derived_srcs") f here
    ]

pub in_clocks : (f : Finding) → Says BreaksClocks clocks_faults f
unfolding clocks_faults
in_clocks f t among =
    let inside = in_object_and clocks_keys clocks_members f t (no_clocks_members f) among in
    let ms = inside.0 in (
      ms,
      inside.1,
      elim (in_either f (table_faults t.at ms clocks_keys) (clocks_members ms) inside.2) [
        | inl table ↦ fact.keys (in_table_faults t.at ms clocks_keys f table)
        | inr rest ↦ elim (in_either f (names_faults (codes "srcs") ms) (names_faults (codes "derived_srcs") ms) rest) [
          | inl here ↦ fact.sources (in_names (codes "srcs") ms f here)
          | inr here ↦ fact.derived (in_names (codes "derived_srcs") ms f here)
        ]
      ],
    )

pub clocks_have : (f : Finding) (t : Tree) (ms : List Member) → object_in t ≡ Some ms → BreaksClocks t.at ms f → In f (clocks_faults t)
unfolding clocks_faults
clocks_have f t ms is breaks = object_and_has clocks_keys clocks_members f t ms is (by breaks)
  where
    by : BreaksClocks t.at ms f → In f (table_faults t.at ms clocks_keys ++ clocks_members ms)
    by (fact.keys b) = in_left f (table_faults t.at ms clocks_keys) _ (table_faults_has t.at ms clocks_keys f b)
    by (fact.sources w) = in_right f (table_faults t.at ms clocks_keys) _ (in_left f (names_faults (codes "srcs") ms) _ (names_have (codes "srcs") ms f w))
    by (fact.derived w) = in_right f (table_faults t.at ms clocks_keys) _ (in_right f (names_faults (codes "srcs") ms) _ (names_have (codes "derived_srcs") ms f w))

-- ---- resets

pub in_resets : (f : Finding) → Says BreaksResets resets_faults f
unfolding resets_faults
in_resets f t among =
    let inside = in_object_and resets_keys (names_faults (codes "nodes")) f t (no_names (codes "nodes") f) among in (
      inside.0,
      inside.1,
      elim (in_either f (table_faults t.at inside.0 resets_keys) (names_faults (codes "nodes") inside.0) inside.2) [
        | inl table ↦ fact.keys (in_table_faults t.at inside.0 resets_keys f table)
        | inr here ↦ fact.nodes (in_names (codes "nodes") inside.0 f here)
      ],
    )

pub resets_have : (f : Finding) (t : Tree) (ms : List Member) → object_in t ≡ Some ms → BreaksResets t.at ms f → In f (resets_faults t)
unfolding resets_faults
resets_have f t ms is breaks = object_and_has resets_keys (names_faults (codes "nodes")) f t ms is (by breaks)
  where
    by : BreaksResets t.at ms f → In f (table_faults t.at ms resets_keys ++ names_faults (codes "nodes") ms)
    by (fact.keys b) = in_left f (table_faults t.at ms resets_keys) _ (table_faults_has t.at ms resets_keys f b)
    by (fact.nodes w) = in_right f (table_faults t.at ms resets_keys) _ (names_have (codes "nodes") ms f w)

-- ---- pads

abbrev pinout_members : List Member → List Finding
pinout_members ms = length_faults 0 256 (codes "pads") ms ++ names_faults (codes "pads") ms

no_length : (most : ℕ) (key : List ℕ) (f : Finding) → In f (length_faults 0 most key []) → ⊥
unfolding length_faults value_at
no_length most key f among = absurd among

no_pinout_members : (f : Finding) → In f (pinout_members []) → ⊥
no_pinout_members f among =
    elim (in_either f (length_faults 0 256 (codes "pads") []) (names_faults (codes "pads") []) among) [
      | inl here ↦ no_length 256 (codes "pads") f here
      | inr here ↦ no_names (codes "pads") f here
    ]

pub in_pinout : (f : Finding) → Says BreaksPinout pinout_faults f
unfolding pinout_faults
in_pinout f t among =
    let inside = in_object_and pinout_keys pinout_members f t (no_pinout_members f) among in
    let ms = inside.0 in (
      ms,
      inside.1,
      elim (in_either f (table_faults t.at ms pinout_keys) (pinout_members ms) inside.2) [
        | inl table ↦ fact.keys (in_table_faults t.at ms pinout_keys f table)
        | inr rest ↦ elim (in_either f (length_faults 0 256 (codes "pads") ms) (names_faults (codes "pads") ms) rest) [
          | inl here ↦ fact.many_pads (in_length_faults 256 ms (codes "pads") f here)
          | inr here ↦ fact.pads (in_names (codes "pads") ms f here)
        ]
      ],
    )

pub pinout_has : (f : Finding) (t : Tree) (ms : List Member) → object_in t ≡ Some ms → BreaksPinout t.at ms f → In f (pinout_faults t)
unfolding pinout_faults
pinout_has f t ms is breaks = object_and_has pinout_keys pinout_members f t ms is (by breaks)
  where
    by : BreaksPinout t.at ms f → In f (table_faults t.at ms pinout_keys ++ pinout_members ms)
    by (fact.keys b) = in_left f (table_faults t.at ms pinout_keys) _ (table_faults_has t.at ms pinout_keys f b)
    by (fact.many_pads w) = in_right f (table_faults t.at ms pinout_keys) _ (in_left f (length_faults 0 256 (codes "pads") ms) _ (length_faults_has 256 ms (codes "pads") f w))
    by (fact.pads w) = in_right f (table_faults t.at ms pinout_keys) _ (in_right f (length_faults 0 256 (codes "pads") ms) _ (names_have (codes "pads") ms f w))

-- ---- signals

abbrev kinds : List Member → List Finding
kinds ms = element_faults (codes "signals") ms

abbrev each : List Member → List Finding
each ms = each_faults signal_keys (elements (codes "signals") ms)

abbrev pinmux_members : List Member → List Finding
pinmux_members ms = length_faults 0 1024 (codes "signals") ms ++ (kinds ms ++ each ms)

no_pinmux_members : (f : Finding) → In f (pinmux_members []) → ⊥
unfolding length_faults item_faults elements value_at
no_pinmux_members f among = absurd among

pub in_pinmux : (f : Finding) → Says BreaksPinmux pinmux_faults f
unfolding pinmux_faults
in_pinmux f t among =
    let inside = in_object_and pinmux_keys pinmux_members f t (no_pinmux_members f) among in
    let ms = inside.0 in (
      ms,
      inside.1,
      elim (in_either f (table_faults t.at ms pinmux_keys) (pinmux_members ms) inside.2) [
        | inl table ↦ fact.keys (in_table_faults t.at ms pinmux_keys f table)
        | inr rest ↦ elim (in_either f (length_faults 0 1024 (codes "signals") ms) (kinds ms ++ each ms) rest) [
          | inl here ↦ fact.many_signals (in_length_faults 1024 ms (codes "signals") f here)
          | inr rest ↦ elim (in_either f (kinds ms) (each ms) rest) [
            | inl here ↦ fact.no_signal (in_item_faults form.Object ms (codes "signals") f here)
            | inr here ↦ fact.in_signal (in_elements BreaksSignal (object_faults signal_keys) ms (codes "signals") f (in_object_keys signal_keys f) here)
          ]
        ]
      ],
    )

pub pinmux_has : (f : Finding) (t : Tree) (ms : List Member) → object_in t ≡ Some ms → BreaksPinmux t.at ms f → In f (pinmux_faults t)
unfolding pinmux_faults
pinmux_has f t ms is breaks = object_and_has pinmux_keys pinmux_members f t ms is (by breaks)
  where
    length : List Finding
    length = length_faults 0 1024 (codes "signals") ms

    by : BreaksPinmux t.at ms f → In f (table_faults t.at ms pinmux_keys ++ pinmux_members ms)
    by (fact.keys b) = in_left f (table_faults t.at ms pinmux_keys) _ (table_faults_has t.at ms pinmux_keys f b)
    by (fact.many_signals w) = in_right f (table_faults t.at ms pinmux_keys) _ (in_left f length _ (length_faults_has 1024 ms (codes "signals") f w))
    by (fact.no_signal w) = in_right f (table_faults t.at ms pinmux_keys) _ (in_right f length _ (in_left f (kinds ms) (each ms) (item_faults_has form.Object ms (codes "signals") f w)))
    by (fact.in_signal w) =
        in_right f (table_faults t.at ms pinmux_keys) _ (in_right f length _ (in_right f (kinds ms) (each ms)
        (elements_have BreaksSignal (object_faults signal_keys) ms (codes "signals") f (object_keys_has signal_keys f) w)))
