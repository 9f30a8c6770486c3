-- What a top breaks is what is found, and what reading a top answers.
use Rattle.std.proofs.Common.{◌≡◌, ℕ, List, ◌++◌, ◌⊎◌, None, inl, inr, subst}
use Rattle.std.specs.List.{flat_map}
use Rattle.std.specs.Prelude.{codes}
use Rattle.cg_desc.specs.declared.place.At.{At}
use Rattle.cg_desc.specs.declared.fault.DescFault.{DescFault}
use Rattle.cg_desc.specs.declared.fault.DescFault.TheVariants.{Fault, Memory}
use Rattle.cg_finding.specs.Finding.{Finding, In, first_of}
use Rattle.cg_finding.specs.Refusal.{Refuses}
use Rattle.cg_finding.specs.Violations.{RefusesFirst}
use Rattle.cg_finding.proofs.Firsts.{none_is_empty}
use Rattle.cg_finding.proofs.Members.{in_either, in_left, in_right}
use Rattle.cg_hjson.specs.declared.tree.Tree.{Tree}
use Rattle.cg_hjson.specs.declared.tree.Member.{Member}
use Rattle.cg_keys.specs.Duplicates.{duplicate_faults}
use Rattle.cg_keys.specs.Elements.{element_faults, elements, length_faults}
use Rattle.cg_keys.specs.Lists.{TooLong, TooShort}
use Rattle.cg_keys.specs.Table.{table_faults}
use Rattle.cg_keys.specs.Values.{members_of}
use Rattle.cg_keys.specs.declared.forms.Form.TheVariants as form
use Rattle.cg_keys.proofs.DuplicateKeys.{duplicate_faults_has, in_duplicate_faults}
use Rattle.cg_keys.proofs.ListFacts.{elements_have, in_elements, in_item_faults, in_length_faults, in_lengths, in_object_at, item_faults_has, length_faults_has, lengths_have_long, lengths_have_short, object_at_has}
use Rattle.cg_keys.proofs.Relation.{in_table_faults, table_faults_has}
use Rattle.cg_topread.specs.Listed.{at_key, clocks_faults, crossbars_faults, instance_faults, instances_faults, names_faults, pinmux_faults, pinout_faults, resets_faults, sections_faults, spaces_faults, top_faults, types_faults, use_faults}
use Rattle.cg_topread.specs.Tables.{top_keys}
use Rattle.cg_topread.specs.Violations as fact
use Rattle.cg_topread.specs.Violations.{BreaksClocks, BreaksInstance, BreaksPinmux, BreaksPinout, BreaksResets, BreaksTop, BreaksUse, Violates}
use Rattle.cg_topread.proofs.ListedFacts.{in_names, names_have}
use Rattle.cg_topread.proofs.PartFacts.{clocks_have, in_clocks, in_instance, in_pinmux, in_pinout, in_resets, in_types, in_use, instance_has, pinmux_has, pinout_has, resets_have, types_have, use_has}

-- ---- found

in_sections : (opener : At) (ms : List Member) (f : Finding) → In f (sections_faults ms) → BreaksTop opener ms f
unfolding sections_faults
in_sections opener ms f among =
    elim (in_either f (at_key clocks_faults (codes "clocks") ms) _ among) [
      | inl here ↦ fact.in_clocks (in_object_at BreaksClocks clocks_faults ms (codes "clocks") f (in_clocks f) here)
      | inr rest ↦ elim (in_either f (at_key resets_faults (codes "resets") ms) _ rest) [
        | inl here ↦ fact.in_resets (in_object_at BreaksResets resets_faults ms (codes "resets") f (in_resets f) here)
        | inr rest ↦ elim (in_either f (at_key pinout_faults (codes "pinout") ms) (at_key pinmux_faults (codes "pinmux") ms) rest) [
          | inl here ↦ fact.in_pinout (in_object_at BreaksPinout pinout_faults ms (codes "pinout") f (in_pinout f) here)
          | inr here ↦ fact.in_pinmux (in_object_at BreaksPinmux pinmux_faults ms (codes "pinmux") f (in_pinmux f) here)
        ]
      ]
    ]

in_spaces : (opener : At) (ms : List Member) (f : Finding) → In f (spaces_faults ms) → BreaksTop opener ms f
unfolding spaces_faults
in_spaces opener ms f among =
    elim (in_either f (length_faults 1 8 (codes "addr_spaces") ms) (names_faults (codes "addr_spaces") ms) among) [
      | inl here ↦ by (in_lengths 1 8 ms (codes "addr_spaces") f here)
      | inr here ↦ fact.spaces (in_names (codes "addr_spaces") ms f here)
    ]
  where
    by : TooShort 1 ms (codes "addr_spaces") f ⊎ TooLong 8 ms (codes "addr_spaces") f → BreaksTop opener ms f
    by (inl short) = fact.no_space short
    by (inr long) = fact.many_spaces long

in_instances : (opener : At) (ms : List Member) (f : Finding) → In f (instances_faults ms) → BreaksTop opener ms f
unfolding instances_faults
in_instances opener ms f among =
    elim (in_either f (length_faults 0 256 (codes "module") ms) _ among) [
      | inl here ↦ fact.many_instances (in_length_faults 256 ms (codes "module") f here)
      | inr rest ↦ elim (in_either f (types_faults ms) _ rest) [
        | inl here ↦ fact.many_types (in_types ms f here)
        | inr rest ↦ elim (in_either f (element_faults (codes "module") ms) (flat_map instance_faults (elements (codes "module") ms)) rest) [
          | inl here ↦ fact.no_instance (in_item_faults form.Object ms (codes "module") f here)
          | inr here ↦ fact.in_instance (in_elements BreaksInstance instance_faults ms (codes "module") f (in_instance f) here)
        ]
      ]
    ]

in_crossbars : (opener : At) (ms : List Member) (f : Finding) → In f (crossbars_faults ms) → BreaksTop opener ms f
unfolding crossbars_faults
in_crossbars opener ms f among =
    elim (in_either f (length_faults 0 16 (codes "xbar") ms) _ among) [
      | inl here ↦ fact.many_crossbars (in_length_faults 16 ms (codes "xbar") f here)
      | inr rest ↦ elim (in_either f (element_faults (codes "xbar") ms) (flat_map use_faults (elements (codes "xbar") ms)) rest) [
        | inl here ↦ fact.no_crossbar (in_item_faults form.Object ms (codes "xbar") f here)
        | inr here ↦ fact.in_crossbar (in_elements BreaksUse use_faults ms (codes "xbar") f (in_use f) here)
      ]
    ]

-- what is found is broken
pub in_top_faults : (t : Tree) (f : Finding) → In f (top_faults t) → Violates t f
unfolding top_faults
in_top_faults t f among =
    let ms = members_of t in
    elim (in_either f (duplicate_faults t) _ among) [
      | inl here ↦ fact.duplicate (in_duplicate_faults t f here)
      | inr rest ↦ elim (in_either f (table_faults t.at ms top_keys) _ rest) [
        | inl here ↦ fact.top (fact.keys (in_table_faults t.at ms top_keys f here))
        | inr rest ↦ elim (in_either f (sections_faults ms) _ rest) [
          | inl here ↦ fact.top (in_sections t.at ms f here)
          | inr rest ↦ elim (in_either f (spaces_faults ms) _ rest) [
            | inl here ↦ fact.top (in_spaces t.at ms f here)
            | inr rest ↦ elim (in_either f (instances_faults ms) (crossbars_faults ms) rest) [
              | inl here ↦ fact.top (in_instances t.at ms f here)
              | inr here ↦ fact.top (in_crossbars t.at ms f here)
            ]
          ]
        ]
      ]
    ]

-- ---- broken

-- the parts of a top, of which one has the finding
data Part (opener : At) (ms : List Member) (f : Finding) : Type 0 where
  in_table : In f (table_faults opener ms top_keys) → Part opener ms f
  in_section : In f (sections_faults ms) → Part opener ms f
  in_space : In f (spaces_faults ms) → Part opener ms f
  in_modules : In f (instances_faults ms) → Part opener ms f
  in_uses : In f (crossbars_faults ms) → Part opener ms f

part_of : (opener : At) (ms : List Member) (f : Finding) → BreaksTop opener ms f → Part opener ms f
unfolding sections_faults spaces_faults instances_faults crossbars_faults
part_of opener ms f (fact.keys b) = in_table (table_faults_has opener ms top_keys f b)
part_of opener ms f (fact.in_clocks w) = in_section (in_left f (at_key clocks_faults (codes "clocks") ms) _ (object_at_has BreaksClocks clocks_faults ms (codes "clocks") f (clocks_have f) w))
part_of opener ms f (fact.in_resets w) =
    in_section (in_right f (at_key clocks_faults (codes "clocks") ms) _ (in_left f (at_key resets_faults (codes "resets") ms) _
    (object_at_has BreaksResets resets_faults ms (codes "resets") f (resets_have f) w)))
part_of opener ms f (fact.in_pinout w) =
    in_section (in_right f (at_key clocks_faults (codes "clocks") ms) _ (in_right f (at_key resets_faults (codes "resets") ms) _
    (in_left f (at_key pinout_faults (codes "pinout") ms) _ (object_at_has BreaksPinout pinout_faults ms (codes "pinout") f (pinout_has f) w))))
part_of opener ms f (fact.in_pinmux w) =
    in_section (in_right f (at_key clocks_faults (codes "clocks") ms) _ (in_right f (at_key resets_faults (codes "resets") ms) _
    (in_right f (at_key pinout_faults (codes "pinout") ms) _ (object_at_has BreaksPinmux pinmux_faults ms (codes "pinmux") f (pinmux_has f) w))))
part_of opener ms f (fact.no_space w) = in_space (in_left f (length_faults 1 8 (codes "addr_spaces") ms) _ (lengths_have_short 1 8 ms (codes "addr_spaces") f w))
part_of opener ms f (fact.many_spaces w) = in_space (in_left f (length_faults 1 8 (codes "addr_spaces") ms) _ (lengths_have_long 1 8 ms (codes "addr_spaces") f w))
part_of opener ms f (fact.spaces w) = in_space (in_right f (length_faults 1 8 (codes "addr_spaces") ms) _ (names_have (codes "addr_spaces") ms f w))
part_of opener ms f (fact.many_instances w) = in_modules (in_left f (length_faults 0 256 (codes "module") ms) _ (length_faults_has 256 ms (codes "module") f w))
part_of opener ms f (fact.many_types w) = in_modules (in_right f (length_faults 0 256 (codes "module") ms) _ (in_left f (types_faults ms) _ (types_have ms f w)))
part_of opener ms f (fact.no_instance w) =
    in_modules (in_right f (length_faults 0 256 (codes "module") ms) _ (in_right f (types_faults ms) _ (in_left f (element_faults (codes "module") ms) _
    (item_faults_has form.Object ms (codes "module") f w))))
part_of opener ms f (fact.in_instance w) =
    in_modules (in_right f (length_faults 0 256 (codes "module") ms) _ (in_right f (types_faults ms) _ (in_right f (element_faults (codes "module") ms) _
    (elements_have BreaksInstance instance_faults ms (codes "module") f (instance_has f) w))))
part_of opener ms f (fact.many_crossbars w) = in_uses (in_left f (length_faults 0 16 (codes "xbar") ms) _ (length_faults_has 16 ms (codes "xbar") f w))
part_of opener ms f (fact.no_crossbar w) =
    in_uses (in_right f (length_faults 0 16 (codes "xbar") ms) _ (in_left f (element_faults (codes "xbar") ms) _ (item_faults_has form.Object ms (codes "xbar") f w)))
part_of opener ms f (fact.in_crossbar w) =
    in_uses (in_right f (length_faults 0 16 (codes "xbar") ms) _ (in_right f (element_faults (codes "xbar") ms) _
    (elements_have BreaksUse use_faults ms (codes "xbar") f (use_has f) w)))

-- what is broken is found
pub top_faults_have : (t : Tree) (f : Finding) → Violates t f → In f (top_faults t)
unfolding top_faults
top_faults_have t f (fact.duplicate d) = in_left f (duplicate_faults t) _ (duplicate_faults_has t f d)
top_faults_have t f (fact.top breaks) = in_right f (duplicate_faults t) _ (by (part_of t.at (members_of t) f breaks))
  where
    ms : List Member
    ms = members_of t

    table : List Finding
    table = table_faults t.at ms top_keys

    by : Part t.at ms f → In f (table ++ (sections_faults ms ++ (spaces_faults ms ++ (instances_faults ms ++ crossbars_faults ms))))
    by (in_table h) = in_left f table _ h
    by (in_section h) = in_right f table _ (in_left f (sections_faults ms) _ h)
    by (in_space h) = in_right f table _ (in_right f (sections_faults ms) _ (in_left f (spaces_faults ms) _ h))
    by (in_modules h) = in_right f table _ (in_right f (sections_faults ms) _ (in_right f (spaces_faults ms) _ (in_left f (instances_faults ms) _ h)))
    by (in_uses h) = in_right f table _ (in_right f (sections_faults ms) _ (in_right f (spaces_faults ms) _ (in_right f (instances_faults ms) _ h)))

-- ---- answers

-- a refusal that names the first that is found
pub refused : (e : DescFault) (file : ℕ) (t : Tree) → Refuses e file (top_faults t) → RefusesFirst e file (Violates t)
refused (Fault fault) file t (f, names, first) = (
  f,
  names,
  record {
    violates = in_top_faults t f first.among;
    least = λ (number : ℕ) (g : Finding) violates. first.least number g (top_faults_have t g violates);
  },
)
refused Memory file t refuses = tt

-- where nothing is found, nothing is broken
pub none_broken : (t : Tree) → first_of (top_faults t) ≡ None → (f : Finding) → ¬ Violates t f
none_broken t none f violates = subst (In f) (none_is_empty (top_faults t) none) (top_faults_have t f violates)
