-- Completed lists of instances and crossbars break no rule.
use Rattle.std.proofs.Common.{◌≡◌, ℕ, true, ◌&&◌, nat_le, List, [], ◌∷◌, ◌++◌, map, Option, Some, None, codes, refl, sym, ap, ◌∙◌}
use Rattle.std.proofs.lemmas.Bool.{and_parts}
use Rattle.std.specs.List.{flat_map, list_all}
use Rattle.std.specs.Option.{option_map_or, option_to_list}
use Rattle.serde_json.specs.Data.{Data}
use Rattle.serde_json.specs.Find.{get}
use Rattle.cg_finding.specs.Finding.{finding}
use Rattle.cg_hjson.specs.declared.tree.Tree.{Tree}
use Rattle.cg_keys.specs.Elements.{element_faults, elements, items_in, length_faults}
use Rattle.cg_keys.specs.Table.{value_at}
use Rattle.cg_keys.specs.Values.{items_of, members_of}
use Rattle.cg_nodes.specs.Listed.{new_names}
use Rattle.cg_topread.specs.Listed.{crossbars_faults, instance_faults, instances_faults, list_types_faults, types_faults, use_faults}
use Rattle.cg_topread.specs.Types.{type_count, type_in, types_in}
use Rattle.cg_blkdone.specs.Full.{list_of}
use Rattle.cg_blkdone.proofs.CompletedLists.{pairwise}
use Rattle.cg_blkdone.proofs.Lookups.{elements_told, is_object, object_stays}
use Rattle.cg_blkdone.proofs.SoundNone.{is_none, none_by_both, none_unless}
use Rattle.cg_blkdone.proofs.SoundTables.{none_of_element_list, none_of_length}
use Rattle.cg_blkdone.proofs.Told.{told}
use Rattle.cg_done.specs.FullTop.{full_instance, full_use}
use Rattle.cg_done.proofs.Differ.{Differs, elements_differ}
use Rattle.cg_done.proofs.ReadTops.{none_in_both}
use Rattle.cg_done.proofs.SameLists.{list_has}
use Rattle.cg_done.proofs.SoundJudged.{each_stays}
use Rattle.cg_done.proofs.SoundParts.{instance_stays, type_same}
use Rattle.cg_done.proofs.SoundSections.{length_stays}
use Rattle.cg_done.proofs.SoundUses.{use_stays}

-- ---- types

types_flat : (ts : List Tree) → types_in ts ≡ flat_map option_to_list (map type_in ts)
unfolding types_in
types_flat [] = refl
types_flat (t ∷ ts) = ap (λ (ns : List (List ℕ)). option_to_list (type_in t) ++ ns) (types_flat ts)

as_many_types : (ts us : List Tree) → map type_in us ≡ map type_in ts → type_count us ≡ type_count ts
unfolding type_count
as_many_types ts us same =
    let types : types_in us ≡ types_in ts = types_flat us ∙ ap (flat_map option_to_list) same ∙ sym (types_flat ts) in rw types refl

no_types : true ≡ nat_le (type_count []) 64
unfolding type_count types_in new_names
no_types = refl

none_of_types : (t : Tree) → is_none (types_faults (members_of t)) ≡ nat_le (type_count (elements (codes "module") (members_of t))) 64
unfolding types_faults list_types_faults elements
none_of_types t = by (value_at (codes "module") (members_of t)) where
  by : (o : Option Tree) → is_none (option_map_or list_types_faults o []) ≡ nat_le (type_count (items_in o)) 64
  by None = no_types
  by (Some l) = none_unless (nat_le (type_count (items_of l)) 64) (finding 2 22 l.at (codes "module"))

-- ---- lists of parts

-- completed objects are objects
objects_stay : (full : Tree → Data) (key : List ℕ) (t u : Tree) → ((v : Tree) → is_object (told v) ≡ true → is_object (full v) ≡ true)
    → map told (elements key (members_of u)) ≡ map full (elements key (members_of t)) → is_none (element_faults key (members_of t)) ≡ true
    → is_none (element_faults key (members_of u)) ≡ true
objects_stay full key t u stays same none =
    none_of_element_list key u ∙ ap (list_all is_object) (sym (elements_told key u) ∙ same)
    ∙ each (elements key (members_of t)) (ap (list_all is_object) (elements_told key t) ∙ sym (none_of_element_list key t) ∙ none) where
      each : (ts : List Tree) → list_all is_object (map told ts) ≡ true → list_all is_object (map full ts) ≡ true
      each [] h = refl
      each (v ∷ ts) h = let both = and_parts (is_object (told v)) (list_all is_object (map told ts)) h in λ i. stays v both.0 i && each ts both.1 i

list_length : (most : ℕ) (full : Tree → Data) (key : List ℕ) (t u : Tree) → get key (told u) ≡ Some (list_of (map full (elements key (members_of t))))
    → is_none (length_faults 0 most key (members_of t)) ≡ true → is_none (length_faults 0 most key (members_of u)) ≡ true
list_length most full key t u put none =
    none_of_length 0 most key u ∙ length_stays most full key t (get key (told u)) (sym (none_of_length 0 most key t) ∙ none) put

-- ---- instances

instance_whole : (v : Tree) → is_object (told v) ≡ true → is_object (full_instance v) ≡ true
unfolding full_instance
instance_whole v is = object_stays _ (told v) is

-- of completed instances nothing is found where nothing is of the instances
pub instances_stay : (t u : Tree) → Differs t → Differs u → get (codes "module") (told u) ≡ Some (list_of (map full_instance (elements (codes "module") (members_of t))))
    → is_none (instances_faults (members_of t)) ≡ true → is_none (instances_faults (members_of u)) ≡ true
unfolding instances_faults
instances_stay t u old new put none =
    let ts = elements (codes "module") (members_of t) in
    let us = elements (codes "module") (members_of u) in
    let same : map told us ≡ map full_instance ts = list_has (codes "module") u (map full_instance ts) put in
    let length = none_in_both (length_faults 0 256 (codes "module") (members_of t)) _ none in
    let types = none_in_both (types_faults (members_of t)) _ length.1 in
    let objects = none_in_both (element_faults (codes "module") (members_of t)) (flat_map instance_faults ts) types.1 in
    let again : type_count us ≡ type_count ts = as_many_types ts us (pairwise full_instance type_in type_same ts us same) in
    none_by_both (length_faults 0 256 (codes "module") (members_of u)) _ true true (list_length 256 full_instance (codes "module") t u put length.0)
    (none_by_both (types_faults (members_of u)) _ true true
    (none_of_types u ∙ ap (λ n. nat_le n 64) again ∙ sym (none_of_types t) ∙ types.0)
    (none_by_both (element_faults (codes "module") (members_of u)) (flat_map instance_faults us) true true
    (objects_stay full_instance (codes "module") t u instance_whole same objects.0)
    (each_stays Differs full_instance instance_faults instance_stays ts us (elements_differ t (codes "module") old) (elements_differ u (codes "module") new) same objects.1)))

-- ---- crossbars

use_whole : (v : Tree) → is_object (told v) ≡ true → is_object (full_use v) ≡ true
unfolding full_use
use_whole v is = object_stays _ (told v) is

-- of completed crossbars nothing is found where nothing is of the crossbars
pub crossbars_stay : (t u : Tree) → Differs t → Differs u → get (codes "xbar") (told u) ≡ Some (list_of (map full_use (elements (codes "xbar") (members_of t))))
    → is_none (crossbars_faults (members_of t)) ≡ true → is_none (crossbars_faults (members_of u)) ≡ true
unfolding crossbars_faults
crossbars_stay t u old new put none =
    let ts = elements (codes "xbar") (members_of t) in
    let us = elements (codes "xbar") (members_of u) in
    let same : map told us ≡ map full_use ts = list_has (codes "xbar") u (map full_use ts) put in
    let length = none_in_both (length_faults 0 16 (codes "xbar") (members_of t)) _ none in
    let objects = none_in_both (element_faults (codes "xbar") (members_of t)) (flat_map use_faults ts) length.1 in
    none_by_both (length_faults 0 16 (codes "xbar") (members_of u)) _ true true (list_length 16 full_use (codes "xbar") t u put length.0)
    (none_by_both (element_faults (codes "xbar") (members_of u)) (flat_map use_faults us) true true
    (objects_stay full_use (codes "xbar") t u use_whole same objects.0)
    (each_stays Differs full_use use_faults (λ v w before after. use_stays v w) ts us (elements_differ t (codes "xbar") old) (elements_differ u (codes "xbar") new) same objects.1))
