-- What is found in the parts of a top, as facts.
use Rattle.std.proofs.Common.{◌≡◌, ℕ, List, [], ◌++◌, Option, Some, None, inl, inr, refl, sym, subst}
use Rattle.std.specs.Prelude.{option_and_then}
use Rattle.cg_desc.specs.declared.place.At.{At}
use Rattle.cg_finding.specs.Finding.{Finding, In}
use Rattle.cg_finding.proofs.Members.{in_either, in_left, in_right, in_unless, unless_has}
use Rattle.cg_hjson.specs.declared.tree.Tree.{Tree}
use Rattle.cg_hjson.specs.declared.tree.Member.{Member}
use Rattle.cg_keys.specs.Elements.{each_faults, element_faults, elements, in_object, object_faults}
use Rattle.cg_keys.specs.Forms.{fits_one}
use Rattle.cg_keys.specs.Lists.{InObject, first_members_after}
use Rattle.cg_keys.specs.Lookups.{object_at}
use Rattle.cg_keys.specs.Table.{Key, misfit, table_faults, value_at, value_faults}
use Rattle.cg_keys.specs.Values.{members_of, object_in, or_empty}
use Rattle.cg_keys.specs.declared.forms.Form.{Form}
use Rattle.cg_keys.specs.declared.forms.Form.TheVariants as form
use Rattle.cg_keys.proofs.ListFacts.{elements_have, in_elements, in_item_faults, in_members, in_object_keys, item_faults_has, members_have, object_keys_has}
use Rattle.cg_topread.specs.Listed.{base_faults, bases_faults, face_faults, faces_faults, members_at, names_faults, source_faults, sources_faults}
use Rattle.cg_topread.specs.Tables.{base_forms, bases_forms, named_keys, source_forms}
use Rattle.cg_topread.specs.Violations as fact
use Rattle.cg_topread.specs.Violations.{BreaksBases, BreaksFace, BreaksFaces, BreaksNamed, BreaksNames, BreaksSource, BreaksSources, Misfit}

-- ---- values

in_value : (forms : List Form) (key : List ℕ) (value : Tree) (f : Finding) → In f (value_faults key forms value) → Misfit forms key value f
unfolding value_faults
in_value forms key value f among = in_unless (fits_one forms value) f (misfit key forms value) among

value_has : (forms : List Form) (key : List ℕ) (value : Tree) (f : Finding) → Misfit forms key value f → In f (value_faults key forms value)
unfolding value_faults
value_has forms key value f m = unless_has (fits_one forms value) f (misfit key forms value) m.0 m.1

-- ---- members of an object at a key

-- what some faults of members say of an object
abbrev pub OfMembers : (At → List Member → Finding → Type 0) → (List Member → List Finding) → Finding → Type 0
OfMembers Breaks faults f = (opener : At) (ms : List Member) → In f (faults ms) → Breaks opener ms f

pub in_members_at : (Breaks : At → List Member → Finding → Type 0) (faults : List Member → List Finding) (ms : List Member) (key : List ℕ) (f : Finding)
    → (In f (faults []) → ⊥) → OfMembers Breaks faults f → In f (faults (members_at key ms)) → InObject Breaks ms key f
unfolding members_at object_at
in_members_at Breaks faults ms key f empty says among = by (value_at key ms) refl among
  where
    inside : (value : Tree) → value_at key ms ≡ Some value → (o : Option (List Member)) → object_in value ≡ o → In f (faults (or_empty o)) → InObject Breaks ms key f
    inside value there None is h = absurd (empty h)
    inside value there (Some inner) is h = record { value = value; there = there; inner = inner; object = is; breaks = says value.at inner h }

    by : (v : Option Tree) → value_at key ms ≡ v → In f (faults (or_empty (option_and_then object_in v))) → InObject Breaks ms key f
    by None is h = absurd (empty h)
    by (Some value) is h = inside value is (object_in value) refl h

pub members_at_has : (Breaks : At → List Member → Finding → Type 0) (faults : List Member → List Finding) (ms : List Member) (key : List ℕ) (f : Finding)
    → ((opener : At) (inner : List Member) → Breaks opener inner f → In f (faults inner)) → InObject Breaks ms key f → In f (faults (members_at key ms))
unfolding members_at object_at
members_at_has Breaks faults ms key f has w =
    subst (λ (v : Option Tree). In f (faults (or_empty (option_and_then object_in v)))) (sym w.there)
    (subst (λ (o : Option (List Member)). In f (faults (or_empty o))) (sym w.object) (has w.value.at w.inner w.breaks))

-- ---- sources

in_source : (ks : List Key) (f : Finding) (m : Member) → In f (source_faults ks m) → BreaksSource ks m.key m.value f
unfolding source_faults
in_source ks f m among =
    elim (in_either f (value_faults m.key source_forms m.value) (object_faults ks m.value) among) [
      | inl form ↦ fact.wrong_form (in_value source_forms m.key m.value f form)
      | inr table ↦ let inside = in_object_keys ks f m.value table in fact.in_object inside.0 inside.1 inside.2
    ]

source_has : (ks : List Key) (f : Finding) (m : Member) → BreaksSource ks m.key m.value f → In f (source_faults ks m)
unfolding source_faults
source_has ks f m (fact.wrong_form w) = in_left f (value_faults m.key source_forms m.value) (object_faults ks m.value) (value_has source_forms m.key m.value f w)
source_has ks f m (fact.in_object inner is breaks) =
    in_right f (value_faults m.key source_forms m.value) (object_faults ks m.value) (object_keys_has ks f m.value inner is breaks)

pub in_sources : (ks : List Key) (f : Finding) → OfMembers (BreaksSources ks) (sources_faults ks) f
unfolding sources_faults
in_sources ks f opener ms among = in_members (BreaksSource ks) (source_faults ks) ms f (in_source ks f) among

pub sources_have : (ks : List Key) (f : Finding) (opener : At) (ms : List Member) → BreaksSources ks opener ms f → In f (sources_faults ks ms)
unfolding sources_faults
sources_have ks f opener ms w = members_have (BreaksSource ks) (source_faults ks) ms f (source_has ks f) w

pub no_sources : (ks : List Key) (f : Finding) → In f (sources_faults ks []) → ⊥
unfolding sources_faults first_members_after
no_sources ks f among = absurd among

-- ---- base addresses

pub in_bases : (f : Finding) → OfMembers BreaksBases bases_faults f
unfolding bases_faults
in_bases f opener ms among = in_members (Misfit base_forms) base_faults ms f (λ m h. in_value base_forms m.key m.value f h) among

pub bases_have : (f : Finding) (opener : At) (ms : List Member) → BreaksBases opener ms f → In f (bases_faults ms)
unfolding bases_faults
bases_have f opener ms w = members_have (Misfit base_forms) base_faults ms f (λ m h. value_has base_forms m.key m.value f h) w

pub no_bases : (f : Finding) → In f (bases_faults []) → ⊥
unfolding bases_faults first_members_after
no_bases f among = absurd among

in_face : (f : Finding) (m : Member) → In f (face_faults m) → BreaksFace m.key m.value f
unfolding face_faults
in_face f m among =
    elim (in_either f (value_faults m.key bases_forms m.value) (bases_faults (members_of m.value)) among) [
      | inl form ↦ fact.wrong_form (in_value bases_forms m.key m.value f form)
      | inr bases ↦ by (object_in m.value) refl bases
    ]
  where
    by : (o : Option (List Member)) → object_in m.value ≡ o → In f (bases_faults (or_empty o)) → BreaksFace m.key m.value f
    by None is h = absurd (no_bases f h)
    by (Some inner) is h = fact.in_object inner is (in_bases f m.value.at inner h)

face_has : (f : Finding) (m : Member) → BreaksFace m.key m.value f → In f (face_faults m)
unfolding face_faults
face_has f m (fact.wrong_form w) = in_left f (value_faults m.key bases_forms m.value) (bases_faults (members_of m.value)) (value_has bases_forms m.key m.value f w)
face_has f m (fact.in_object inner is breaks) =
    in_right f (value_faults m.key bases_forms m.value) (bases_faults (members_of m.value))
    (subst (λ (o : Option (List Member)). In f (bases_faults (or_empty o))) (sym is) (bases_have f m.value.at inner breaks))

pub in_faces : (f : Finding) → OfMembers BreaksFaces faces_faults f
unfolding faces_faults
in_faces f opener ms among = in_members BreaksFace face_faults ms f (in_face f) among

pub faces_have : (f : Finding) (opener : At) (ms : List Member) → BreaksFaces opener ms f → In f (faces_faults ms)
unfolding faces_faults
faces_have f opener ms w = members_have BreaksFace face_faults ms f (face_has f) w

pub no_faces : (f : Finding) → In f (faces_faults []) → ⊥
unfolding faces_faults first_members_after
no_faces f among = absurd among

-- ---- lists of objects with names

pub in_names : (key : List ℕ) (ms : List Member) (f : Finding) → In f (names_faults key ms) → BreaksNames key ms f
unfolding names_faults
in_names key ms f among =
    elim (in_either f (element_faults key ms) (each_faults named_keys (elements key ms)) among) [
      | inl kind ↦ fact.no_object (in_item_faults form.Object ms key f kind)
      | inr each ↦ fact.in_element (in_elements BreaksNamed (object_faults named_keys) ms key f (in_object_keys named_keys f) each)
    ]

pub names_have : (key : List ℕ) (ms : List Member) (f : Finding) → BreaksNames key ms f → In f (names_faults key ms)
unfolding names_faults
names_have key ms f (fact.no_object w) = in_left f (element_faults key ms) _ (item_faults_has form.Object ms key f w)
names_have key ms f (fact.in_element w) =
    in_right f (element_faults key ms) _ (elements_have BreaksNamed (object_faults named_keys) ms key f (object_keys_has named_keys f) w)

pub no_names : (key : List ℕ) (f : Finding) → In f (names_faults key []) → ⊥
unfolding names_faults value_at elements
no_names key f among = by (in_names key [] f among)
  where
    by : BreaksNames key [] f → ⊥
    by (fact.no_object w) = cc
    by (fact.in_element w) = absurd w.among

-- ---- objects by a table and more

-- what an object breaks by its table, or beside it
pub in_object_and : (ks : List Key) (more : List Member → List Finding) (f : Finding) (t : Tree) → (In f (more []) → ⊥) → In f (object_faults ks t ++ more (members_of t))
    → (inner : List Member) × (object_in t ≡ Some inner) × In f (table_faults t.at inner ks ++ more inner)
unfolding object_faults
in_object_and ks more f t empty among = by (object_in t) refl among
  where
    by : (o : Option (List Member)) → object_in t ≡ o → In f (in_object t.at ks o ++ more (or_empty o)) → (inner : List Member) × (object_in t ≡ Some inner) × In f (table_faults t.at inner ks ++ more inner)
    by None is h = absurd (empty h)
    by (Some inner) is h = (inner, is, h)

pub object_and_has : (ks : List Key) (more : List Member → List Finding) (f : Finding) (t : Tree) (inner : List Member) → object_in t ≡ Some inner
    → In f (table_faults t.at inner ks ++ more inner) → In f (object_faults ks t ++ more (members_of t))
unfolding object_faults
object_and_has ks more f t inner is among = subst (λ (o : Option (List Member)). In f (in_object t.at ks o ++ more (or_empty o))) (sym is) among
