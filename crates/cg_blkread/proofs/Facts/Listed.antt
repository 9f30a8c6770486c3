-- What a block breaks is what is listed.
use Rattle.std.proofs.Common.{◌≡◌, ℕ, true, is_some, inl, inr, List, [], ◌∷◌, ◌++◌, codes, Some, refl, sym, subst}
use Rattle.cg_hjson.specs.declared.tree.Tree.{Tree}
use Rattle.cg_hjson.specs.declared.tree.Member.{Member}
use Rattle.cg_finding.specs.Finding.{Finding, In, of_least_phase}
use Rattle.cg_finding.proofs.Members.{flat_map_has, in_flat_map, in_left, in_right}
use Rattle.cg_keys.specs.Elements.{elements, list_faults, object_faults}
use Rattle.cg_keys.specs.Table.{Key, value_faults}
use Rattle.cg_keys.specs.Values.{members_of, object_in}
use Rattle.cg_keys.specs.Violations.{BreaksTable}
use Rattle.cg_keys.specs.declared.forms.Form.{Form}
use Rattle.cg_keys.specs.declared.forms.Form.TheVariants.{Object}
use Rattle.cg_keys.proofs.DuplicateKeys.{duplicate_faults_has, in_duplicate_faults}
use Rattle.cg_keys.proofs.Relation.{in_table_faults, table_faults_has}
use Rattle.cg_blkread.specs.Facts.Keys.{BreaksKeys, HasForms, HasTable, ListsOnlyObjects}
use Rattle.cg_blkread.specs.Facts.Parts.{HasAt, IsRegister}
use Rattle.cg_blkread.specs.Facts.Profile.{BreaksProfile}
use Rattle.cg_blkread.specs.Interfaces.{interfaces}
use Rattle.cg_blkread.specs.Keys.{compact_outside, field_faults, key_faults, mubi_outside, multireg_faults, protocol_outside, register_faults, window_faults}
use Rattle.cg_blkread.specs.Reads.{BreaksShape, IsListed, Violates}
use Rattle.cg_blkread.specs.Reads as reads
use Rattle.cg_blkread.specs.Tables.{block_keys, copy_keys, field_keys, register_keys, window_keys}
use Rattle.cg_blkread.proofs.Facts.BlockEntries.{BodyPart, body_faults, entries_tell, has_field, of_address, of_body, of_list, of_multireg, of_reservation, of_single, of_skip, of_window}
use Rattle.cg_blkread.proofs.Facts.BlockKeys.{PartOf, lengths_have, lengths_tell, lists_have, lists_tell, objects_have, part_listed, part_of, protocol_has, protocol_tells, width_has, width_tells}
use Rattle.cg_blkread.proofs.Facts.BlockValues.{values_have, values_tell}
use Rattle.cg_blkread.proofs.Facts.Entries.{has_object}
use Rattle.cg_blkread.proofs.Facts.Interfaces.{interfaces_have, interfaces_tell}
use Rattle.cg_blkread.proofs.Facts.Registers.{compact_has, element_has, list_has, mubi_has, object_has, outside_has, value_has}
use Rattle.cg_blkread.proofs.Facts.Shadowed.{shadow_has}

-- ---- what is listed is a fact

shape_tells : (t : Tree) (f : Finding) → In f (key_faults t) → BreaksShape t f
shape_tells t f among = by (part_of t f among) where
  by : PartOf t f → BreaksShape t f
  by (PartOf.duplicates h) = BreaksShape.keys (BreaksKeys.duplicate (in_duplicate_faults t f h))
  by (PartOf.table h) = BreaksShape.keys (BreaksKeys.of_block (in_table_faults t.at (members_of t) block_keys f h))
  by (PartOf.lengths h) = BreaksShape.keys (lengths_tell t f h)
  by (PartOf.lists h) = BreaksShape.keys (lists_tell t f h)
  by (PartOf.width h) = BreaksShape.profile (width_tells t f h)
  by (PartOf.protocols h) =
      let one = in_flat_map protocol_outside (interfaces (members_of t)) f h in BreaksShape.profile (protocol_tells t one.item f one.among one.found)
  by (PartOf.together h) = BreaksShape.interfaces (interfaces_tell t f h)
  by (PartOf.entries h) = entries_tell t f h

-- ---- a fact on keys is listed

object_there : (t : Tree) (ms : List Member) → object_in t ≡ Some ms → is_some (object_in t) ≡ true
object_there t ms is = rw is refl

-- what an object breaks of its table
table_found : (t object : Tree) (keys : List Key) (ms : List Member) (f : Finding) → HasTable t object keys → object_in object ≡ Some ms → BreaksTable object.at ms keys f
    → In f (key_faults t)
unfolding register_faults body_faults multireg_faults window_faults field_faults
table_found t object keys ms f has is breaks = by has (object_has keys object ms f is breaks) where
  by : {keys : List Key} → HasTable t object keys → In f (object_faults keys object) → In f (key_faults t)
  by (HasTable.listed {key = key} {keys = keys} _ lists among) found =
      part_listed t f (PartOf.lists (lists_have t key keys f lists
      (objects_have t key keys f (inr (flat_map_has (object_faults keys) (elements key (members_of t)) object f among found)))))
  by (HasTable.register single) found = of_single t object f single (object_there object ms is) (in_left f (object_faults register_keys object) (body_faults object) found)
  by (HasTable.multireg multireg) found =
      of_multireg t object f multireg (in_right f (value_faults (codes "multireg") (Object ∷ []) object) _
      (in_left f (register_faults (register_keys ++ copy_keys) object) (compact_outside (members_of object))
      (in_left f (object_faults (register_keys ++ copy_keys) object) (body_faults object) found)))
  by (HasTable.field r register own) found =
      of_body t r f register (has_field r object own)
      (BodyPart.field object own (in_left f (object_faults field_keys object) (mubi_outside (members_of r) (members_of object)) found))
  by (HasTable.window window) found =
      of_window t object f window (in_right f (value_faults (codes "window") (Object ∷ []) object) (object_faults window_keys object) found)

-- a value that has not its form
unfit_found : (t value : Tree) (key : List ℕ) (forms : List Form) (f : Finding) → HasForms t key forms value → In f (value_faults key forms value) → In f (key_faults t)
unfolding multireg_faults window_faults
unfit_found t value _ _ f (HasForms.entries {key = key} listed) found = of_list t key value f listed (inl found)
unfit_found t value _ _ f (HasForms.multireg is) found = of_multireg t value f is (in_left f (value_faults (codes "multireg") (Object ∷ []) value) _ found)
unfit_found t value _ _ f (HasForms.window is) found =
    of_window t value f is (in_left f (value_faults (codes "window") (Object ∷ []) value) (object_faults window_keys value) found)
unfit_found t value _ _ f (HasForms.skip is) found = of_skip t value f is found
unfit_found t value _ _ f (HasForms.reservation is) found = of_reservation t value f is found

-- an element that is no object
element_found : (t list : Tree) (key : List ℕ) (f : Finding) → ListsOnlyObjects t key list → In f (list_faults Object key list) → In f (key_faults t)
element_found t list _ f (ListsOnlyObjects.listed {key = key} {keys = keys} lists there) found =
    part_listed t f (PartOf.lists (lists_have t key keys f lists (objects_have t key keys f (inl (element_has key t list f there found)))))
element_found t list _ f (ListsOnlyObjects.fields r is there) found =
    of_body t r f is (has_object (codes "fields") r list there) (BodyPart.elements_at (element_has (codes "fields") r list f there found))
element_found t list _ f (ListsOnlyObjects.entries {key = key} listed) found = of_list t key list f listed (inr found)

keys_have : (t : Tree) (f : Finding) → BreaksKeys t f → In f (key_faults t)
keys_have t f (BreaksKeys.duplicate twice) = part_listed t f (PartOf.duplicates (duplicate_faults_has t f twice))
keys_have t f (BreaksKeys.of_block breaks) = part_listed t f (PartOf.table (table_faults_has t.at (members_of t) block_keys f breaks))
keys_have t f (BreaksKeys.of_object {keys = keys} object ms has is breaks) = table_found t object keys ms f has is breaks
keys_have t _ (BreaksKeys.unfit {key = key} {forms = forms} value has fails) = unfit_found t value key forms _ has (value_has key forms value fails)
keys_have t _ (BreaksKeys.no_object {key = key} list element only among none) = element_found t list key _ only (list_has key list element among none)
keys_have t _ (BreaksKeys.wrong_length {key = key} least most list elements limited there is why) =
    part_listed t _ (PartOf.lengths (lengths_have t list key least most elements limited there is why))

-- ---- a fact on the profile is listed

-- a key of a register that counts by its presence
key_found : (t r value : Tree) (key : List ℕ) (f : Finding) → IsRegister t r → HasAt key r value → BodyPart r f → In f (key_faults t)
key_found t r value key f is there part = of_body t r f is (has_object key r value there) part

profile_has : (t : Tree) (f : Finding) → BreaksProfile t f → In f (key_faults t)
unfolding field_faults multireg_faults
profile_has t _ (BreaksProfile.width value n there is other) = part_listed t _ (PartOf.width (width_has t value n there is other))
profile_has t _ (BreaksProfile.protocol i value word among there is other) =
    part_listed t _ (PartOf.protocols (flat_map_has protocol_outside (interfaces (members_of t)) i _ among (protocol_has i value word there is other)))
profile_has t _ (BreaksProfile.shadowed r value is there judged cannot) =
    key_found t r value (codes "shadowed") _ is there.0 (BodyPart.shadowed (shadow_has r value there judged cannot))
profile_has t _ (BreaksProfile.asynchronous r value is there) =
    key_found t r value (codes "async") _ is there (BodyPart.asynchronous (outside_has (codes "async") r value there))
profile_has t _ (BreaksProfile.synchronous r value is there) =
    key_found t r value (codes "sync") _ is there (BodyPart.synchronous (outside_has (codes "sync") r value there))
profile_has t _ (BreaksProfile.alias r value is there) =
    key_found t r value (codes "alias_target") _ is there (BodyPart.alias (outside_has (codes "alias_target") r value there))
profile_has t _ (BreaksProfile.same_address e value is there) = of_address t e value _ is there (outside_has (codes "sameaddr") e value there)
profile_has t _ (BreaksProfile.multibit r g value is own there why) =
    of_body t r _ is (has_field r g own)
    (BodyPart.field g own (in_right _ (object_faults field_keys g) (mubi_outside (members_of r) (members_of g)) (mubi_has r g value there why)))
profile_has t _ (BreaksProfile.compact m value is there cannot) =
    of_multireg t m _ is (in_right _ (value_faults (codes "multireg") (Object ∷ []) m) _
    (in_right _ (register_faults (register_keys ++ copy_keys) m) (compact_outside (members_of m)) (compact_has m value there cannot)))

-- ---- all of it

listed_shape : (t : Tree) (f : Finding) → BreaksShape t f → In f (key_faults t)
listed_shape t f (BreaksShape.keys breaks) = keys_have t f breaks
listed_shape t f (BreaksShape.profile breaks) = profile_has t f breaks
listed_shape t f (BreaksShape.interfaces breaks) = part_listed t f (PartOf.together (interfaces_have t f breaks))

-- what is broken is listed
pub violates_listed : (t : Tree) (f : Finding) → Violates t f → IsListed t f
violates_listed t f (Violates.shape breaks) = by (key_faults t) (listed_shape t f breaks) where
  by : (fs : List Finding) → In f fs → In f (of_least_phase fs (reads.value_faults t))
  by [] among = absurd among
  by (g ∷ gs) among = among
violates_listed t f (Violates.values none breaks) = by (key_faults t) refl where
  by : (fs : List Finding) → key_faults t ≡ fs → In f (of_least_phase fs (reads.value_faults t))
  by [] is = values_have t f breaks
  by (g ∷ gs) is = absurd (none g (shape_tells t g (subst (In g) (sym is) (inl refl))))

-- what is listed is broken
pub listed_violates : (t : Tree) (f : Finding) → IsListed t f → Violates t f
listed_violates t f among = by (key_faults t) refl among where
  by : (fs : List Finding) → key_faults t ≡ fs → In f (of_least_phase fs (reads.value_faults t)) → Violates t f
  by [] is among = Violates.values (λ g breaks. absurd (subst (In g) is (listed_shape t g breaks))) (values_tell t f among)
  by (g ∷ gs) is among = Violates.shape (shape_tells t f (subst (In f) (sym is) among))

-- ---- blocks that break nothing

none_in : (fs : List Finding) → ((f : Finding) → ¬ In f fs) → fs ≡ []
none_in [] none = refl
none_in (f ∷ fs) none = absurd (none f (inl refl))

-- where nothing is broken, nothing is listed
pub nothing_listed : (t : Tree) → ((f : Finding) → ¬ Violates t f) → (key_faults t ≡ []) × (reads.value_faults t ≡ [])
nothing_listed t sound =
    by (key_faults t) (none_in (of_least_phase (key_faults t) (reads.value_faults t)) (λ f among. sound f (listed_violates t f among))) where
      by : (fs : List Finding) → of_least_phase fs (reads.value_faults t) ≡ [] → (fs ≡ []) × (reads.value_faults t ≡ [])
      by [] h = (refl, h)
      by (g ∷ gs) h = cc

-- where nothing is listed, nothing is broken
pub nothing_broken : (t : Tree) → key_faults t ≡ [] → reads.value_faults t ≡ [] → (f : Finding) → ¬ Violates t f
nothing_broken t keys values f violates =
    subst (In f) values (subst (λ fs. In f (of_least_phase fs (reads.value_faults t))) keys (violates_listed t f violates))
