-- What the entries of a block break of the rules on keys and the profile, as lists and as facts.
use Rattle.std.proofs.Common.{◌≡◌, true, is_some, ◌⊎◌, inl, inr, List, [], ◌∷◌, ◌++◌, codes, Option, Some, None, refl, sym, subst}
use Rattle.std.specs.List.{flat_map}
use Rattle.cg_hjson.specs.declared.tree.Tree.{Tree}
use Rattle.cg_hjson.specs.declared.tree.Member.{Member}
use Rattle.cg_finding.specs.Finding.{Among, Finding, In}
use Rattle.cg_finding.proofs.Members.{flat_map_has, in_either, in_flat_map, in_left, in_right}
use Rattle.cg_keys.specs.Elements.{element_faults, elements, list_faults, object_faults}
use Rattle.cg_keys.specs.Forms.{fits}
use Rattle.cg_keys.specs.Table.{Key, value_at, value_faults}
use Rattle.cg_keys.specs.Values.{items_of, members_of, object_in, or_empty}
use Rattle.cg_keys.specs.declared.forms.Form.{Form}
use Rattle.cg_keys.specs.declared.forms.Form.TheVariants.{Items, Object}
use Rattle.cg_blkread.specs.Facts.Keys.{BreaksKeys, HasForms, HasTable, ListsOnlyObjects}
use Rattle.cg_blkread.specs.Facts.Parts.{HasAt, HasNot, IsEntry, IsEntryList, IsFieldOf, IsMultireg, IsRegister, IsReservation, IsSingle, IsSkip, IsWindow}
use Rattle.cg_blkread.specs.Facts.Profile.{BreaksProfile}
use Rattle.cg_blkread.specs.Interfaces.{EntryList, entry_lists}
use Rattle.cg_blkread.specs.Keys.{compact_outside, entry_faults, entry_kind_faults, entry_list_faults, field_faults, key_faults, mubi_outside, multireg_faults, outside_key, register_faults, register_outside, shadow_outside, window_faults}
use Rattle.cg_blkread.specs.Reads.{BreaksShape}
use Rattle.cg_blkread.specs.Tables.{copy_keys, field_keys, register_keys, window_keys, word_number}
use Rattle.cg_blkread.proofs.Facts.BlockKeys.{PartOf, part_listed}
use Rattle.cg_blkread.proofs.Facts.Entries.{Kind, has_object, is_listed, kind_of, listed_is}
use Rattle.cg_blkread.proofs.Facts.Registers.{compact_tells, element_tells, in_looked, list_tells, looked_has, mubi_tells, object_tells, outside_tells, value_tells}
use Rattle.cg_blkread.proofs.Facts.Shadowed.{shadow_tells}

-- ---- registers

-- what is asked of the members of a register beside its table
unfoldable pub body_faults : Tree → List Finding
body_faults r =
    register_outside (members_of r)
    ++ (element_faults (codes "fields") (members_of r) ++ flat_map (field_faults (members_of r)) (elements (codes "fields") (members_of r)))

-- the parts of it
pub data BodyPart (r : Tree) (f : Finding) : Type 0 where
  shadowed : In f (shadow_outside (members_of r)) → BodyPart r f
  asynchronous : In f (outside_key (members_of r) (codes "async")) → BodyPart r f
  synchronous : In f (outside_key (members_of r) (codes "sync")) → BodyPart r f
  alias : In f (outside_key (members_of r) (codes "alias_target")) → BodyPart r f
  elements_at : In f (element_faults (codes "fields") (members_of r)) → BodyPart r f
  field : (field : Tree) → IsFieldOf r field → In f (field_faults (members_of r) field) → BodyPart r f

body_part : (r : Tree) (f : Finding) → In f (body_faults r) → BodyPart r f
unfolding body_faults register_outside
body_part r f among =
    let ms : List Member = members_of r in
    elim (in_either f (register_outside ms) _ among) [
      | inl a ↦ elim (in_either f (shadow_outside ms) _ a) [
        | inl h ↦ shadowed h
        | inr b ↦ elim (in_either f (outside_key ms (codes "async")) _ b) [
          | inl h ↦ asynchronous h
          | inr c ↦ elim (in_either f (outside_key ms (codes "sync")) (outside_key ms (codes "alias_target")) c) [ inl h ↦ synchronous h | inr h ↦ alias h ]
        ]
      ]
      | inr a ↦ elim (in_either f (element_faults (codes "fields") ms) _ a) [
        | inl h ↦ elements_at h
        | inr b ↦ let one = in_flat_map (field_faults ms) (elements (codes "fields") ms) f b in field one.item one.among one.found
      ]
    ]

part_of_body : (r : Tree) (f : Finding) → BodyPart r f → In f (body_faults r)
unfolding body_faults register_outside
part_of_body r f part = by part where
  ms : List Member
  ms = members_of r

  by : BodyPart r f → In f (body_faults r)
  by (shadowed h) = in_left f (register_outside ms) _ (in_left f (shadow_outside ms) _ h)
  by (asynchronous h) = in_left f (register_outside ms) _ (in_right f (shadow_outside ms) _ (in_left f (outside_key ms (codes "async")) _ h))
  by (synchronous h) =
      in_left f (register_outside ms) _ (in_right f (shadow_outside ms) _ (in_right f (outside_key ms (codes "async")) _
      (in_left f (outside_key ms (codes "sync")) (outside_key ms (codes "alias_target")) h)))
  by (alias h) =
      in_left f (register_outside ms) _ (in_right f (shadow_outside ms) _ (in_right f (outside_key ms (codes "async")) _
      (in_right f (outside_key ms (codes "sync")) (outside_key ms (codes "alias_target")) h)))
  by (elements_at h) = in_right f (register_outside ms) _ (in_left f (element_faults (codes "fields") ms) _ h)
  by (field g is h) =
      in_right f (register_outside ms) _ (in_right f (element_faults (codes "fields") ms) _ (flat_map_has (field_faults ms) (elements (codes "fields") ms) g f is h))

field_tells : (t r g : Tree) (f : Finding) → IsRegister t r → IsFieldOf r g → In f (field_faults (members_of r) g) → BreaksShape t f
unfolding field_faults
field_tells t r g f is own among =
    elim (in_either f (object_faults field_keys g) (mubi_outside (members_of r) (members_of g)) among) [
      | inl h ↦ let told = object_tells field_keys g f h in
          BreaksShape.keys (BreaksKeys.of_object g told.members (HasTable.field r is own) told.is_object told.breaks)
      | inr h ↦ let told = mubi_tells r g f h in
          BreaksShape.profile (subst (BreaksProfile t) (sym told.told.says) (BreaksProfile.multibit r g told.told.value is own told.told.there told.why))
    ]

body_tells : (t r : Tree) (f : Finding) → IsRegister t r → In f (body_faults r) → BreaksShape t f
body_tells t r f is among = by (body_part r f among) where
  by : BodyPart r f → BreaksShape t f
  by (shadowed h) = let told = shadow_tells r f h in
      BreaksShape.profile (subst (BreaksProfile t) (sym told.told.says) (BreaksProfile.shadowed r told.told.value is told.told.there told.judged told.cannot))
  by (asynchronous h) = let told = outside_tells (codes "async") r f h in
      BreaksShape.profile (subst (BreaksProfile t) (sym told.says) (BreaksProfile.asynchronous r told.value is told.there))
  by (synchronous h) = let told = outside_tells (codes "sync") r f h in
      BreaksShape.profile (subst (BreaksProfile t) (sym told.says) (BreaksProfile.synchronous r told.value is told.there))
  by (alias h) = let told = outside_tells (codes "alias_target") r f h in
      BreaksShape.profile (subst (BreaksProfile t) (sym told.says) (BreaksProfile.alias r told.value is told.there))
  by (elements_at h) = let told = element_tells (codes "fields") r f h in
      BreaksShape.keys (subst (BreaksKeys t) (sym told.fault.says)
      (BreaksKeys.no_object told.list told.fault.element (ListsOnlyObjects.fields r is told.there) told.fault.among told.fault.no_object))
  by (field g in_r h) = field_tells t r g f is in_r h

register_tells : (t r : Tree) (keys : List Key) (f : Finding) → IsRegister t r → HasTable t r keys → In f (register_faults keys r) → BreaksShape t f
unfolding register_faults body_faults
register_tells t r keys f is table among =
    elim (in_either f (object_faults keys r) (body_faults r) among) [
      | inl h ↦ let told = object_tells keys r f h in BreaksShape.keys (BreaksKeys.of_object r told.members table told.is_object told.breaks)
      | inr h ↦ body_tells t r f is h
    ]

-- ---- entries

unfit_tells : (t value : Tree) (key : List _) (forms : List Form) (f : Finding) → HasForms t key forms value → In f (value_faults key forms value) → BreaksShape t f
unfit_tells t value key forms f has among =
    let told = value_tells key forms value f among in BreaksShape.keys (subst (BreaksKeys t) (sym told.1) (BreaksKeys.unfit value has told.0))

multireg_tells : (t m : Tree) (f : Finding) → IsMultireg t m → In f (multireg_faults m) → BreaksShape t f
unfolding multireg_faults
multireg_tells t m f is among =
    elim (in_either f (value_faults (codes "multireg") (Object ∷ []) m) _ among) [
      | inl h ↦ unfit_tells t m (codes "multireg") (Object ∷ []) f (HasForms.multireg is) h
      | inr a ↦ elim (in_either f (register_faults (register_keys ++ copy_keys) m) (compact_outside (members_of m)) a) [
        | inl h ↦ register_tells t m (register_keys ++ copy_keys) f (IsRegister.copied is) (HasTable.multireg is) h
        | inr h ↦ let told = compact_tells m f h in
            BreaksShape.profile (subst (BreaksProfile t) (sym told.told.says) (BreaksProfile.compact m told.told.value is told.told.there told.cannot))
      ]
    ]

window_tells : (t w : Tree) (f : Finding) → IsWindow t w → In f (window_faults w) → BreaksShape t f
unfolding window_faults
window_tells t w f is among =
    elim (in_either f (value_faults (codes "window") (Object ∷ []) w) (object_faults window_keys w) among) [
      | inl h ↦ unfit_tells t w (codes "window") (Object ∷ []) f (HasForms.window is) h
      | inr h ↦ let told = object_tells window_keys w f h in BreaksShape.keys (BreaksKeys.of_object w told.members (HasTable.window is) told.is_object told.breaks)
    ]

-- what is asked of an entry of each kind
multireg_kind : (e m : Tree) → HasAt (codes "multireg") e m → entry_kind_faults (members_of e) e ≡ multireg_faults m
unfolding entry_kind_faults
multireg_kind e m there = rw there refl

window_kind : (e w : Tree) → HasNot (codes "multireg") e → HasAt (codes "window") e w → entry_kind_faults (members_of e) e ≡ window_faults w
unfolding entry_kind_faults
window_kind e w none there = rw (none, there) refl

skip_kind : (e s : Tree) → HasNot (codes "multireg") e → HasNot (codes "window") e → HasAt (codes "skipto") e s
    → entry_kind_faults (members_of e) e ≡ value_faults (codes "skipto") (word_number ∷ []) s
unfolding entry_kind_faults
skip_kind e s none no_window there = rw (none, no_window, there) refl

reservation_kind : (e r : Tree) → HasNot (codes "multireg") e → HasNot (codes "window") e → HasNot (codes "skipto") e → HasAt (codes "reserved") e r
    → entry_kind_faults (members_of e) e ≡ value_faults (codes "reserved") (word_number ∷ []) r
unfolding entry_kind_faults
reservation_kind e r none no_window no_skip there = rw (none, no_window, no_skip, there) refl

register_kind : (e : Tree) → HasNot (codes "multireg") e → HasNot (codes "window") e → HasNot (codes "skipto") e → HasNot (codes "reserved") e
    → entry_kind_faults (members_of e) e ≡ register_faults register_keys e
unfolding entry_kind_faults
register_kind e none no_window no_skip no_reservation = rw (none, no_window, no_skip, no_reservation) refl

kind_tells : (t e : Tree) (f : Finding) → IsEntry t e → In f (entry_kind_faults (members_of e) e) → BreaksShape t f
kind_tells t e f is among = by (kind_of e) where
  by : Kind e → BreaksShape t f
  by (Kind.multireg m there) = multireg_tells t m f (record { entry = e; is_entry = is; there = there }) (subst (In f) (multireg_kind e m there) among)
  by (Kind.window w none there) =
      window_tells t w f (record { entry = e; is_entry = is; no_multireg = none; there = there }) (subst (In f) (window_kind e w none there) among)
  by (Kind.skip s none no_window there) =
      unfit_tells t s (codes "skipto") (word_number ∷ []) f
      (HasForms.skip (record { entry = e; is_entry = is; no_multireg = none; no_window = no_window; there = there }))
      (subst (In f) (skip_kind e s none no_window there) among)
  by (Kind.reservation r none no_window no_skip there) =
      unfit_tells t r (codes "reserved") (word_number ∷ []) f
      (HasForms.reservation (record { entry = e; is_entry = is; no_multireg = none; no_window = no_window; no_skip = no_skip; there = there }))
      (subst (In f) (reservation_kind e r none no_window no_skip there) among)
  by (Kind.register none no_window no_skip no_reservation) =
      let single : IsSingle t e = record { is_entry = is; no_multireg = none; no_window = no_window; no_skip = no_skip; no_reservation = no_reservation } in
      register_tells t e register_keys f (IsRegister.single single) (HasTable.register single)
      (subst (In f) (register_kind e none no_window no_skip no_reservation) among)

entry_tells : (t e : Tree) (f : Finding) → IsEntry t e → In f (entry_faults e) → BreaksShape t f
unfolding entry_faults
entry_tells t e f is among =
    let looked = in_looked (fits Object e) f (entry_kind_faults (members_of e) e ++ outside_key (members_of e) (codes "sameaddr")) among in
    elim (in_either f (entry_kind_faults (members_of e) e) (outside_key (members_of e) (codes "sameaddr")) looked.1) [
      | inl h ↦ kind_tells t e f is h
      | inr h ↦ let told = outside_tells (codes "sameaddr") e f h in
          BreaksShape.profile (subst (BreaksProfile t) (sym told.says) (BreaksProfile.same_address e told.value is told.there))
    ]

entry_list_tells : (t : Tree) (l : EntryList) (f : Finding) → IsEntryList t l.key l.value → In f (entry_list_faults l) → BreaksShape t f
unfolding entry_list_faults
entry_list_tells t l f listed among =
    elim (in_either f (value_faults l.key (Items ∷ []) l.value) _ among) [
      | inl h ↦ unfit_tells t l.value l.key (Items ∷ []) f (HasForms.entries listed) h
      | inr a ↦ elim (in_either f (list_faults Object l.key l.value) (flat_map entry_faults (items_of l.value)) a) [
        | inl h ↦ let told = list_tells l.key l.value f h in
            BreaksShape.keys (subst (BreaksKeys t) (sym told.says) (BreaksKeys.no_object l.value told.element (ListsOnlyObjects.entries listed) told.among told.no_object))
        | inr h ↦ let one = in_flat_map entry_faults (items_of l.value) f h in
            entry_tells t one.item f (record { key = l.key; list = l.value; listed = listed; among = one.among }) one.found
      ]
    ]

pub entries_tell : (t : Tree) (f : Finding) → In f (flat_map entry_list_faults (entry_lists (members_of t))) → BreaksShape t f
entries_tell t f among =
    let one = in_flat_map entry_list_faults (entry_lists (members_of t)) f among in entry_list_tells t one.item f (listed_is t one.item one.among) one.found

-- ---- a fact of an entry is listed

-- what a list of entries breaks
pub list_found : (t : Tree) (key : List _) (list : Tree) (f : Finding) → IsEntryList t key list → In f (entry_list_faults (record { key = key; value = list })) → In f (key_faults t)
list_found t key list f listed among =
    part_listed t f (PartOf.entries (flat_map_has entry_list_faults (entry_lists (members_of t)) (record { key = key; value = list }) f (is_listed t key list listed) among))

pub of_list : (t : Tree) (key : List _) (list : Tree) (f : Finding) → IsEntryList t key list
    → In f (value_faults key (Items ∷ []) list) ⊎ In f (list_faults Object key list) → In f (key_faults t)
unfolding entry_list_faults
of_list t key list f listed (inl h) = list_found t key list f listed (in_left f (value_faults key (Items ∷ []) list) _ h)
of_list t key list f listed (inr h) =
    list_found t key list f listed (in_right f (value_faults key (Items ∷ []) list) _ (in_left f (list_faults Object key list) (flat_map entry_faults (items_of list)) h))

-- what an entry breaks, which is an object
of_entry : (t e : Tree) (f : Finding) → IsEntry t e → In f (entry_faults e) → In f (key_faults t)
unfolding entry_list_faults
of_entry t e f is among =
    list_found t is.key is.list f is.listed (in_right f (value_faults is.key (Items ∷ []) is.list) _ (in_right f (list_faults Object is.key is.list) (flat_map entry_faults (items_of is.list))
    (flat_map_has entry_faults (items_of is.list) e f is.among among)))

fit : (t : Tree) → is_some (object_in t) ≡ true → fits Object t ≡ true
unfolding fits
fit t h = h

pub of_address : (t e value : Tree) (f : Finding) → IsEntry t e → HasAt (codes "sameaddr") e value → In f (outside_key (members_of e) (codes "sameaddr")) → In f (key_faults t)
unfolding entry_faults
of_address t e value f is there among =
    of_entry t e f is (looked_has (fits Object e) f _ (fit e (has_object (codes "sameaddr") e value there))
    (in_right f (entry_kind_faults (members_of e) e) (outside_key (members_of e) (codes "sameaddr")) among))

of_kind : (t e : Tree) (f : Finding) (fs : List Finding) → IsEntry t e → is_some (object_in e) ≡ true → entry_kind_faults (members_of e) e ≡ fs → In f fs → In f (key_faults t)
unfolding entry_faults
of_kind t e f fs is object kind among =
    of_entry t e f is (looked_has (fits Object e) f _ (fit e object)
    (in_left f (entry_kind_faults (members_of e) e) (outside_key (members_of e) (codes "sameaddr")) (subst (In f) (sym kind) among)))

pub of_multireg : (t m : Tree) (f : Finding) → IsMultireg t m → In f (multireg_faults m) → In f (key_faults t)
of_multireg t m f is among =
    of_kind t is.entry f (multireg_faults m) is.is_entry (has_object (codes "multireg") is.entry m is.there) (multireg_kind is.entry m is.there) among

pub of_window : (t w : Tree) (f : Finding) → IsWindow t w → In f (window_faults w) → In f (key_faults t)
of_window t w f is among =
    of_kind t is.entry f (window_faults w) is.is_entry (has_object (codes "window") is.entry w is.there) (window_kind is.entry w is.no_multireg is.there) among

pub of_skip : (t s : Tree) (f : Finding) → IsSkip t s → In f (value_faults (codes "skipto") (word_number ∷ []) s) → In f (key_faults t)
of_skip t s f is among =
    of_kind t is.entry f _ is.is_entry (has_object (codes "skipto") is.entry s is.there) (skip_kind is.entry s is.no_multireg is.no_window is.there) among

pub of_reservation : (t r : Tree) (f : Finding) → IsReservation t r → In f (value_faults (codes "reserved") (word_number ∷ []) r) → In f (key_faults t)
of_reservation t r f is among =
    of_kind t is.entry f _ is.is_entry (has_object (codes "reserved") is.entry r is.there) (reservation_kind is.entry r is.no_multireg is.no_window is.no_skip is.there) among

pub of_single : (t r : Tree) (f : Finding) → IsSingle t r → is_some (object_in r) ≡ true → In f (register_faults register_keys r) → In f (key_faults t)
of_single t r f is object among =
    of_kind t r f (register_faults register_keys r) is.is_entry object (register_kind r is.no_multireg is.no_window is.no_skip is.no_reservation) among

-- what a register breaks beside its table, which is an object
pub of_body : (t r : Tree) (f : Finding) → IsRegister t r → is_some (object_in r) ≡ true → BodyPart r f → In f (key_faults t)
unfolding register_faults body_faults multireg_faults
of_body t r f (IsRegister.single is) object part =
    of_single t r f is object (in_right f (object_faults register_keys r) (body_faults r) (part_of_body r f part))
of_body t r f (IsRegister.copied is) object part =
    of_multireg t r f is (in_right f (value_faults (codes "multireg") (Object ∷ []) r) _ (in_left f (register_faults (register_keys ++ copy_keys) r) (compact_outside (members_of r))
    (in_right f (object_faults (register_keys ++ copy_keys) r) (body_faults r) (part_of_body r f part))))

-- a register that has a field is an object
pub has_field : (r g : Tree) → IsFieldOf r g → is_some (object_in r) ≡ true
unfolding elements value_at
has_field r g is = by (object_in r) is where
  by : (o : Option (List Member)) → Among g (elements (codes "fields") (or_empty o)) → is_some o ≡ true
  by None is = absurd is
  by (Some ms) is = refl
