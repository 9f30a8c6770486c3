-- What a block breaks is what stands in one plain list.
use Rattle.std.proofs.Common.{ℕ, ◌≡◌, ◌<◌, nat_lt, true, ◌⊎◌, List, [], ◌++◌, length, inl, inr, refl, sym, subst}
use Rattle.std.specs.List.{Contains, flat_map}
use Rattle.std.proofs.lemmas.Bool.{lt-ltb, ltb-true, or_cases, or_left, or_right}
use Rattle.cg_desc.specs.declared.place.At.{At}
use Rattle.cg_desc.specs.declared.block.FaceItems.{FaceItems}
use Rattle.cg_desc.specs.declared.block.BlockDesc.{BlockDesc}
use Rattle.cg_desc.specs.Items.{items_of_block}
use Rattle.cg_finding.specs.Finding.{Finding, In, finding}
use Rattle.cg_finding.proofs.Members.{flat_map_has, in_either, in_flat_map, in_left, in_right, in_when, when_has}
use Rattle.cg_expand.specs.Violations.{HasTooMany, Violates, item_name_twice, field_name_twice, too_many, interrupts, alerts, field_count, interrupt_bits, row_count}
use Rattle.cg_expand.specs.Parts.Faults.{bits_faults, face_faults, fields_twice, none_known, size_faults}
use Rattle.cg_expand.specs.Parts.Names.{names_twice}
use Rattle.cg_expand.specs.Parts.Sizes.{is_too_large}
use Rattle.cg_expand.proofs.FieldNames.{in_items_fields, items_fields_have}
use Rattle.cg_expand.proofs.ItemNames.{names_have, names_only}
use Rattle.cg_finding.proofs.Membership.{among_of, contains_of}

-- what the counts of a block break
unfoldable pub counts_faults : BlockDesc → List Finding
counts_faults b = bits_faults (nat_lt 32 (interrupt_bits b)) b.intrs_at ++ (bits_faults (nat_lt 32 (length b.alerts)) b.alerts_at ++ size_faults b)

-- what the items of a block break
abbrev pub items_faults : BlockDesc → List Finding
items_faults b = flat_map face_faults (items_of_block b)

-- ---- counts

in_bits : (n : ℕ) (at : At) (f : Finding) → In f (bits_faults (nat_lt 32 n) at) → (32 < n) × (f ≡ finding 4 42 at [])
unfolding bits_faults
in_bits n at f among = let test = in_when (nat_lt 32 n) f (finding 4 42 at []) among in (ltb-true 32 n test.0, test.1)

bits_have : (n : ℕ) (at : At) → 32 < n → In (finding 4 42 at []) (bits_faults (nat_lt 32 n) at)
unfolding bits_faults
bits_have n at h = when_has (nat_lt 32 n) (finding 4 42 at []) (finding 4 42 at []) (lt-ltb 32 n h) refl

large : (faces : List FaceItems) → is_too_large faces ≡ true → HasTooMany faces
large faces h =
    elim (or_cases (nat_lt 2048 (row_count faces)) (nat_lt 4096 (field_count faces)) h) [
      | inl rows ↦ inl (ltb-true 2048 (row_count faces) rows)
      | inr fields ↦ inr (ltb-true 4096 (field_count faces) fields)
    ]

is_large : (faces : List FaceItems) → HasTooMany faces → is_too_large faces ≡ true
is_large faces (inl rows) = or_left (nat_lt 2048 (row_count faces)) (nat_lt 4096 (field_count faces)) (lt-ltb 2048 (row_count faces) rows)
is_large faces (inr fields) = or_right (nat_lt 2048 (row_count faces)) (nat_lt 4096 (field_count faces)) (lt-ltb 4096 (field_count faces) fields)

in_size : (b : BlockDesc) (f : Finding) → In f (size_faults b) → HasTooMany (items_of_block b) × (f ≡ finding 4 38 b.at [])
unfolding size_faults
in_size b f among = let test = in_when (is_too_large (items_of_block b)) f (finding 4 38 b.at []) among in (large (items_of_block b) test.0, test.1)

size_has : (b : BlockDesc) → HasTooMany (items_of_block b) → In (finding 4 38 b.at []) (size_faults b)
unfolding size_faults
size_has b h = when_has (is_too_large (items_of_block b)) (finding 4 38 b.at []) (finding 4 38 b.at []) (is_large (items_of_block b) h) refl

counts_violate : (b : BlockDesc) (f : Finding) → In f (counts_faults b) → Violates b f
unfolding counts_faults
counts_violate b f among =
    elim (in_either f (bits_faults (nat_lt 32 (interrupt_bits b)) b.intrs_at) (bits_faults (nat_lt 32 (length b.alerts)) b.alerts_at ++ size_faults b) among) [
      | inl here ↦ let found = in_bits (interrupt_bits b) b.intrs_at f here in subst (Violates b) (sym found.1) (interrupts found.0)
      | inr rest ↦ elim (in_either f (bits_faults (nat_lt 32 (length b.alerts)) b.alerts_at) (size_faults b) rest) [
        | inl here ↦ let found = in_bits (length b.alerts) b.alerts_at f here in subst (Violates b) (sym found.1) (alerts found.0)
        | inr there ↦ let found = in_size b f there in subst (Violates b) (sym found.1) (too_many found.0)
      ]
    ]

-- ---- items

items_violate : (b : BlockDesc) (f : Finding) → In f (items_faults b) → Violates b f
items_violate b f among =
    let one = in_flat_map face_faults (items_of_block b) f among in
    let face : FaceItems = one.item in
    let there : Contains (items_of_block b) face = contains_of (items_of_block b) face one.among in
    elim (in_either f (names_twice none_known face.items) (flat_map fields_twice face.items) one.found) [
      | inl name ↦ item_name_twice face there (names_only face.items f name)
      | inr field ↦ field_name_twice face there (in_items_fields face.items f field)
    ]

-- ---- both

pub plain_violates : (b : BlockDesc) (f : Finding) → In f (counts_faults b) ⊎ In f (items_faults b) → Violates b f
plain_violates b f (inl counts) = counts_violate b f counts
plain_violates b f (inr items) = items_violate b f items

face_has : (b : BlockDesc) (f : Finding) (face : FaceItems) → Contains (items_of_block b) face → In f (face_faults face) → In f (items_faults b)
face_has b f face there found = flat_map_has face_faults (items_of_block b) face f (among_of (items_of_block b) face there) found

pub violates_plain : (b : BlockDesc) (f : Finding) → Violates b f → In f (counts_faults b) ⊎ In f (items_faults b)
unfolding counts_faults
violates_plain b f (item_name_twice face there twice) =
    inr (face_has b f face there (in_left f (names_twice none_known face.items) (flat_map fields_twice face.items) (names_have face.items f twice)))
violates_plain b f (field_name_twice face there twice) =
    inr (face_has b f face there (in_right f (names_twice none_known face.items) (flat_map fields_twice face.items) (items_fields_have face.items f twice)))
violates_plain b _ (too_many h) =
    let f : Finding = finding 4 38 b.at [] in
    inl (in_right f (bits_faults (nat_lt 32 (interrupt_bits b)) b.intrs_at) (bits_faults (nat_lt 32 (length b.alerts)) b.alerts_at ++ size_faults b)
    (in_right f (bits_faults (nat_lt 32 (length b.alerts)) b.alerts_at) (size_faults b) (size_has b h)))
violates_plain b _ (interrupts h) =
    let f : Finding = finding 4 42 b.intrs_at [] in
    inl (in_left f (bits_faults (nat_lt 32 (interrupt_bits b)) b.intrs_at) (bits_faults (nat_lt 32 (length b.alerts)) b.alerts_at ++ size_faults b)
    (bits_have (interrupt_bits b) b.intrs_at h))
violates_plain b _ (alerts h) =
    let f : Finding = finding 4 42 b.alerts_at [] in
    inl (in_right f (bits_faults (nat_lt 32 (interrupt_bits b)) b.intrs_at) (bits_faults (nat_lt 32 (length b.alerts)) b.alerts_at ++ size_faults b)
    (in_left f (bits_faults (nat_lt 32 (length b.alerts)) b.alerts_at) (size_faults b) (bits_have (length b.alerts) b.alerts_at h)))
