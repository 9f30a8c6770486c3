-- What is found before and after the items are made is what a block breaks.
use Rattle.std.proofs.Common.{◌≡◌, nat_lt, Bool, true, false, ◌&&◌, ◌⊎◌, List, [], ◌∷◌, ◌++◌, length, inl, inr, refl, sym, subst}
use Rattle.std.specs.List.{flat_map}
use Rattle.std.proofs.lemmas.Bool.{and_from, and_parts}
use Rattle.cg_desc.specs.declared.place.At.{At}
use Rattle.cg_desc.specs.declared.block.FaceDesc.{FaceDesc}
use Rattle.cg_desc.specs.declared.block.BlockDesc.{BlockDesc}
use Rattle.cg_desc.specs.Items.{automatic_items, has_some, items_of_faces}
use Rattle.cg_finding.specs.Finding.{Finding, In}
use Rattle.cg_finding.proofs.Members.{in_either, in_left, in_right}
use Rattle.cg_expand.specs.Violations.{Named, Violates, interrupt_bits}
use Rattle.cg_expand.specs.Parts.Automatic.{automatic_with, has_room}
use Rattle.cg_expand.specs.Parts.Faults.{alert_faults, bits_faults, early_faults, fields_twice, interrupt_faults, late_faults, list_faults, none_known, size_faults}
use Rattle.cg_expand.specs.Parts.Labels.{labels_twice}
use Rattle.cg_expand.proofs.AutomaticItems.{alert_found, alert_names, in_automatic, in_fields_with, interrupt_found, interrupt_names, names_with}
use Rattle.cg_expand.proofs.Faces.{Stands, faces_faults, in_front, in_names, in_others, in_own, own_items, stands, stands_there}
use Rattle.cg_expand.proofs.PlainFaults.{counts_faults, items_faults, plain_violates, violates_plain}

-- ---- a list of interrupts or alerts

in_list : (many : Bool) (at : At) (present : Bool) (ls : List Named) (f : Finding) → In f (list_faults many at present ls)
    → In f (bits_faults many at) ⊎ ((present ≡ true) × In f (labels_twice ls))
unfolding list_faults
in_list many at false ls f among = inl among
in_list many at true ls f among = elim (in_either f (bits_faults many at) (labels_twice ls) among) [ inl bits ↦ inl bits | inr names ↦ inr (refl, names) ]

list_has_bits : (many : Bool) (at : At) (present : Bool) (ls : List Named) (f : Finding) → In f (bits_faults many at) → In f (list_faults many at present ls)
unfolding list_faults
list_has_bits many at false ls f among = among
list_has_bits many at true ls f among = in_left f (bits_faults many at) (labels_twice ls) among

list_has_names : (many : Bool) (at : At) (present : Bool) (ls : List Named) (f : Finding) → present ≡ true → In f (labels_twice ls) → In f (list_faults many at present ls)
unfolding list_faults
list_has_names many at false ls f is among = cc
list_has_names many at true ls f is among = in_right f (bits_faults many at) (labels_twice ls) among

-- ---- the findings that no item is made for

-- what the early findings are of
pub data Early (b : BlockDesc) (f : Finding) : Type 0 where
  counts : In f (counts_faults b) → Early b f
  interrupts : has_some b.faces ≡ true → b.auto_intr ≡ true → In f (interrupt_names b) → Early b f
  alerts : has_some b.faces ≡ true → b.auto_alert ≡ true → In f (alert_names b) → Early b f

in_interrupt_faults : (b : BlockDesc) (f : Finding) → In f (interrupt_faults b) → Early b f
unfolding interrupt_faults counts_faults
in_interrupt_faults b f among =
    elim (in_list (nat_lt 32 (interrupt_bits b)) b.intrs_at (has_some b.faces && b.auto_intr) _ f among) [
      | inl bits ↦ counts (in_left f (bits_faults (nat_lt 32 (interrupt_bits b)) b.intrs_at) (bits_faults (nat_lt 32 (length b.alerts)) b.alerts_at ++ size_faults b) bits)
      | inr names ↦ let tests = and_parts (has_some b.faces) b.auto_intr names.0 in interrupts tests.0 tests.1 names.1
    ]

in_alert_faults : (b : BlockDesc) (f : Finding) → In f (alert_faults b) → Early b f
unfolding alert_faults counts_faults
in_alert_faults b f among =
    elim (in_list (nat_lt 32 (length b.alerts)) b.alerts_at (has_some b.faces && b.auto_alert) _ f among) [
      | inl bits ↦ counts (in_right f (bits_faults (nat_lt 32 (interrupt_bits b)) b.intrs_at) (bits_faults (nat_lt 32 (length b.alerts)) b.alerts_at ++ size_faults b)
          (in_left f (bits_faults (nat_lt 32 (length b.alerts)) b.alerts_at) (size_faults b) bits))
      | inr names ↦ let tests = and_parts (has_some b.faces) b.auto_alert names.0 in alerts tests.0 tests.1 names.1
    ]

in_early : (b : BlockDesc) (f : Finding) → In f (early_faults b) → Early b f
unfolding early_faults counts_faults
in_early b f among =
    elim (in_either f (interrupt_faults b) (alert_faults b ++ size_faults b) among) [
      | inl here ↦ in_interrupt_faults b f here
      | inr rest ↦ elim (in_either f (alert_faults b) (size_faults b) rest) [
        | inl here ↦ in_alert_faults b f here
        | inr size ↦ counts (in_right f (bits_faults (nat_lt 32 (interrupt_bits b)) b.intrs_at) (bits_faults (nat_lt 32 (length b.alerts)) b.alerts_at ++ size_faults b)
            (in_right f (bits_faults (nat_lt 32 (length b.alerts)) b.alerts_at) (size_faults b) size))
      ]
    ]

of_interrupts : (b : BlockDesc) (f : Finding) → In f (interrupt_faults b) → In f (early_faults b)
unfolding early_faults
of_interrupts b f among = in_left f (interrupt_faults b) (alert_faults b ++ size_faults b) among

of_alerts : (b : BlockDesc) (f : Finding) → In f (alert_faults b) → In f (early_faults b)
unfolding early_faults
of_alerts b f among = in_right f (interrupt_faults b) (alert_faults b ++ size_faults b) (in_left f (alert_faults b) (size_faults b) among)

pub of_size : (b : BlockDesc) (f : Finding) → In f (size_faults b) → In f (early_faults b)
unfolding early_faults
of_size b f among = in_right f (interrupt_faults b) (alert_faults b ++ size_faults b) (in_right f (alert_faults b) (size_faults b) among)

-- what the counts break is found early
pub early_has_counts : (b : BlockDesc) (f : Finding) → In f (counts_faults b) → In f (early_faults b)
unfolding counts_faults interrupt_faults alert_faults
early_has_counts b f among =
    elim (in_either f (bits_faults (nat_lt 32 (interrupt_bits b)) b.intrs_at) (bits_faults (nat_lt 32 (length b.alerts)) b.alerts_at ++ size_faults b) among) [
      | inl bits ↦ of_interrupts b f (list_has_bits (nat_lt 32 (interrupt_bits b)) b.intrs_at (has_some b.faces && b.auto_intr) _ f bits)
      | inr rest ↦ elim (in_either f (bits_faults (nat_lt 32 (length b.alerts)) b.alerts_at) (size_faults b) rest) [
        | inl bits ↦ of_alerts b f (list_has_bits (nat_lt 32 (length b.alerts)) b.alerts_at (has_some b.faces && b.auto_alert) _ f bits)
        | inr size ↦ of_size b f size
      ]
    ]

-- what the fields of automatic registers break is found early
pub early_has_automatic : (b : BlockDesc) (f : Finding) → has_some b.faces ≡ true → In f (flat_map fields_twice (automatic_items b)) → In f (early_faults b)
unfolding interrupt_faults alert_faults
early_has_automatic b f some among =
    elim (in_automatic b f among) [
      | inl found ↦ of_interrupts b f (list_has_names (nat_lt 32 (interrupt_bits b)) b.intrs_at (has_some b.faces && b.auto_intr) _ f (and_from (has_some b.faces) b.auto_intr some found.0) found.1)
      | inr found ↦ of_alerts b f (list_has_names (nat_lt 32 (length b.alerts)) b.alerts_at (has_some b.faces && b.auto_alert) _ f (and_from (has_some b.faces) b.auto_alert some found.0) found.1)
    ]

-- ---- the findings in items

-- with automatic registers in front of the first interface
front_stands : (b : BlockDesc) (faces : List FaceDesc) (f : Finding) → has_some faces ≡ true → In f (flat_map fields_twice (automatic_items b)) → In f (faces_faults (automatic_items b) faces)
front_stands b [] f some among = cc
front_stands b (d ∷ ds) f some among = stands_there (automatic_items b) d ds f (in_front among)

early_stands : (b : BlockDesc) (f : Finding) → Early b f → In f (counts_faults b) ⊎ In f (items_faults b)
early_stands b f (counts among) = inl among
early_stands b f (interrupts some wanted among) = inr (front_stands b b.faces f some (interrupt_found b f wanted among))
early_stands b f (alerts some wanted among) = inr (front_stands b b.faces f some (alert_found b f wanted among))

late_stands : (wanted : Bool) (b : BlockDesc) (faces : List FaceDesc) (f : Finding) → In f (faces_faults (automatic_with wanted b) faces) → In f (faces_faults (automatic_items b) faces)
unfolding items_of_faces
late_stands wanted b [] f among = among
late_stands wanted b (d ∷ ds) f among =
    let place : Stands (automatic_with wanted b) d ds f → Stands (automatic_items b) d ds f = λ s. moved s in
    stands_there (automatic_items b) d ds f (place (stands (automatic_with wanted b) d ds f among))
  where
    moved : Stands (automatic_with wanted b) d ds f → Stands (automatic_items b) d ds f
    moved (in_names name) = in_names (subst (In f) (names_with wanted none_known b (own_items d)) name)
    moved (in_front field) = in_front (in_fields_with wanted b f field)
    moved (in_own field) = in_own field
    moved (in_others others) = in_others others

-- what is found is what the block breaks
pub found_violates : (b : BlockDesc) (f : Finding) → In f (early_faults b ++ late_faults b) → Violates b f
found_violates b f among =
    elim (in_either f (early_faults b) (late_faults b) among) [
      | inl early ↦ plain_violates b f (early_stands b f (in_early b f early))
      | inr late ↦ plain_violates b f (inr (late_stands (has_room b) b b.faces f late))
    ]

items_found : (wanted : Bool) (b : BlockDesc) (faces : List FaceDesc) (f : Finding) → (has_some faces ≡ true → In f (flat_map fields_twice (automatic_items b)) → In f (early_faults b))
    → In f (faces_faults (automatic_items b) faces) → In f (early_faults b) ⊎ In f (faces_faults (automatic_with wanted b) faces)
unfolding items_of_faces
items_found wanted b [] f early among = inr among
items_found wanted b (d ∷ ds) f early among = placed (stands (automatic_items b) d ds f among)
  where
    placed : Stands (automatic_items b) d ds f → In f (early_faults b) ⊎ In f (faces_faults (automatic_with wanted b) (d ∷ ds))
    placed (in_names name) = inr (stands_there (automatic_with wanted b) d ds f (in_names (subst (In f) (sym (names_with wanted none_known b (own_items d))) name)))
    placed (in_front field) = inl (early refl field)
    placed (in_own field) = inr (stands_there (automatic_with wanted b) d ds f (in_own field))
    placed (in_others others) = inr (stands_there (automatic_with wanted b) d ds f (in_others others))

-- what the block breaks is found
pub violates_found : (b : BlockDesc) (f : Finding) → Violates b f → In f (early_faults b ++ late_faults b)
violates_found b f violates =
    elim (violates_plain b f violates) [
      | inl count ↦ in_left f (early_faults b) (late_faults b) (early_has_counts b f count)
      | inr items ↦ elim (items_found (has_room b) b b.faces f (early_has_automatic b f) items) [
        | inl early ↦ in_left f (early_faults b) (late_faults b) early
        | inr late ↦ in_right f (early_faults b) (late_faults b) late
      ]
    ]
