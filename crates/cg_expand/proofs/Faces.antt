-- What is found in interfaces, of which the first has items in front of its own.
use Rattle.std.proofs.Common.{List, [], ◌∷◌, ◌++◌, inl, inr, sym, subst}
use Rattle.std.specs.List.{flat_map}
use Rattle.std.proofs.lemmas.Grind.{flat_map-append}
use Rattle.cg_desc.specs.declared.block.Item.{Item}
use Rattle.cg_desc.specs.declared.block.FaceDesc.{FaceDesc}
use Rattle.cg_desc.specs.Items.{entry_items, items_of_faces}
use Rattle.cg_finding.specs.Finding.{Finding, In}
use Rattle.cg_finding.proofs.Members.{in_either, in_left, in_right}
use Rattle.cg_expand.specs.Parts.Faults.{face_faults, fields_twice, none_known}
use Rattle.cg_expand.specs.Parts.Names.{names_twice}

-- what the items of these interfaces break
abbrev pub faces_faults : List Item → List FaceDesc → List Finding
faces_faults front ds = flat_map face_faults (items_of_faces front ds)

-- what an interface's own entries stand for
abbrev pub own_items : FaceDesc → List Item
own_items d = flat_map entry_items d.entries

-- where a finding stands: in the names of the first interface's items, in the fields in front, in its own fields, or in the other interfaces
pub data Stands (front : List Item) (d : FaceDesc) (ds : List FaceDesc) (f : Finding) : Type 0 where
  in_names : In f (names_twice none_known (front ++ own_items d)) → Stands front d ds f
  in_front : In f (flat_map fields_twice front) → Stands front d ds f
  in_own : In f (flat_map fields_twice (own_items d)) → Stands front d ds f
  in_others : In f (faces_faults [] ds) → Stands front d ds f

pub stands : (front : List Item) (d : FaceDesc) (ds : List FaceDesc) (f : Finding) → In f (faces_faults front (d ∷ ds)) → Stands front d ds f
unfolding items_of_faces
stands front d ds f among =
    elim (in_either f (names_twice none_known (front ++ own_items d) ++ flat_map fields_twice (front ++ own_items d)) (faces_faults [] ds) among) [
      | inl first ↦ elim (in_either f (names_twice none_known (front ++ own_items d)) (flat_map fields_twice (front ++ own_items d)) first) [
        | inl name ↦ in_names name
        | inr field ↦ elim (in_either f (flat_map fields_twice front) (flat_map fields_twice (own_items d)) (subst (In f) (flat_map-append fields_twice front (own_items d)) field)) [
          | inl here ↦ in_front here
          | inr own ↦ in_own own
        ]
      ]
      | inr others ↦ in_others others
    ]

field_stands : (front : List Item) (d : FaceDesc) (ds : List FaceDesc) (f : Finding) → In f (flat_map fields_twice front ++ flat_map fields_twice (own_items d))
    → In f (faces_faults front (d ∷ ds))
unfolding items_of_faces
field_stands front d ds f among =
    in_left f (names_twice none_known (front ++ own_items d) ++ flat_map fields_twice (front ++ own_items d)) (faces_faults [] ds)
    (in_right f (names_twice none_known (front ++ own_items d)) (flat_map fields_twice (front ++ own_items d))
    (subst (In f) (sym (flat_map-append fields_twice front (own_items d))) among))

pub stands_there : (front : List Item) (d : FaceDesc) (ds : List FaceDesc) (f : Finding) → Stands front d ds f → In f (faces_faults front (d ∷ ds))
unfolding items_of_faces
stands_there front d ds f (in_names name) =
    in_left f (names_twice none_known (front ++ own_items d) ++ flat_map fields_twice (front ++ own_items d)) (faces_faults [] ds)
    (in_left f (names_twice none_known (front ++ own_items d)) (flat_map fields_twice (front ++ own_items d)) name)
stands_there front d ds f (in_front field) =
    field_stands front d ds f (in_left f (flat_map fields_twice front) (flat_map fields_twice (own_items d)) field)
stands_there front d ds f (in_own field) =
    field_stands front d ds f (in_right f (flat_map fields_twice front) (flat_map fields_twice (own_items d)) field)
stands_there front d ds f (in_others others) =
    in_right f (names_twice none_known (front ++ own_items d) ++ flat_map fields_twice (front ++ own_items d)) (faces_faults [] ds) others
