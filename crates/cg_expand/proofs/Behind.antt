-- Where all written names stand behind a place, what is found in items stands there too, or is found before they are made.
use Rattle.std.proofs.Common.{ℕ, ◌≡◌, ◌<◌, Bool, true, ◌⊎◌, List, [], ◌∷◌, ◌++◌, inl, inr, refl, sym, ap, ◌∙◌, append_assoc, subst}
use Rattle.std.specs.List.{flat_map, list_all}
use Rattle.std.proofs.lemmas.Bool.{and_parts}
use Rattle.cg_desc.specs.declared.place.At.{At}
use Rattle.cg_desc.specs.declared.block.Item.{Item}
use Rattle.cg_desc.specs.declared.block.Item.TheVariants.{Reg}
use Rattle.cg_desc.specs.declared.block.FaceDesc.{FaceDesc}
use Rattle.cg_desc.specs.declared.block.BlockDesc.{BlockDesc}
use Rattle.cg_desc.specs.Items.{automatic_items, has_some, items_of_faces}
use Rattle.cg_finding.specs.Finding.{Among, Finding, In}
use Rattle.cg_expand.specs.Parts.Faults.{all_behind, early_faults, entry_behind, fields_twice, none_known}
use Rattle.cg_expand.specs.Parts.Names.{also, item_twice, names_twice}
use Rattle.cg_expand.proofs.AllFaults.{early_has_automatic}
use Rattle.cg_expand.proofs.AutomaticItems.{names_differ}
use Rattle.cg_expand.proofs.Faces.{Stands, faces_faults, in_front, in_names, in_others, in_own, own_items, stands}
use Rattle.cg_expand.proofs.FieldNames.{in_items_fields}
use Rattle.cg_expand.proofs.ItemNames.{in_known_names}
use Rattle.cg_finding.proofs.Membership.{among_of}
use Rattle.cg_expand.proofs.Places.{IsBehind, entries_are_behind}

-- the finding is of phase 4 and stands behind a place
pub record FoundBehind (at : At) (f : Finding) : Type 0 where
  pub phase : 4 ≡ f.phase
  pub place : at.byte < f.at.byte

-- the names that are known after these items
known_after : (List ℕ → Bool) → List Item → List ℕ → Bool
known_after known [] = known
known_after known (i ∷ is) = known_after (also i known) is

names_split : (known : List ℕ → Bool) (xs ys : List Item) → names_twice known (xs ++ ys) ≡ names_twice known xs ++ names_twice (known_after known xs) ys
unfolding names_twice known_after
names_split known [] ys = refl
names_split known (x ∷ xs) ys =
    ap (λ fs. item_twice known x ++ fs) (names_split (also x known) xs ys)
    ∙ sym (append_assoc (item_twice known x) (names_twice (also x known) xs) (names_twice (known_after (also x known) xs) ys))

among_middle : (before : List Item) (item : Item) (after : List Item) → Among item (before ++ (item ∷ after))
among_middle [] item after = inl refl
among_middle (x ∷ before) item after = inr (among_middle before item after)

-- what names break, whatever is known, stands where an item does
names_behind : (at : At) (known : List ℕ → Bool) (items : List Item) (f : Finding) → ((item : Item) → Among item items → IsBehind at item)
    → In f (names_twice known items) → FoundBehind at f
names_behind at known items f behind among =
    let twice = in_known_names known items f among in
    let there : Among twice.item items = subst (Among twice.item) (sym twice.stands) (among_middle twice.before twice.item twice.after) in
    let place : at.byte < twice.name.at.byte = (behind twice.item there).name twice.name twice.is_name in
    subst (FoundBehind at) (sym twice.says) (record { phase = refl; place = place })

fields_are_behind : (at : At) (items : List Item) (f : Finding) → ((item : Item) → Among item items → IsBehind at item)
    → In f (flat_map fields_twice items) → FoundBehind at f
fields_are_behind at items f behind among =
    let twice = in_items_fields items f among in
    let there : Among (Reg twice.register) items = among_of items (Reg twice.register) twice.among in
    let place : at.byte < twice.field.at.byte = (behind (Reg twice.register) there).fields twice.field (among_of twice.register.fields twice.field twice.is_field) in
    subst (FoundBehind at) (sym twice.says) (record { phase = refl; place = place })

-- what an interface's own items, and the other interfaces, break
own_behind : (at : At) (d : FaceDesc) (ds : List FaceDesc) (f : Finding) → list_all (entry_behind at) d.entries ≡ true → (In f (faces_faults [] ds) → FoundBehind at f)
    → Stands [] d ds f → FoundBehind at f
own_behind at d ds f behind others (in_names name) = names_behind at none_known (own_items d) f (λ item there. entries_are_behind at d.entries item behind there) name
own_behind at d ds f behind others (in_front none) = absurd none
own_behind at d ds f behind others (in_own field) = fields_are_behind at (own_items d) f (λ item there. entries_are_behind at d.entries item behind there) field
own_behind at d ds f behind others (in_others there) = others there

others_behind : (at : At) (ds : List FaceDesc) (f : Finding) → list_all (λ d. list_all (entry_behind at) d.entries) ds ≡ true → In f (faces_faults [] ds) → FoundBehind at f
unfolding items_of_faces
others_behind at [] f behind among = absurd among
others_behind at (d ∷ ds) f behind among =
    let parts = and_parts (list_all (entry_behind at) d.entries) (list_all (λ e. list_all (entry_behind at) e.entries) ds) behind in
    own_behind at d ds f parts.0 (λ there. others_behind at ds f parts.1 there) (stands [] d ds f among)

-- the names of an interface's own items, behind automatic registers
behind_automatic : (at : At) (b : BlockDesc) (d : FaceDesc) (f : Finding) → list_all (entry_behind at) d.entries ≡ true
    → In f (names_twice none_known (automatic_items b ++ own_items d)) → FoundBehind at f
behind_automatic at b d f behind among =
    let known : List ℕ → Bool = known_after none_known (automatic_items b) in
    let split : names_twice none_known (automatic_items b ++ own_items d) ≡ names_twice known (own_items d) =
    names_split none_known (automatic_items b) (own_items d) ∙ ap (λ fs. fs ++ names_twice known (own_items d)) (names_differ b) in
    names_behind at known (own_items d) f (λ item there. entries_are_behind at d.entries item behind there) (subst (In f) split among)

first_behind : (b : BlockDesc) (d : FaceDesc) (ds : List FaceDesc) (f : Finding) → list_all (entry_behind b.at) d.entries ≡ true → (In f (faces_faults [] ds) → FoundBehind b.at f)
    → (In f (flat_map fields_twice (automatic_items b)) → In f (early_faults b)) → Stands (automatic_items b) d ds f → In f (early_faults b) ⊎ FoundBehind b.at f
first_behind b d ds f behind others early (in_names name) = inr (behind_automatic b.at b d f behind name)
first_behind b d ds f behind others early (in_front field) = inl (early field)
first_behind b d ds f behind others early (in_own field) = inr (fields_are_behind b.at (own_items d) f (λ item there. entries_are_behind b.at d.entries item behind there) field)
first_behind b d ds f behind others early (in_others there) = inr (others there)

faces_behind : (b : BlockDesc) (ds : List FaceDesc) (f : Finding) → list_all (λ d. list_all (entry_behind b.at) d.entries) ds ≡ true
    → (has_some ds ≡ true → In f (flat_map fields_twice (automatic_items b)) → In f (early_faults b)) → In f (faces_faults (automatic_items b) ds)
    → In f (early_faults b) ⊎ FoundBehind b.at f
unfolding items_of_faces
faces_behind b [] f behind early among = absurd among
faces_behind b (d ∷ ds) f behind early among =
    let parts = and_parts (list_all (entry_behind b.at) d.entries) (list_all (λ e. list_all (entry_behind b.at) e.entries) ds) behind in
    first_behind b d ds f parts.0 (others_behind b.at ds f parts.1) (early refl) (stands (automatic_items b) d ds f among)

pub items_behind : (b : BlockDesc) (f : Finding) → all_behind b ≡ true → In f (faces_faults (automatic_items b) b.faces) → In f (early_faults b) ⊎ FoundBehind b.at f
unfolding all_behind
items_behind b f behind among = faces_behind b b.faces f behind (early_has_automatic b f) among
