-- Gates and rows do not look at places; so a block that is the same breaks no rule on offsets and gates either.
use Rattle.std.proofs.Common.{ℕ, ◌≡◌, Bool, true, false, List, [], ◌∷◌, map, if◌then◌else◌, Option, Some, None, refl, sym, ap, subst, ◌∙◌}
use Rattle.std.specs.List.{Contains, zip}
use Rattle.std.specs.Option.{option_map}
use Rattle.cg_desc.specs.Gates.{has_name}
use Rattle.cg_desc.specs.declared.block.FieldDesc.{FieldDesc}
use Rattle.cg_desc.specs.declared.block.RegDesc.{RegDesc}
use Rattle.cg_desc.specs.declared.block.Item.{Item}
use Rattle.cg_desc.specs.declared.block.Item.TheVariants.{Reg, Window, SkipTo, Reserved}
use Rattle.cg_desc.specs.declared.block.FaceDesc.{FaceDesc}
use Rattle.cg_desc.specs.declared.block.FaceItems.{FaceItems}
use Rattle.cg_desc.specs.declared.block.BlockDesc.{BlockDesc}
use Rattle.cg_desc.specs.Items.{items_of_block}
use Rattle.cg_finding.specs.Finding.{Finding}
use Rattle.cg_desc.specs.Gates.{is_gate, register_among}
use Rattle.cg_layout.specs.Violations.{BreaksIn, HasNoRow, Violates, is_row}
use Rattle.cg_blkdone.specs.Completed.{AreSame}
use Rattle.cg_blkdone.specs.Places.{block_unplaced, face_unplaced, register_unplaced}
use Rattle.cg_samespec.proofs.Items.{block_items_are, item_unplaced, items_unplaced, with_fields}
use Rattle.cg_samespec.proofs.Lists.{among, among_changed, came_of, contains, zip_changes}
use Rattle.cg_samespec.proofs.Offsets.{offsets_placed, offsets_unplaced}

-- ---- rows

is_row_is : (item : Item) → is_row (item_unplaced item) ≡ is_row item
is_row_is (Reg r) = refl
is_row_is (Window w) = refl
is_row_is (SkipTo to at) = refl
is_row_is (Reserved words at) = refl

-- an item but for its places is there
item_there : (items : List Item) (item : Item) → Contains items item → Contains (map item_unplaced items) (item_unplaced item)
item_there items item has = contains (map item_unplaced items) (item_unplaced item) (among_changed item_unplaced item items (among items item has))

no_row_unplaced : (items : List Item) → HasNoRow items → HasNoRow (map item_unplaced items)
no_row_unplaced items none item has =
    let from = came_of item_unplaced item items (among (map item_unplaced items) item has) in
    ap is_row (sym from.gives) ∙ is_row_is from.origin ∙ none from.origin (contains items from.origin from.among)

no_row_placed : (items : List Item) → HasNoRow (map item_unplaced items) → HasNoRow items
no_row_placed items none item has = sym (is_row_is item) ∙ none (item_unplaced item) (item_there items item has)

-- ---- gates

chosen : (b : Bool) (r : RegDesc) (found : Option RegDesc) → (if b then Some (register_unplaced r) else option_map register_unplaced found) ≡ option_map register_unplaced (if b then Some r else found)
chosen true r found = refl
chosen false r found = refl

register_among_is : (items : List Item) (name : List ℕ) → register_among (map item_unplaced items) name ≡ option_map register_unplaced (register_among items name)
register_among_is [] name = refl
register_among_is (Reg r ∷ items) name =
    (λ i. if has_name r name then Some (register_unplaced r) else register_among_is items name i) ∙ chosen (has_name r name) r (register_among items name)
register_among_is (Window w ∷ items) name = register_among_is items name
register_among_is (SkipTo to at ∷ items) name = register_among_is items name
register_among_is (Reserved words at ∷ items) name = register_among_is items name

gate_by_fields : (r : RegDesc) (fs : List FieldDesc) → is_gate (register_unplaced (with_fields r fs)) ≡ is_gate (with_fields r fs)
gate_by_fields r [] = refl
gate_by_fields r (f ∷ []) = refl
gate_by_fields r (f ∷ (g ∷ fs)) = refl

gate_is : (r : RegDesc) → is_gate (register_unplaced r) ≡ is_gate r
gate_is r = gate_by_fields r r.fields

-- a register of the items that is this one but for its places
record RegisterOf (items : List Item) (r : RegDesc) : Type 0 where
  origin : RegDesc
  has : Contains items (Reg origin)
  gives : register_unplaced origin ≡ r

register_from : (items : List Item) (item : Item) (r : RegDesc) → Contains items item → item_unplaced item ≡ Reg r → RegisterOf items r
register_from items (Reg q) r has e = record { origin = q; has = has; gives = cc }
register_from items (Window w) r has e = cc
register_from items (SkipTo to at) r has e = cc
register_from items (Reserved words at) r has e = cc

register_of : (items : List Item) (r : RegDesc) → Contains (map item_unplaced items) (Reg r) → RegisterOf items r
register_of items r has =
    let from = came_of item_unplaced (Reg r) items (among (map item_unplaced items) (Reg r) has) in
    register_from items from.origin r (contains items from.origin from.among) from.gives

none_before : (found : Option RegDesc) → option_map register_unplaced found ≡ None → found ≡ None
none_before None e = refl
none_before (Some r) e = cc

-- what was found is this but for its places
record FoundOf (found : Option RegDesc) (gate : RegDesc) : Type 0 where
  origin : RegDesc
  is : found ≡ Some origin
  gives : register_unplaced origin ≡ gate

some_before : (found : Option RegDesc) (gate : RegDesc) → option_map register_unplaced found ≡ Some gate → FoundOf found gate
some_before None gate e = cc
some_before (Some r) gate e = record { origin = r; is = refl; gives = cc }

-- ---- an interface

-- the interface of these items breaks a rule
abbrev FaceBreaks : FaceDesc → List Item → Type 0
FaceBreaks face items = (f : Finding) × BreaksIn face items f

face_unplaced_breaks : (face : FaceDesc) (items : List Item) (f : Finding) → BreaksIn face items f → FaceBreaks (face_unplaced face) (map item_unplaced items)
face_unplaced_breaks face items f (BreaksIn.no_row none) = (_, BreaksIn.no_row (no_row_unplaced items none))
face_unplaced_breaks face items f (BreaksIn.unknown_regwen {name} r has e none) =
    (_, BreaksIn.unknown_regwen (register_unplaced r) (item_there items (Reg r) has) e (register_among_is items name ∙ ap (option_map register_unplaced) none))
face_unplaced_breaks face items f (BreaksIn.bad_regwen {name} r gate has e found bad) =
    (_, BreaksIn.bad_regwen (register_unplaced r) (register_unplaced gate) (item_there items (Reg r) has) e (register_among_is items name ∙ ap (option_map register_unplaced) found) (gate_is gate ∙ bad))
face_unplaced_breaks face items f (BreaksIn.offsets broken) = let found = offsets_unplaced broken in (found.0, BreaksIn.offsets found.1)

face_placed_breaks : (face : FaceDesc) (items : List Item) (f : Finding) → BreaksIn (face_unplaced face) (map item_unplaced items) f → FaceBreaks face items
face_placed_breaks face items f (BreaksIn.no_row none) = (_, BreaksIn.no_row (no_row_placed items none))
face_placed_breaks face items f (BreaksIn.unknown_regwen {name} r has e none) =
    let from = register_of items r has in
    (_, BreaksIn.unknown_regwen from.origin from.has (ap (λ (q : RegDesc). q.regwen) from.gives ∙ e) (none_before (register_among items name) (sym (register_among_is items name) ∙ none)))
face_placed_breaks face items f (BreaksIn.bad_regwen {name} r gate has e found bad) =
    let from = register_of items r has in
    let here = some_before (register_among items name) gate (sym (register_among_is items name) ∙ found) in
    (_, BreaksIn.bad_regwen from.origin here.origin from.has (ap (λ (q : RegDesc). q.regwen) from.gives ∙ e) here.is (sym (gate_is here.origin) ∙ ap is_gate here.gives ∙ bad))
face_placed_breaks face items f (BreaksIn.offsets broken) = let found = offsets_placed 0 items f broken in (found.0, BreaksIn.offsets found.1)

-- ---- the block

-- the block breaks a rule on offsets and gates
abbrev pub BreaksSome : BlockDesc → Type 0
BreaksSome b = (f : Finding) × Violates b f

-- an interface with its items, but for places
abbrev pair_unplaced : FaceDesc × FaceItems → FaceDesc × FaceItems
pair_unplaced p = (face_unplaced p.0, items_unplaced p.1)

pairs_are : (b : BlockDesc) → zip (block_unplaced b).faces (items_of_block (block_unplaced b)) ≡ map pair_unplaced (zip b.faces (items_of_block b))
unfolding block_unplaced
pairs_are b = ap (zip (map face_unplaced b.faces)) (block_items_are b) ∙ zip_changes face_unplaced items_unplaced b.faces (items_of_block b)

broken_unplaced : (b : BlockDesc) (f : Finding) → Violates b f → BreaksSome (block_unplaced b)
broken_unplaced b f broken =
    let pairs : List (FaceDesc × FaceItems) = zip b.faces (items_of_block b) in
    let found = face_unplaced_breaks broken.interface.0 broken.interface.1.items f broken.breaks in
    let there = contains (map pair_unplaced pairs) (pair_unplaced broken.interface) (among_changed pair_unplaced broken.interface pairs (among pairs broken.interface broken.among)) in (
      found.0,
      record {
        interface = pair_unplaced broken.interface;
        among = subst (λ ps. Contains ps (pair_unplaced broken.interface)) (sym (pairs_are b)) there;
        breaks = found.1;
      },
    )

broken_placed : (b : BlockDesc) (f : Finding) → Violates (block_unplaced b) f → BreaksSome b
broken_placed b f broken =
    let pairs : List (FaceDesc × FaceItems) = zip b.faces (items_of_block b) in
    let has = subst (λ ps. Contains ps broken.interface) (pairs_are b) broken.among in
    let from = came_of pair_unplaced broken.interface pairs (among (map pair_unplaced pairs) broken.interface has) in
    let found = face_placed_breaks from.origin.0 from.origin.1.items f (subst (λ (p : FaceDesc × FaceItems). BreaksIn p.0 p.1.items f) (sym from.gives) broken.breaks) in
    (found.0, record { interface = from.origin; among = contains pairs from.origin from.among; breaks = found.1 })

-- a block that is the same as one that breaks none breaks none
pub same_offsets : (a b : BlockDesc) → AreSame a b → ((f : Finding) → ¬ Violates a f) → (f : Finding) → ¬ Violates b f
same_offsets a b same sound f broken =
    let here = broken_unplaced b f broken in
    let there = broken_placed a here.0 (subst (λ x. Violates x here.0) (sym same) here.1) in
    sound there.0 there.1
