-- What blocks break of the rules on names and counts, but for places.
use Rattle.std.proofs.Common.{ℕ, ◌≡◌, ◌<◌, List, ◌∷◌, map, length, inl, inr, Some, refl, sym, ap, subst, ◌∙◌}
use Rattle.std.specs.List.{Contains, list_any, sum_by}
use Rattle.std.specs.Option.{option_map}
use Rattle.std.proofs.lemmas.List.{length-map, map-append}
use Rattle.cg_desc.specs.declared.block.Item.{Item}
use Rattle.cg_desc.specs.declared.block.Item.TheVariants.{Reg, Window, SkipTo, Reserved}
use Rattle.cg_desc.specs.declared.block.FaceItems.{FaceItems}
use Rattle.cg_desc.specs.declared.block.BlockDesc.{BlockDesc}
use Rattle.cg_desc.specs.Items.{items_of_block}
use Rattle.cg_finding.specs.Finding.{Finding, finding}
use Rattle.cg_expand.specs.Violations.{FieldNameTwice, HasTooMany, ItemNameTwice, Named, Violates, field_count, fields_in, has_name, interrupt_bits, name_of, row_count, rows_in}
use Rattle.cg_blkdone.specs.Completed.{AreSame}
use Rattle.cg_blkdone.specs.Places.{alert_unplaced, block_unplaced, field_unplaced, interrupt_unplaced, start}
use Rattle.cg_samespec.specs.Same.{FieldsAreApart}
use Rattle.cg_samespec.proofs.Apart.{FaceIsApart, no_field_twice, no_field_twice_unplaced, same_is_apart}
use Rattle.cg_samespec.proofs.Items.{block_items_are, item_unplaced, items_unplaced}
use Rattle.cg_samespec.proofs.Lists.{all_among, among, among_changed, any_blind, came_of, contains, splits_at, sum_blind}

-- ---- an interface of the block but for places

pub face_unplaced_there : (b : BlockDesc) (face : FaceItems) → Contains (items_of_block b) face → Contains (items_of_block (block_unplaced b)) (items_unplaced face)
face_unplaced_there b face has =
    subst (λ faces. Contains faces (items_unplaced face)) (sym (block_items_are b))
    (contains (map items_unplaced (items_of_block b)) (items_unplaced face) (among_changed items_unplaced face (items_of_block b) (among (items_of_block b) face has)))

-- an interface that came of one of the block
pub record IsFaceOf (b : BlockDesc) (face : FaceItems) : Type 0 where
  pub origin : FaceItems
  pub has : Contains (items_of_block b) origin
  pub gives : items_unplaced origin ≡ face

pub face_of : (b : BlockDesc) (face : FaceItems) → Contains (items_of_block (block_unplaced b)) face → IsFaceOf b face
face_of b face has =
    let found = came_of items_unplaced face (items_of_block b) (among (map items_unplaced (items_of_block b)) face (subst (λ faces. Contains faces face) (block_items_are b) has)) in
    record { origin = found.origin; has = contains (items_of_block b) found.origin found.among; gives = found.gives }

-- ---- names of items

-- a name but for its place
abbrev unplaced : Named → Named
unplaced n = record { name = n.name; at = start }

name_is : (item : Item) → name_of (item_unplaced item) ≡ option_map unplaced (name_of item)
name_is (Reg r) = refl
name_is (Window w) = refl
name_is (SkipTo to at) = refl
name_is (Reserved words at) = refl

has_name_is : (name : List ℕ) (item : Item) → has_name name (item_unplaced item) ≡ has_name name item
has_name_is name (Reg r) = refl
has_name_is name (Window w) = refl
has_name_is name (SkipTo to at) = refl
has_name_is name (Reserved words at) = refl

-- some item has the name of an earlier one
abbrev NameComesTwice : List Item → Type 0
NameComesTwice items = (f : Finding) × ItemNameTwice items f

twice_unplaced : (items : List Item) (f : Finding) → ItemNameTwice items f → NameComesTwice (map item_unplaced items)
twice_unplaced items f twice = (
  finding 4 34 start twice.name.name,
  record {
    before = map item_unplaced twice.before;
    item = item_unplaced twice.item;
    after = map item_unplaced twice.after;
    stands = ap (map item_unplaced) twice.stands ∙ map-append item_unplaced twice.before (twice.item ∷ twice.after);
    name = unplaced twice.name;
    is_name = name_is twice.item ∙ ap (option_map unplaced) twice.is_name;
    twice = any_blind item_unplaced (has_name twice.name.name) (has_name_is twice.name.name) twice.before ∙ twice.twice;
    says = refl;
  },
)

-- the name of an item that has this one where it has no place
record IsNameOf (item : Item) (n : Named) : Type 0 where
  name : Named
  is_name : name_of item ≡ Some name
  same : name.name ≡ n.name

name_placed : (item : Item) (n : Named) → name_of (item_unplaced item) ≡ Some n → IsNameOf item n
name_placed (Reg r) n e = let is : record { name = r.name; at = start } ≡ n = cc in record { name = record { name = r.name; at = r.at }; is_name = refl; same = ap (λ (m : Named). m.name) is }
name_placed (Window w) n e = let is : record { name = w.name; at = start } ≡ n = cc in record { name = record { name = w.name; at = w.at }; is_name = refl; same = ap (λ (m : Named). m.name) is }
name_placed (SkipTo to at) n e = cc
name_placed (Reserved words at) n e = cc

twice_placed : (items : List Item) (f : Finding) → ItemNameTwice (map item_unplaced items) f → NameComesTwice items
twice_placed items f twice =
    let there = splits_at item_unplaced items twice.before twice.item twice.after twice.stands in
    let named = name_placed there.origin twice.name (ap name_of there.gives ∙ twice.is_name) in (
      finding 4 34 named.name.at named.name.name,
      record {
        before = there.front;
        item = there.origin;
        after = there.back;
        stands = there.stands;
        name = named.name;
        is_name = named.is_name;
        twice = ap (λ n. list_any (has_name n) there.front) named.same ∙ sym (any_blind item_unplaced (has_name twice.name.name) (has_name_is twice.name.name) there.front)
            ∙ ap (λ xs. list_any (has_name twice.name.name) xs) there.gives_front ∙ twice.twice;
        says = refl;
      },
    )

-- ---- counts

rows_in_is : (item : Item) → rows_in (item_unplaced item) ≡ rows_in item
rows_in_is (Reg r) = refl
rows_in_is (Window w) = refl
rows_in_is (SkipTo to at) = refl
rows_in_is (Reserved words at) = refl

fields_in_is : (item : Item) → fields_in (item_unplaced item) ≡ fields_in item
fields_in_is (Reg r) = length-map r.fields field_unplaced
fields_in_is (Window w) = refl
fields_in_is (SkipTo to at) = refl
fields_in_is (Reserved words at) = refl

row_count_is : (b : BlockDesc) → row_count (items_of_block (block_unplaced b)) ≡ row_count (items_of_block b)
unfolding row_count
row_count_is b =
    ap (sum_by (λ face. sum_by rows_in face.items)) (block_items_are b)
    ∙ sum_blind items_unplaced (λ face. sum_by rows_in face.items) (λ face. sum_blind item_unplaced rows_in rows_in_is face.items) (items_of_block b)

field_count_is : (b : BlockDesc) → field_count (items_of_block (block_unplaced b)) ≡ field_count (items_of_block b)
unfolding field_count
field_count_is b =
    ap (sum_by (λ face. sum_by fields_in face.items)) (block_items_are b)
    ∙ sum_blind items_unplaced (λ face. sum_by fields_in face.items) (λ face. sum_blind item_unplaced fields_in fields_in_is face.items) (items_of_block b)

too_many_by : (faces others : List FaceItems) → row_count faces ≡ row_count others → field_count faces ≡ field_count others → HasTooMany faces → HasTooMany others
too_many_by faces others rows fields (inl many) = inl (subst (λ n. 2048 < n) rows many)
too_many_by faces others rows fields (inr many) = inr (subst (λ n. 4096 < n) fields many)

interrupt_bits_are : (b : BlockDesc) → interrupt_bits (block_unplaced b) ≡ interrupt_bits b
unfolding interrupt_bits block_unplaced
interrupt_bits_are b = sum_blind interrupt_unplaced (λ i. i.width) (λ i. refl) b.intrs

alerts_are : (b : BlockDesc) → length (block_unplaced b).alerts ≡ length b.alerts
unfolding block_unplaced
alerts_are b = length-map b.alerts alert_unplaced

-- ---- all of them

-- the block breaks a rule on names and counts
abbrev pub BreaksSome : BlockDesc → Type 0
BreaksSome b = (f : Finding) × Violates b f

-- without places it breaks one too
broken_unplaced : (b : BlockDesc) (f : Finding) → FieldsAreApart b → Violates b f → BreaksSome (block_unplaced b)
broken_unplaced b f apart (Violates.item_name_twice face has twice) =
    let found = twice_unplaced face.items f twice in (found.0, Violates.item_name_twice (items_unplaced face) (face_unplaced_there b face has) found.1)
broken_unplaced b f apart (Violates.field_name_twice face has twice) =
    absurd (no_field_twice face f (all_among FaceIsApart face (items_of_block b) apart (among (items_of_block b) face has)) twice)
broken_unplaced b f apart (Violates.too_many many) =
    (_, Violates.too_many (too_many_by (items_of_block b) (items_of_block (block_unplaced b)) (sym (row_count_is b)) (sym (field_count_is b)) many))
broken_unplaced b f apart (Violates.interrupts many) = (_, Violates.interrupts (subst (λ n. 32 < n) (sym (interrupt_bits_are b)) many))
broken_unplaced b f apart (Violates.alerts many) = (_, Violates.alerts (subst (λ n. 32 < n) (sym (alerts_are b)) many))

-- and where it breaks one without places it does with them
broken_placed : (b : BlockDesc) (f : Finding) → Violates (block_unplaced b) f → BreaksSome b
broken_placed b f (Violates.item_name_twice face has twice) =
    let from = face_of b face has in
    let found = twice_placed from.origin.items f (subst (λ x. ItemNameTwice x.items f) (sym from.gives) twice) in
    (found.0, Violates.item_name_twice from.origin from.has found.1)
broken_placed b f (Violates.field_name_twice face has twice) =
    let from = face_of b face has in absurd (no_field_twice_unplaced from.origin f (subst (λ x. FieldNameTwice x.items f) (sym from.gives) twice))
broken_placed b f (Violates.too_many many) = (_, Violates.too_many (too_many_by (items_of_block (block_unplaced b)) (items_of_block b) (row_count_is b) (field_count_is b) many))
broken_placed b f (Violates.interrupts many) = (_, Violates.interrupts (subst (λ n. 32 < n) (interrupt_bits_are b) many))
broken_placed b f (Violates.alerts many) = (_, Violates.alerts (subst (λ n. 32 < n) (alerts_are b) many))

-- a block that is the same as one that breaks none breaks none
pub same_names : (a b : BlockDesc) → AreSame a b → FieldsAreApart a → ((f : Finding) → ¬ Violates a f) → (f : Finding) → ¬ Violates b f
same_names a b same apart sound f broken =
    let here = broken_unplaced b f (same_is_apart a b same apart) broken in
    let there = broken_placed a here.0 (subst (λ x. Violates x here.0) (sym same) here.1) in
    sound there.0 there.1
