-- What the items of a block break of the rules on offsets and gates.
use Rattle.std.specs.Prelude.{◌≡◌, ◌≢◌, ℕ, ◌%◌, ◌^◌, ◌<◌, ◌≤◌, ◌⊎◌, Bool, true, false, List, [], ◌∷◌, Contains, zip, Option, Some, None}
use Rattle.cg_desc.specs.declared.place.At.{At}
use Rattle.cg_desc.specs.declared.block.RegDesc.{RegDesc}
use Rattle.cg_desc.specs.declared.block.Item.{Item}
use Rattle.cg_desc.specs.declared.block.Item.TheVariants.{Reg, Window, SkipTo, Reserved}
use Rattle.cg_desc.specs.declared.block.FaceDesc.{FaceDesc}
use Rattle.cg_desc.specs.declared.block.FaceItems.{FaceItems}
use Rattle.cg_desc.specs.declared.block.BlockDesc.{BlockDesc}
use Rattle.cg_desc.specs.Gates.{is_gate, register_among}
use Rattle.cg_desc.specs.Items.{items_of_block}
use Rattle.cg_desc.specs.Offsets.{Ends}
use Rattle.cg_finding.specs.Finding.{Finding}
use Rattle.cg_finding.specs.Rules as rules

-- ---- offsets

abbrev pub end_limit : ℕ
end_limit = 2 ^ 24

-- the name of a register or a window, and none of a skip or a reservation
abbrev pub own_name : Item → List ℕ
own_name (Reg r) = r.name
own_name (Window w) = w.name
own_name (SkipTo to at) = []
own_name (Reserved words at) = []

abbrev pub place_of : Item → At
place_of (Reg r) = r.at
place_of (Window w) = w.at
place_of (SkipTo to at) = at
place_of (Reserved words at) = at

-- a skip leads to no word, or back
abbrev pub IsSkipBack : ℕ → Item → Type 0
IsSkipBack low (SkipTo to at) = (to % 4 ≢ 0) ⊎ (to < low)
IsSkipBack low item = ⊥

-- The first item, behind what ends at `low`, that skips back or ends past the limit. Nothing is looked for behind it.
pub data BreaksOffsets : ℕ → List Item → Finding → Type 0 where
  back : {low : ℕ} {item : Item} {items : List Item} → IsSkipBack low item
      → BreaksOffsets low (item ∷ items) (rules.skip_back (place_of item))
  past : {low end : ℕ} {item : Item} {items : List Item} → ¬ IsSkipBack low item → Ends low item end → end_limit < end
      → BreaksOffsets low (item ∷ items) (rules.past_the_end (place_of item) (own_name item))
  later : {low end : ℕ} {item : Item} {items : List Item} {f : Finding} → ¬ IsSkipBack low item → Ends low item end → end ≤ end_limit
      → BreaksOffsets end items f → BreaksOffsets low (item ∷ items) f

-- ---- all of them

abbrev pub is_row : Item → Bool
is_row (Reg r) = true
is_row (Window w) = true
is_row (SkipTo to at) = false
is_row (Reserved words at) = false

-- nothing of the interface can be reached
abbrev pub HasNoRow : List Item → Type 0
HasNoRow items = (item : Item) → Contains items item → is_row item ≡ false

abbrev pub name_or_empty : Option (List ℕ) → List ℕ
name_or_empty None = []
name_or_empty (Some name) = name

-- what one interface breaks
pub data BreaksIn (face : FaceDesc) (items : List Item) : Finding → Type 0 where
  no_row : HasNoRow items → BreaksIn face items (rules.no_items face.at (name_or_empty face.name))
  unknown_regwen : {name : List ℕ} (r : RegDesc) → Contains items (Reg r) → r.regwen ≡ Some name → register_among items name ≡ None
      → BreaksIn face items (rules.unknown_gate r.regwen_at name)
  bad_regwen : {name : List ℕ} (r gate : RegDesc) → Contains items (Reg r) → r.regwen ≡ Some name → register_among items name ≡ Some gate
      → is_gate gate ≡ false → BreaksIn face items (rules.bad_gate r.regwen_at name)
  offsets : {f : Finding} → BreaksOffsets 0 items f → BreaksIn face items f

-- what a block breaks of these rules
pub record Violates (b : BlockDesc) (f : Finding) : Type 0 where
  pub interface : FaceDesc × FaceItems
  pub among : Contains (zip b.faces (items_of_block b)) interface
  pub breaks : BreaksIn interface.0 interface.1.items f
