-- What the items of a block break: names that come twice, and counts that are too large.
use Rattle.std.specs.Prelude.{◌≡◌, ℕ, ◌<◌, ◌⊎◌, Bool, true, false, List, ◌∷◌, ◌++◌, length, sum_by, Contains, Option, Some, None}
use Rattle.std.specs.List.{list_any}
use Rattle.std.specs.Option.{option_map_or}
use Rattle.std.specs.Str.{str_eq_ignore_ascii_case}
use Rattle.cg_desc.specs.declared.place.At.{At}
use Rattle.cg_desc.specs.declared.block.FieldDesc.{FieldDesc}
use Rattle.cg_desc.specs.declared.block.RegDesc.{RegDesc}
use Rattle.cg_desc.specs.declared.block.Item.{Item}
use Rattle.cg_desc.specs.declared.block.Item.TheVariants.{Reg, Window, SkipTo, Reserved}
use Rattle.cg_desc.specs.declared.block.FaceItems.{FaceItems}
use Rattle.cg_desc.specs.declared.block.BlockDesc.{BlockDesc}
use Rattle.cg_desc.specs.Items.{items_of_block}
use Rattle.cg_finding.specs.Finding.{Finding}
use Rattle.cg_finding.specs.Rules as rules

-- ---- names

pub record Named : Type 0 where
  pub name : List ℕ
  pub at : At

-- the name of a register or a window, and where it stands
abbrev pub name_of : Item → Option Named
name_of (Reg r) = Some (record { name = r.name; at = r.at })
name_of (Window w) = Some (record { name = w.name; at = w.at })
name_of (SkipTo to at) = None
name_of (Reserved words at) = None

-- names are the same without regard to case
abbrev pub has_name : List ℕ → Item → Bool
has_name name item = option_map_or (λ n. str_eq_ignore_ascii_case n.name name) (name_of item) false

-- an item has the name of an earlier one
pub record ItemNameTwice (items : List Item) (f : Finding) : Type 0 where
  pub before : List Item
  pub item : Item
  pub after : List Item
  pub stands : items ≡ before ++ (item ∷ after)
  pub name : Named
  pub is_name : name_of item ≡ Some name
  pub twice : list_any (has_name name.name) before ≡ true
  pub says : f ≡ rules.name_twice name.at name.name

-- a field has the name of one of its register that stands earlier in the file
pub record FieldNameTwice (items : List Item) (f : Finding) : Type 0 where
  pub register : RegDesc
  pub among : Contains items (Reg register)
  pub field : FieldDesc
  pub is_field : Contains register.fields field
  pub earlier : FieldDesc
  pub is_earlier : Contains register.fields earlier
  pub before : earlier.at.byte < field.at.byte
  pub alike : str_eq_ignore_ascii_case earlier.name field.name ≡ true
  pub says : f ≡ rules.name_twice field.at field.name

-- ---- counts

abbrev pub rows_in : Item → ℕ
rows_in (Reg r) = 1
rows_in (Window w) = 1
rows_in (SkipTo to at) = 0
rows_in (Reserved words at) = 0

abbrev pub fields_in : Item → ℕ
fields_in (Reg r) = length r.fields
fields_in (Window w) = 0
fields_in (SkipTo to at) = 0
fields_in (Reserved words at) = 0

-- registers and windows, and fields, of all interfaces
unfoldable pub row_count : List FaceItems → ℕ
row_count faces = sum_by (λ face. sum_by rows_in face.items) faces

unfoldable pub field_count : List FaceItems → ℕ
field_count faces = sum_by (λ face. sum_by fields_in face.items) faces

abbrev pub HasTooMany : List FaceItems → Type 0
HasTooMany faces = (2048 < row_count faces) ⊎ (4096 < field_count faces)

-- the bits of all interrupts
unfoldable pub interrupt_bits : BlockDesc → ℕ
interrupt_bits b = sum_by (λ i. i.width) b.intrs

-- ---- all of them

-- what a block breaks of these rules
pub data Violates (b : BlockDesc) : Finding → Type 0 where
  item_name_twice : {f : Finding} (face : FaceItems) → Contains (items_of_block b) face → ItemNameTwice face.items f → Violates b f
  field_name_twice : {f : Finding} (face : FaceItems) → Contains (items_of_block b) face → FieldNameTwice face.items f → Violates b f
  too_many : HasTooMany (items_of_block b) → Violates b (rules.too_many b.at)
  interrupts : 32 < interrupt_bits b → Violates b (rules.too_many_interrupt_bits b.intrs_at)
  alerts : 32 < length b.alerts → Violates b (rules.too_many_interrupt_bits b.alerts_at)
