-- What the rows of a laid interface have: widths of fields, places of rows, and their number.
use Rattle.std.proofs.Common.{ℕ, suc, ◌+◌, ◌*◌, ◌/◌, ◌^◌, ◌<◌, ◌≤◌, List, [], ◌∷◌, length, arith}
use Rattle.cg_svspec.specs.Characters.{IsWord}
use Rattle.cg_svspec.specs.Printable.{IsWidth}
use Rattle.cg_desc.specs.BlockStep.{EachField}
use Rattle.cg_desc.specs.Laid.{FieldsFit, HasField, GateFits, RowFits, RowsFit}
use Rattle.cg_desc.specs.declared.block.FieldDesc.{FieldDesc}
use Rattle.cg_desc.specs.declared.block.RegDesc.{RegDesc}
use Rattle.cg_desc.specs.declared.block.WindowDesc.{WindowDesc}
use Rattle.cg_desc.specs.declared.block.Item.{Item}
use Rattle.cg_desc.specs.declared.block.Item.TheVariants.{Reg, Window, SkipTo, Reserved}
use Rattle.cg_desc.specs.declared.block.LaidRow.{LaidRow}
use Rattle.cg_regspec.specs.RegisterModule.{width_of, last_byte}

-- a field's name and bits, whatever stands below it
pub record FieldFits (f : FieldDesc) : Type 0 where
  pub word : IsWord f.name
  pub order : f.lsb ≤ f.msb
  pub low : f.msb < 32
  pub reset : f.resval < 2 ^ width_of f

-- each of the fields of a register
pub each_fits : (from : ℕ) (fs : List FieldDesc) → FieldsFit from fs → EachField FieldFits fs
each_fits from [] fit = tt
each_fits from (f ∷ fs) fit = (record { word = fit.0; order = fit.2; low = fit.3; reset = fit.4 }, each_fits (suc f.msb) fs fit.5)

-- fields that share no bit are at most 32
pub few_fields : (from : ℕ) (fs : List FieldDesc) → FieldsFit from fs → from ≤ 32 → from + length fs ≤ 32
few_fields from [] fit low = omega arith
few_fields from (f ∷ fs) fit low = omega (arith, fit.1, fit.2, few_fields (suc f.msb) fs fit.5 fit.3)

-- a field has 1 to 32 bits
pub field_some : (f : FieldDesc) → FieldFits f → 0 < width_of f
field_some f fit = omega (arith, fit.order)

-- and at most 32
pub field_narrow : (f : FieldDesc) → FieldFits f → width_of f ≤ 32
field_narrow f fit = omega (arith, fit.low)

-- which is a width
pub field_width : (f : FieldDesc) → FieldFits f → IsWidth (width_of f)
field_width f fit = (field_some f fit, omega (arith, field_narrow f fit))

-- the last byte that a write needs is one of four
pub last_low : (byte : ℕ) (fs : List FieldDesc) → byte < 4 → EachField FieldFits fs → last_byte byte fs < 4
last_low byte [] few fit = few
last_low byte (f ∷ fs) few fit = last_low (f.msb / 8) fs (omega (arith, fit.0.low)) fit.1

-- a register at its place
pub record RegisterOk (all : List LaidRow) (first : ℕ) (r : RegDesc) : Type 0 where
  pub word : IsWord r.name
  pub some : HasField r.fields
  pub fields : FieldsFit 0 r.fields
  pub each : EachField FieldFits r.fields
  pub gate : GateFits all r.regwen
  pub low : first < 2 ^ 24

-- a window at its place
pub record WindowOk (first : ℕ) (w : WindowDesc) : Type 0 where
  pub word : IsWord w.name
  pub some : 0 < w.items
  pub few : w.items ≤ 2 ^ 22
  pub low : first + 4 * w.items ≤ 2 ^ 24

-- an item at its place
abbrev pub ItemOk : List LaidRow → ℕ → Item → Type 0
ItemOk all first (Reg r) = RegisterOk all first r
ItemOk all first (Window w) = WindowOk first w
ItemOk all first (SkipTo to at) = ⊥
ItemOk all first (Reserved words at) = ⊥

-- all rows at their places
abbrev pub RowsOk : List LaidRow → List LaidRow → Type 0
RowsOk all [] = Unit {0}
RowsOk all (row ∷ rows) = ItemOk all row.first row.item × RowsOk all rows

-- a row by its item
item_ok : (all : List LaidRow) (first words : ℕ) (item : Item) → RowFits all (record { first = first; words = words; item = item }) → first + 4 * words ≤ 2 ^ 24 → ItemOk all first item
item_ok all first words (Reg r) fit low =
    record { word = fit.2.name; some = fit.2.some_field; fields = fit.2.fields; each = each_fits 0 r.fields fit.2.fields; gate = fit.2.gate; low = omega (arith, fit.0) }
item_ok all first words (Window w) fit low = record { word = fit.1.name; some = fit.1.some_item; few = fit.1.few_items; low = omega (arith, fit.0) }
item_ok all first words (SkipTo to at) fit low = absurd fit
item_ok all first words (Reserved spare at) fit low = absurd fit

-- a row takes a word at least
some_words : (all : List LaidRow) (first words : ℕ) (item : Item) → RowFits all (record { first = first; words = words; item = item }) → 0 < words
some_words all first words (Reg r) fit = omega (arith, fit.0)
some_words all first words (Window w) fit = omega (arith, fit.0, fit.1.some_item)
some_words all first words (SkipTo to at) fit = absurd fit
some_words all first words (Reserved spare at) fit = absurd fit

-- the rows, a word each at least, are below 2^24 bytes
pub rows_few : (all : List LaidRow) (low : ℕ) (rows : List LaidRow) → RowsFit all low rows → low + 4 * length rows ≤ 2 ^ 24
rows_few all low [] fit = omega arith
rows_few all low (row ∷ rows) fit =
    omega (arith, fit.0, some_words all row.first row.words row.item fit.1, rows_few all (row.first + 4 * row.words) rows fit.2)

-- the rows of a laid interface are so
pub rows_ok : (all : List LaidRow) (low : ℕ) (rows : List LaidRow) → RowsFit all low rows → RowsOk all rows
rows_ok all low [] fit = tt
rows_ok all low (row ∷ rows) fit =
    let more = rows_few all (row.first + 4 * row.words) rows fit.2 in
    (item_ok all row.first row.words row.item fit.1 (omega (arith, more)), rows_ok all (row.first + 4 * row.words) rows fit.2)
