-- Where the items of an interface stand: each at the least offset that its alignment allows behind what precedes it.
use Rattle.std.specs.Prelude.{ℕ, ◌+◌, ◌*◌, max, List, [], ◌∷◌}
use Rattle.std.specs.Int.{IsNextPowerOfTwo}
use Rattle.cg_base.specs.Arithmetic.{IsLeastMultiple}
use Rattle.cg_desc.specs.declared.place.At.{At}
use Rattle.cg_desc.specs.declared.block.RegDesc.{RegDesc}
use Rattle.cg_desc.specs.declared.block.WindowDesc.{WindowDesc}
use Rattle.cg_desc.specs.declared.block.Item.{Item}
use Rattle.cg_desc.specs.declared.block.Item.TheVariants.{Reg, Window, SkipTo, Reserved}
use Rattle.cg_desc.specs.declared.block.LaidRow.{LaidRow}
use Rattle.cg_desc.specs.declared.block.LaidFace.{LaidFace}

-- The bytes that a row takes, of which its offset is a multiple: 4 for a register, and for a window the least power of two that
-- its words fit in.
pub data IsSpan : Item → ℕ → Type 0 where
  register : {r : RegDesc} → IsSpan (Reg r) 4
  window : {w : WindowDesc} {bytes : ℕ} → IsNextPowerOfTwo (4 * w.items) bytes → IsSpan (Window w) bytes

-- the words of a row that are there: past a window's items nothing is mapped
abbrev pub words_of : Item → ℕ
words_of (Reg r) = 1
words_of (Window w) = w.items
words_of (SkipTo to at) = 0
words_of (Reserved words at) = 0

-- An item behind what ends at `low`, and where it ends itself. A row begins at the least multiple of its span; a skip sets the end;
-- a reservation adds its words.
pub data Ends (low : ℕ) : Item → ℕ → Type 0 where
  row : {item : Item} {span first : ℕ} → IsSpan item span → IsLeastMultiple span low first → Ends low item (first + span)
  skip : {to : ℕ} {at : At} → Ends low (SkipTo to at) to
  reserved : {words : ℕ} {at : At} → Ends low (Reserved words at) (low + 4 * words)

-- The rows of items behind what ends at `low`, where the last row so far ends at `top`; and where the last row of all ends.
pub data HasRows : (low top : ℕ) → List Item → List LaidRow → ℕ → Type 0 where
  none : {low top : ℕ} → HasRows low top [] [] top
  row : {low top span first end : ℕ} {item : Item} {items : List Item} {rows : List LaidRow}
      → IsSpan item span → IsLeastMultiple span low first → HasRows (first + span) (first + span) items rows end
      → HasRows low top (item ∷ items) (record { first = first; words = words_of item; item = item } ∷ rows) end
  skip : {low top to end : ℕ} {at : At} {items : List Item} {rows : List LaidRow}
      → HasRows to top items rows end → HasRows low top (SkipTo to at ∷ items) rows end
  reserved : {low top words end : ℕ} {at : At} {items : List Item} {rows : List LaidRow}
      → HasRows (low + 4 * words) top items rows end → HasRows low top (Reserved words at ∷ items) rows end

-- An interface of these items: its rows from offset 0 on, and a size that is the least power of two that they and one word fit in.
pub record IsLaidOut (items : List Item) (face : LaidFace) : Type 0 where
  pub end : ℕ
  pub rows : HasRows 0 0 items face.rows end
  pub size : IsNextPowerOfTwo (max end 4) face.size
