-- Where an item begins and ends.
use Rattle.std.specs.Prelude.{ℕ, ◌+◌, ◌*◌}
use Rattle.cg_base.specs.Arithmetic.{IsLeastMultiple}
use Rattle.cg_desc.specs.declared.place.At.{At}
use Rattle.cg_desc.specs.declared.block.Item.{Item}
use Rattle.cg_desc.specs.declared.block.Item.TheVariants.{SkipTo, Reserved}
use Rattle.cg_desc.specs.Offsets.{IsSpan}

-- An item behind what ends at `low`: where it begins, and where it ends. A skip begins where it leads.
pub data Extends (low : ℕ) : Item → ℕ → ℕ → Type 0 where
  row : {item : Item} {span first : ℕ} → IsSpan item span → IsLeastMultiple span low first → Extends low item first (first + span)
  skip : {to : ℕ} {at : At} → Extends low (SkipTo to at) to to
  reserved : {words : ℕ} {at : At} → Extends low (Reserved words at) low (low + 4 * words)
