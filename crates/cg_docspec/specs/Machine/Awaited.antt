-- What may come next, behind a gap.
use Rattle.std.specs.Prelude.{Bool}

-- The document's object; an item of what is open, or what closes it, maybe behind a comma; the colon behind a key; a
-- value; the text's end.
pub data Awaited : Type 0 where
  root : Awaited
  item : Bool → Awaited
  colon : Awaited
  value : Awaited
  end : Awaited
