-- What the machine is reading.
use Rattle.std.specs.Prelude.{ℕ, Bool, List}
use Rattle.cg_docspec.specs.Place.{Place}
use Rattle.cg_docspec.specs.Machine.Awaited.{Awaited}
use Rattle.cg_docspec.specs.Machine.Escape.{Escape}
use Rattle.cg_docspec.specs.Machine.Spot.{Spot}

-- what is being read, with what was read of it so far
pub data Now : Type 0 where
  -- a gap, and the same behind a carriage return, and a comment up to the line's end
  gap : Awaited → Now
  gap_return : Awaited → Now
  comment : Awaited → Now
  -- behind a slash, which stands there and may begin a comment
  slash : Awaited → Place → Now
  -- a comment up to */: whether a star stands before; and behind a carriage return
  block : Awaited → Bool → Now
  block_return : Awaited → Now
  -- a key without quotes, and its place
  key : List ℕ → Place → Now
  -- a literal or an unquoted string: its text, the blanks behind it, whether it may still be a literal, its place
  plain : List ℕ → List ℕ → Bool → Place → Now
  plain_return : List ℕ → Place → Now
  plain_slash : List ℕ → List ℕ → Place → Now
  -- a quoted string: whether it is a key, its quote, its text, its place
  quoted : Bool → ℕ → List ℕ → Place → Escape → Now
  -- behind the two single quotes of a value
  two_quotes : Place → Now
  -- a multi-line string: its text, whether a line end follows it, the characters before it on its line, its place
  lines : List ℕ → Bool → ℕ → Spot → Place → Now
