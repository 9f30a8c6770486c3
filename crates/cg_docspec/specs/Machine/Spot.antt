-- Where in a multi-line string the machine stands.
use Rattle.std.specs.Prelude.{ℕ}

-- On the opening's line, before any text; behind its carriage return; at a line's begin, where so many blanks may still
-- be dropped; in a line; behind so many quotes; behind those and a carriage return.
pub data Spot : Type 0 where
  opening : Spot
  opening_return : Spot
  indent : ℕ → Spot
  inside : Spot
  quotes : ℕ → Spot
  line_return : ℕ → Spot
