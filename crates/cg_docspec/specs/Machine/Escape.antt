-- Where in a quoted string the machine stands.
use Rattle.std.specs.Prelude.{ℕ, Option}

-- In no escape; behind a backslash; behind some digits of a unit, with their number and value, and the high surrogate
-- before it; behind a high surrogate; behind that and a backslash.
pub data Escape : Type 0 where
  none : Escape
  backslash : Escape
  unit : Option ℕ → ℕ → ℕ → Escape
  high : ℕ → Escape
  high_backslash : ℕ → Escape
