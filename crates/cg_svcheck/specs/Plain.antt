-- What a plain expression says.
use Rattle.std.specs.Prelude.{ℕ, List, Option, Some, None}
use Rattle.cg_svspec.specs.Tree.{Expression, net, lit}

-- the literal's width and value
pub record Literal : Type 0 where
  pub width : ℕ
  pub value : ℕ

-- a literal with these
abbrev pub literal : ℕ → ℕ → Literal
literal w v = record { width = w; value = v }

-- the expression as a literal, if it is one
abbrev pub literal_of : Expression → Option Literal
literal_of (lit w v) = Some (literal w v)
literal_of x = None

-- its net, if it is a bare one
abbrev pub net_of : Expression → Option (List ℕ)
net_of (net n) = Some n
net_of x = None

-- the literal at a parameter, if there is one
abbrev pub literal_in : Option Expression → Option Literal
literal_in None = None
literal_in (Some x) = literal_of x
