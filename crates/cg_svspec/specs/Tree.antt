-- The trees of the subset of SystemVerilog, as mathematics: no memory, no limits. Names are lists of bytes.
use Rattle.std.specs.Prelude.{ℕ, List, [], ◌∷◌, Bool}

mutual
  -- an expression (IEEE 1800-2017, clause 11)
  pub data Expression : Type 0 where
    -- a net, all its bits
    net : List ℕ → Expression
    -- bits msb down to lsb of a net
    cut : List ℕ → ℕ → ℕ → Expression
    -- a literal: its width and its value
    lit : ℕ → ℕ → Expression
    -- a concatenation, the high part first
    cat : Expressions → Expression
    -- each bit turned
    inv : Expression → Expression
    -- the or of all bits
    any : Expression → Expression
    and : Expression → Expression → Expression
    or : Expression → Expression → Expression
    equal : Expression → Expression → Expression
    -- a condition, and the values where it is 1 and where it is 0
    pick : Expression → Expression → Expression → Expression

  -- a list of expressions, as a type of its own, so that definitions go down it by cases
  pub data Expressions : Type 0 where
    none : Expressions
    more : Expression → Expressions → Expressions

-- a port of a module; width 1 has no range
pub record Port : Type 0 where
  pub input : Bool
  pub width : ℕ
  pub name : List ℕ

-- a parameter of an instance; its value is a literal, of width 0 where it is a plain number
pub record Parameter : Type 0 where
  pub name : List ℕ
  pub value : Expression

-- a connection of an instance
pub record Connection : Type 0 where
  pub name : List ℕ
  pub value : Expression

-- an entry of a module
pub data Entry : Type 0 where
  -- a wire: its width and name
  wire : ℕ → List ℕ → Entry
  -- a wire with its own expression
  drive : ℕ → List ℕ → Expression → Entry
  -- the assignment of a net
  assign : List ℕ → Expression → Entry
  -- an instance: its module, parameters, name and connections
  inst : List ℕ → List Parameter → List ℕ → List Connection → Entry

pub record Module : Type 0 where
  pub name : List ℕ
  pub ports : List Port
  pub entries : List Entry

-- the list as expressions
abbrev pub expressions : List Expression → Expressions
expressions [] = none
expressions (x ∷ xs) = more x (expressions xs)
