-- The value of an expression, and a valuation of a module: one equation for each driver, in no order.
use Rattle.std.specs.Prelude.{◌≡◌, ℕ, suc, not, ◌&&◌, ◌||◌, List, [], ◌∷◌, ◌++◌, map, take, drop, ◌-◌, codes, length, Option, Some, None, cond}
use Rattle.std.specs.Str.{bytes_eq}
use Rattle.cg_svspec.specs.Bits.{Bits, bits, zipped, any_bit, same_bits, chosen}
use Rattle.cg_svspec.specs.Printable.{AllOf}
use Rattle.cg_svspec.specs.Tree.{Expression, net, cut, lit, cat, inv, any, and, or, equal, pick, Expressions, none, more, Port, Parameter, Connection, Entry, wire, drive, assign, inst, Module}

-- a value for each name
abbrev pub Values : Type 0
Values = List ℕ → Bits

abbrev mutual
  pub eval : Values → Expression → Bits
  eval v (net n) = v n
  -- bits l to m
  eval v (cut n m l) = take (suc m - l) (drop l (v n))
  eval v (lit w k) = bits w k
  eval v (cat xs) = eval_parts v xs
  eval v (inv x) = map not (eval v x)
  eval v (any x) = any_bit (eval v x) ∷ []
  eval v (and x y) = zipped ◌&&◌ (eval v x) (eval v y)
  eval v (or x y) = zipped ◌||◌ (eval v x) (eval v y)
  eval v (equal x y) = same_bits (eval v x) (eval v y) ∷ []
  eval v (pick c x y) = chosen (eval v c) (eval v x) (eval v y)

  -- the first part has the high bits
  pub eval_parts : Values → Expressions → Bits
  eval_parts v none = []
  eval_parts v (more x xs) = eval_parts v xs ++ eval v x

-- the value of the first connection, or parameter, with the name
abbrev pub connection_at : List ℕ → List Connection → Option Expression
connection_at n [] = None
connection_at n (c ∷ cs) = cond (bytes_eq c.name n) (Some c.value) (connection_at n cs)

abbrev pub parameter_at : List ℕ → List Parameter → Option Expression
parameter_at n [] = None
parameter_at n (p ∷ ps) = cond (bytes_eq p.name n) (Some p.value) (parameter_at n ps)

-- the flip-flop, whose nets at `q_o` are the states of a module
abbrev pub flop_name : List ℕ
flop_name = codes "prim_flop"

-- the net at `q_o` has the state of its name, whose next value is the value at `d_i`
abbrev pub FlopHolds : Values → Values → Values → Option Expression → Option Expression → Type 0
FlopHolds v state next (Some d) (Some (net q)) = (v q ≡ state q) × (next q ≡ eval v d)
FlopHolds v state next _ _ = Unit {0}

-- what an entry says of the nets' values, the states and the next states
abbrev pub Holds : Values → Values → Values → Entry → Type 0
Holds v state next (wire w n) = Unit {0}
Holds v state next (drive w n x) = v n ≡ eval v x
Holds v state next (assign n x) = v n ≡ eval v x
Holds v state next (inst m ps n cs) =
    cond (bytes_eq m flop_name) (FlopHolds v state next (connection_at (codes "d_i") cs) (connection_at (codes "q_o") cs)) (Unit {0})

abbrev pub AllHold : Values → Values → Values → List Entry → Type 0
AllHold v state next [] = Unit {0}
AllHold v state next (e ∷ es) = Holds v state next e × AllHold v state next es

-- an input port has the value that is given for its name
abbrev pub InputHolds : Values → Values → Port → Type 0
InputHolds v inputs p = cond p.input (v p.name ≡ inputs p.name) (Unit {0})

-- The values of a module's nets in one clock, and the states after it, for these inputs and states.
pub record Valuation (m : Module) (inputs state v next : Values) : Type 0 where
  pub inputs_hold : AllOf (InputHolds v inputs) m.ports
  pub entries_hold : AllHold v state next m.entries

-- at reset a state is its `ResetValue`
abbrev pub ResetHolds : Values → Option Expression → Option Expression → Type 0
ResetHolds state (Some (lit w k)) (Some (net q)) = state q ≡ bits w k
ResetHolds state _ _ = Unit {0}

abbrev pub IsResetIn : Values → Entry → Type 0
IsResetIn state (inst m ps n cs) =
    cond (bytes_eq m flop_name) (ResetHolds state (parameter_at (codes "ResetValue") ps) (connection_at (codes "q_o") cs)) (Unit {0})
IsResetIn state _ = Unit {0}

-- these are the states at reset
abbrev pub IsReset : Module → Values → Type 0
IsReset m state = AllOf (IsResetIn state) m.entries

-- a state has its width
abbrev pub StateFits : Values → Option Expression → Option Expression → Type 0
StateFits state (Some (lit z w)) (Some (net q)) = length (state q) ≡ w
StateFits state _ _ = Unit {0}

abbrev pub StateFitsIn : Values → Entry → Type 0
StateFitsIn state (inst m ps n cs) =
    cond (bytes_eq m flop_name) (StateFits state (parameter_at (codes "Width") ps) (connection_at (codes "q_o") cs)) (Unit {0})
StateFitsIn state _ = Unit {0}

abbrev pub InputFits : Values → Port → Type 0
InputFits inputs p = cond p.input (length (inputs p.name) ≡ p.width) (Unit {0})

-- the inputs have their widths
abbrev pub InputsFit : Module → Values → Type 0
InputsFit m inputs = AllOf (InputFits inputs) m.ports

-- the states have theirs
abbrev pub StatesFit : Module → Values → Type 0
StatesFit m state = AllOf (StateFitsIn state) m.entries

-- the outputs have theirs, in a valuation
abbrev pub OutputFits : Values → Port → Type 0
OutputFits v p = cond p.input (Unit {0}) (length (v p.name) ≡ p.width)

abbrev pub OutputsFit : Module → Values → Type 0
OutputsFit m v = AllOf (OutputFits v) m.ports

-- inputs and states have
pub record HasWidths (m : Module) (inputs state : Values) : Type 0 where
  pub inputs_fit : InputsFit m inputs
  pub states_fit : StatesFit m state

-- what comes of a clock: the values of the nets, and the states after it
pub record Clocked : Type 0 where
  pub nets : Values
  pub after : Values

-- A run of a module from these states over the inputs of each clock, with what comes of each. A clock goes on from the states that
-- the one before left.
pub data ModuleRun (m : Module) : Values → List Values → List Clocked → Type 0 where
  stops : (state : Values) → ModuleRun m state [] []
  goes_on : (state inputs : Values) (c : Clocked) (later : List Values) (cs : List Clocked) → Valuation m inputs state c.nets c.after → ModuleRun m c.after later cs
      → ModuleRun m state (inputs ∷ later) (c ∷ cs)
