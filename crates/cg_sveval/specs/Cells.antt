-- The values of a register module's states, inputs and outputs, as cells.
use Rattle.std.specs.Prelude.{◌≡◌, ◌<◌, ◌^◌, List, [], ◌∷◌, map, cond, codes, Option, Some}
use Rattle.std.specs.Str.{bytes_eq}
use Rattle.cg_svspec.specs.Bits.{bits}
use Rattle.cg_svspec.specs.Names.{Among, Differ}
use Rattle.cg_svspec.specs.Tree.{Expression, net, lit, Port, Entry, wire, drive, assign, inst}
use Rattle.cg_svspec.specs.Value.{Values, parameter_at, connection_at, flop_name}
use Rattle.cg_svspec.specs.WellFormed.{Net, stated}
use Rattle.cg_sveval.specs.declared.Cell.{Cell}

-- the inputs, in port order
abbrev pub input_nets : List Port → List Net
input_nets [] = []
input_nets (p ∷ ps) = cond p.input (stated p.name p.width ∷ input_nets ps) (input_nets ps)

-- the outputs, in port order
abbrev pub output_nets : List Port → List Net
output_nets [] = []
output_nets (p ∷ ps) = cond p.input (output_nets ps) (stated p.name p.width ∷ output_nets ps)

-- the net at `q_o` of a flip-flop, with the `Width`, and then later ones
abbrev pub state_of : Option Expression → Option Expression → List Net → List Net
state_of (Some (lit z w)) (Some (net q)) later = stated q w ∷ later
state_of _ _ later = later

-- the states, in entry order
abbrev pub state_nets : List Entry → List Net
state_nets [] = []
state_nets (wire w n ∷ es) = state_nets es
state_nets (drive w n x ∷ es) = state_nets es
state_nets (assign n x ∷ es) = state_nets es
state_nets (inst m ps n cs ∷ es) =
    cond (bytes_eq m flop_name) (state_of (parameter_at (codes "Width") ps) (connection_at (codes "q_o") cs) (state_nets es)) (state_nets es)

-- the cell is of the net, within its width
abbrev pub IsCellOf : Cell → Net → Type 0
IsCellOf c n = (c.name ≡ n.name) × (c.value < 2 ^ n.width)

-- a cell for each net, in this order
abbrev pub InOrder : List Net → List Cell → Type 0
InOrder [] [] = Unit {0}
InOrder [] (c ∷ cs) = ⊥
InOrder (n ∷ ns) [] = ⊥
InOrder (n ∷ ns) (c ∷ cs) = IsCellOf c n × InOrder ns cs

-- just these nets, each once, in any order
pub record AreCells (nets : List Net) (cells : List Cell) : Type 0 where
  pub differ : Differ (map (λ c. c.name) cells)
  pub each_is : (c : Cell) → Among c cells → (n : Net) × Among n nets × IsCellOf c n
  pub all : (n : Net) → Among n nets → (c : Cell) × Among c cells × IsCellOf c n

-- the nets have the values of the cells of their names
abbrev pub HasCells : Values → List Net → List Cell → Type 0
HasCells values nets cells = (n : Net) (c : Cell) → Among n nets → Among c cells → c.name ≡ n.name → values n.name ≡ bits n.width c.value
