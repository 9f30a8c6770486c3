-- What a clock does to a table of values: the nets with an expression are put in, in the order of the entries.
use Rattle.std.specs.Prelude.{◌≡◌, ℕ, ◌%◌, ◌^◌, List, [], ◌∷◌, cond, Option, Some, None, codes}
use Rattle.std.specs.Str.{bytes_eq}
use Rattle.cg_svspec.specs.Bits.{Bits, bits}
use Rattle.cg_svspec.specs.Tree.{Expression, net, lit, Parameter, Connection, Port, Entry, wire, drive, assign, inst}
use Rattle.cg_svspec.specs.Value.{Values, eval, parameter_at, connection_at}
use Rattle.cg_sveval.specs.Numbers.{number_of}
use Rattle.cg_sveval.specs.declared.Cell.{Cell}

-- the same values for each name
abbrev pub Same : Values → Values → Type 0
Same a b = (n : List ℕ) → a n ≡ b n

-- the values, but for one name
abbrev pub with_value : List ℕ → Bits → Values → Values
with_value name value table n = cond (bytes_eq name n) value (table n)

-- the values after a change for each of these, one after the other
abbrev pub folded : {X : Type 0} → (X → Values → Values) → Values → List X → Values
folded f table [] = table
folded f table (x ∷ xs) = folded f (f x table) xs

-- the values with that of the net that has an expression here, found from the earlier ones
abbrev pub with_entry : Entry → Values → Values
with_entry (wire w n) table = table
with_entry (drive w n x) table = with_value n (eval table x) table
with_entry (assign n x) table = with_value n (eval table x) table
with_entry (inst m ps k cs) table = table

-- the values with those of all such nets, in entry order
abbrev pub settled : Values → List Entry → Values
settled = folded with_entry

-- the value of the first cell of the name, or 0
abbrev pub cell_value : List Cell → List ℕ → ℕ
cell_value [] name = 0
cell_value (c ∷ cs) name = cond (bytes_eq c.name name) c.value (cell_value cs name)

-- the values with that of the input
abbrev pub with_input : List Cell → Port → Values → Values
with_input cells p table = cond p.input (with_value p.name (bits p.width (cell_value cells p.name)) table) table

-- the values with those of the inputs
abbrev pub with_inputs : List Cell → Values → List Port → Values
with_inputs cells = folded (with_input cells)

-- the number of a literal, or 0
abbrev pub number_in : Option Expression → ℕ
number_in (Some (lit w k)) = k
number_in _ = 0

-- the name of the net, or none
abbrev pub net_in : Option Expression → List ℕ
net_in (Some (net q)) = q
net_in _ = []

-- the values with that of the state of a flip-flop
abbrev pub with_state : List Cell → List Parameter → List Connection → Values → Values
with_state cells ps cs table =
    with_value (net_in (connection_at (codes "q_o") cs))
    (bits (number_in (parameter_at (codes "Width") ps) % 2 ^ 32) (cell_value cells (net_in (connection_at (codes "q_o") cs)))) table

abbrev pub with_state_of : List Cell → Entry → Values → Values
with_state_of cells (wire w n) table = table
with_state_of cells (drive w n x) table = table
with_state_of cells (assign n x) table = table
with_state_of cells (inst m ps k cs) table = with_state cells ps cs table

-- the values with those of the states
abbrev pub with_states : List Cell → Values → List Entry → Values
with_states cells = folded (with_state_of cells)

-- the value of an expression, or no bits
abbrev pub eval_in : Values → Option Expression → Bits
eval_in table None = []
eval_in table (Some x) = eval table x

abbrev pub cell : List ℕ → ℕ → Cell
cell n v = record { name = n; value = v }

-- the state of a flip-flop after a clock
abbrev pub next_cell : Values → List Connection → Cell
next_cell table cs = cell (net_in (connection_at (codes "q_o") cs)) (number_of 32 (eval_in table (connection_at (codes "d_i") cs)))

-- the states after a clock, in entry order: each is the value at `d_i`
abbrev pub next_cells : Values → List Entry → List Cell
next_cells table [] = []
next_cells table (wire w n ∷ es) = next_cells table es
next_cells table (drive w n x ∷ es) = next_cells table es
next_cells table (assign n x ∷ es) = next_cells table es
next_cells table (inst m ps k cs ∷ es) = next_cell table cs ∷ next_cells table es

-- the outputs, in port order
abbrev pub output_cells : Values → List Port → List Cell
output_cells table [] = []
output_cells table (p ∷ ps) = cond p.input (output_cells table ps) (cell p.name (number_of 32 (table p.name)) ∷ output_cells table ps)

-- the state of a flip-flop at reset
abbrev pub reset_cell : Values → List Parameter → List Connection → Cell
reset_cell table ps cs = cell (net_in (connection_at (codes "q_o") cs)) (number_of 32 (eval_in table (parameter_at (codes "ResetValue") ps)))

-- the states at reset, in entry order
abbrev pub reset_cells : Values → List Entry → List Cell
reset_cells table [] = []
reset_cells table (wire w n ∷ es) = reset_cells table es
reset_cells table (drive w n x ∷ es) = reset_cells table es
reset_cells table (assign n x ∷ es) = reset_cells table es
reset_cells table (inst m ps k cs ∷ es) = reset_cell table ps cs ∷ reset_cells table es
