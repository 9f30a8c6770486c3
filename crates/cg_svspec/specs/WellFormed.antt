-- Well-formed modules (IEEE 1800-2017, clauses 6.10, 10.3, 11.6 and 23.3, for the subset).
use Rattle.std.specs.Prelude.{◌≡◌, ℕ, suc, ◌+◌, ◌-◌, ◌*◌, ◌^◌, ◌<◌, ◌≤◌, ◌⊎◌, Bool, false, not, ◌&&◌, ◌||◌, cond, List, [], ◌∷◌, ◌++◌, length, codes, Option, Some, None, nat_eq}
use Rattle.std.specs.List.{starts_with}
use Rattle.std.specs.Str.{bytes_eq}
use Rattle.cg_svspec.specs.Tree.{Expression, net, cut, lit, cat, inv, any, and, or, equal, pick, Expressions, none, more, Port, Parameter, Connection, Entry, wire, drive, assign, inst, Module}
use Rattle.cg_svspec.specs.Names.{Among, Differ, is_among, module_names}
use Rattle.cg_svspec.specs.Printable.{IsPrintable, AllOf}
use Rattle.cg_svspec.specs.Value.{Values, Valuation, connection_at, parameter_at, flop_name}

-- ---- nets and widths

-- a net and its width
pub record Net : Type 0 where
  pub name : List ℕ
  pub width : ℕ

-- the net is declared with this width
abbrev pub Declares : List Net → List ℕ → ℕ → Type 0
Declares [] n w = ⊥
Declares (x ∷ xs) n w = ((x.name ≡ n) × (x.width ≡ w)) ⊎ Declares xs n w

abbrev mutual
  -- The expression uses only declared nets, and its width is w. A cut has width > m >= l and is on a net of more than one bit.
  -- Both sides of &, |, == and : have one width, and a condition has width 1. A net has at most 2^16 bits, so only a
  -- concatenation could reach 2^32, which no width may.
  pub HasWidth : List Net → Expression → ℕ → Type 0
  HasWidth nets (net n) w = Declares nets n w
  HasWidth nets (cut n m l) w = (u : ℕ) × Declares nets n u × (1 < u) × (m < u) × (l ≤ m) × (w ≡ suc m - l)
  HasWidth nets (lit k v) w = w ≡ k
  HasWidth nets (cat xs) w = (w < 2 ^ 32) × PartsHaveWidth nets xs w
  HasWidth nets (inv x) w = HasWidth nets x w
  HasWidth nets (any x) w = (w ≡ 1) × ((u : ℕ) × HasWidth nets x u)
  HasWidth nets (and x y) w = HasWidth nets x w × HasWidth nets y w
  HasWidth nets (or x y) w = HasWidth nets x w × HasWidth nets y w
  HasWidth nets (equal x y) w = (w ≡ 1) × ((u : ℕ) × HasWidth nets x u × HasWidth nets y u)
  HasWidth nets (pick c x y) w = HasWidth nets c 1 × HasWidth nets x w × HasWidth nets y w

  -- the parts' widths add up to w
  pub PartsHaveWidth : List Net → Expressions → ℕ → Type 0
  PartsHaveWidth nets none w = w ≡ 0
  PartsHaveWidth nets (more x xs) w = (a : ℕ) × (b : ℕ) × HasWidth nets x a × PartsHaveWidth nets xs b × (w ≡ a + b)

abbrev mutual
  -- the expression uses only such nets
  pub Uses : List (List ℕ) → Expression → Type 0
  Uses known (net n) = Among n known
  Uses known (cut n m l) = Among n known
  Uses known (lit w v) = Unit {0}
  Uses known (cat xs) = UsesAll known xs
  Uses known (inv x) = Uses known x
  Uses known (any x) = Uses known x
  Uses known (and x y) = Uses known x × Uses known y
  Uses known (or x y) = Uses known x × Uses known y
  Uses known (equal x y) = Uses known x × Uses known y
  Uses known (pick c x y) = Uses known c × Uses known x × Uses known y

  pub UsesAll : List (List ℕ) → Expressions → Type 0
  UsesAll known none = Unit {0}
  UsesAll known (more x xs) = Uses known x × UsesAll known xs

-- ---- the known parts

-- a port of a part: its name and width
abbrev pub stated : List ℕ → ℕ → Net
stated n w = record { name = n; width = w }

-- prim_flop of a width
abbrev pub flop_ports : ℕ → List Net
flop_ports w = stated (codes "clk_i") 1 ∷ stated (codes "rst_ni") 1 ∷ stated (codes "d_i") w ∷ stated (codes "q_o") w ∷ []

-- tlul_socket_1n with n outputs: a request has 70 bits and a response 33
abbrev pub split_ports : ℕ → List Net
split_ports n =
    stated (codes "clk_i") 1 ∷ stated (codes "sel_i") 8 ∷ stated (codes "req_i") 70 ∷ stated (codes "rsp_o") 33
    ∷ stated (codes "req_o") (70 * n) ∷ stated (codes "rsp_i") (33 * n) ∷ []

-- tlul_socket_m1 with m inputs
abbrev pub join_ports : ℕ → List Net
join_ports m =
    stated (codes "clk_i") 1 ∷ stated (codes "req_i") (70 * m) ∷ stated (codes "rsp_o") (33 * m)
    ∷ stated (codes "req_o") 70 ∷ stated (codes "rsp_i") 33 ∷ []

-- tlul_fifo_async
abbrev pub fifo_ports : List Net
fifo_ports =
    stated (codes "clk_h_i") 1 ∷ stated (codes "clk_d_i") 1 ∷ stated (codes "req_i") 70 ∷ stated (codes "rsp_o") 33
    ∷ stated (codes "req_o") 70 ∷ stated (codes "rsp_i") 33 ∷ []

abbrev pub split_name : List ℕ
split_name = codes "tlul_socket_1n"

abbrev pub join_name : List ℕ
join_name = codes "tlul_socket_m1"

abbrev pub fifo_name : List ℕ
fifo_name = codes "tlul_fifo_async"

abbrev pub is_part : List ℕ → Bool
is_part m = bytes_eq m flop_name || (bytes_eq m split_name || (bytes_eq m join_name || bytes_eq m fifo_name))

-- the names of the connections
abbrev pub connection_names : List Connection → List (List ℕ)
connection_names [] = []
connection_names (c ∷ cs) = c.name ∷ connection_names cs

-- the expression at a connection, if there is one, has this width
abbrev pub IsOfWidth : List Net → ℕ → Option Expression → Type 0
IsOfWidth nets w None = ⊥
IsOfWidth nets w (Some x) = HasWidth nets x w

-- just these ports, each once and with its width, in any order
pub record HasPorts (nets : List Net) (ports : List Net) (cs : List Connection) : Type 0 where
  pub once : Differ (connection_names cs)
  pub count : length cs ≡ length ports
  pub each : AllOf (λ p. IsOfWidth nets p.width (connection_at p.name cs)) ports

-- a bare net
abbrev pub IsBareNet : Option Expression → Type 0
IsBareNet (Some (net q)) = Unit {0}
IsBareNet _ = ⊥

-- an instance of prim_flop: `Width` is also the width of `ResetValue`, and `q_o` has a bare net
pub record FlopFits (nets : List Net) (ps : List Parameter) (cs : List Connection) : Type 0 where
  pub width : ℕ
  pub reset : ℕ
  pub count : length ps ≡ 2
  pub width_is : parameter_at (codes "Width") ps ≡ Some (lit 0 width)
  pub reset_is : parameter_at (codes "ResetValue") ps ≡ Some (lit width reset)
  pub ports : HasPorts nets (flop_ports width) cs
  pub bare : IsBareNet (connection_at (codes "q_o") cs)

-- an instance of a socket, with the number of its many links
pub record SocketFits (number : List ℕ) (ports_of : ℕ → List Net) (nets : List Net) (ps : List Parameter) (cs : List Connection) : Type 0 where
  pub links : ℕ
  pub count : length ps ≡ 1
  pub links_are : parameter_at number ps ≡ Some (lit 0 links)
  pub ports : HasPorts nets (ports_of links) cs

-- an instance of the asynchronous FIFO
pub record FifoFits (nets : List Net) (ps : List Parameter) (cs : List Connection) : Type 0 where
  pub no_parameter : ps ≡ []
  pub ports : HasPorts nets fifo_ports cs

-- at any other module each connection uses declared nets and has some width
abbrev pub SomeWidth : List Net → Connection → Type 0
SomeWidth nets c = (w : ℕ) × HasWidth nets c.value w

abbrev pub PartFits : List ℕ → List Net → List Parameter → List Connection → Type 0
PartFits m nets ps cs =
    cond (bytes_eq m flop_name) (FlopFits nets ps cs)
    (cond (bytes_eq m split_name) (SocketFits (codes "N") split_ports nets ps cs)
    (cond (bytes_eq m join_name) (SocketFits (codes "M") join_ports nets ps cs)
    (cond (bytes_eq m fifo_name) (FifoFits nets ps cs)
    (AllOf (SomeWidth nets) cs))))

-- ---- drivers

-- the text ends so
abbrev pub ends_with : List ℕ → List ℕ → Bool
ends_with [] end = bytes_eq [] end
ends_with (c ∷ cs) end = bytes_eq (c ∷ cs) end || ends_with cs end

abbrev pub begins_with : List ℕ → List ℕ → Bool
begins_with text start = starts_with nat_eq text start

-- the expression is an input of the module
abbrev pub is_input : List (List ℕ) → Expression → Bool
is_input inputs (net n) = is_among inputs n
is_input inputs x = false

-- An output of an instance. A known part has its outputs at names that end in `_o`. In an instance of any other module it is a
-- connection whose value is no input of this module and whose name ends in `_o`, or begins with `h_` and ends in `_rsp`, or
-- begins with `d_` and ends in `_req`.
abbrev pub is_output : List (List ℕ) → List ℕ → Connection → Bool
is_output inputs m c =
    cond (is_part m) (ends_with c.name (codes "_o"))
    (not (is_input inputs c.value) && (ends_with c.name (codes "_o")
    || ((begins_with c.name (codes "h_") && ends_with c.name (codes "_rsp")) || (begins_with c.name (codes "d_") && ends_with c.name (codes "_req")))))

-- the nets of a concatenation of bare nets
abbrev pub bare_parts : Expressions → Option (List (List ℕ))
bare_parts none = Some []
bare_parts (more (net n) xs) = with_first n (bare_parts xs) where
  with_first : List ℕ → Option (List (List ℕ)) → Option (List (List ℕ))
  with_first n None = None
  with_first n (Some ns) = Some (n ∷ ns)
bare_parts (more x xs) = None

-- the nets that an output drives: a bare net, or a concatenation of bare nets; else none
abbrev pub driven_nets : Expression → List (List ℕ)
driven_nets (net n) = n ∷ []
driven_nets (cat xs) = or_none (bare_parts xs) where
  or_none : Option (List (List ℕ)) → List (List ℕ)
  or_none None = []
  or_none (Some ns) = ns
driven_nets x = []

abbrev pub driven_by_connections : List (List ℕ) → List ℕ → List Connection → List (List ℕ)
driven_by_connections inputs m [] = []
driven_by_connections inputs m (c ∷ cs) = cond (is_output inputs m c) (driven_nets c.value) [] ++ driven_by_connections inputs m cs

-- the nets that instances drive
abbrev pub instance_driven : List (List ℕ) → List Entry → List (List ℕ)
instance_driven inputs [] = []
instance_driven inputs (inst m ps n cs ∷ es) = driven_by_connections inputs m cs ++ instance_driven inputs es
instance_driven inputs (wire w n ∷ es) = instance_driven inputs es
instance_driven inputs (drive w n x ∷ es) = instance_driven inputs es
instance_driven inputs (assign n x ∷ es) = instance_driven inputs es

-- the nets with an expression of their own or an assignment
abbrev pub expression_driven : List Entry → List (List ℕ)
expression_driven [] = []
expression_driven (wire w n ∷ es) = expression_driven es
expression_driven (drive w n x ∷ es) = n ∷ expression_driven es
expression_driven (assign n x ∷ es) = n ∷ expression_driven es
expression_driven (inst m ps n cs ∷ es) = expression_driven es

-- ---- the whole

-- the inputs, or the outputs, among the ports
abbrev pub inputs_of : List Port → List (List ℕ)
inputs_of [] = []
inputs_of (p ∷ ps) = cond p.input (p.name ∷ inputs_of ps) (inputs_of ps)

abbrev pub outputs_of : List Port → List (List ℕ)
outputs_of [] = []
outputs_of (p ∷ ps) = cond p.input (outputs_of ps) (p.name ∷ outputs_of ps)

abbrev pub wires_of : List Entry → List (List ℕ)
wires_of [] = []
wires_of (wire w n ∷ es) = n ∷ wires_of es
wires_of (drive w n x ∷ es) = n ∷ wires_of es
wires_of (assign n x ∷ es) = wires_of es
wires_of (inst m ps n cs ∷ es) = wires_of es

abbrev pub port_nets : List Port → List Net
port_nets [] = []
port_nets (p ∷ ps) = stated p.name p.width ∷ port_nets ps

-- each connection uses only such nets
abbrev pub ConnectionsUse : List (List ℕ) → List Connection → Type 0
ConnectionsUse known [] = Unit {0}
ConnectionsUse known (c ∷ cs) = Uses known c.value × ConnectionsUse known cs

-- The entries in text order: `nets` are declared above, and an expression may use those in `known`, which are the inputs, the
-- nets that an instance drives, and those with an expression or an assignment above.
abbrev pub EntriesFit : List (List ℕ) → List Net → List (List ℕ) → List Entry → Type 0
EntriesFit inputs nets known [] = Unit {0}
EntriesFit inputs nets known (wire w n ∷ es) = EntriesFit inputs (stated n w ∷ nets) known es
EntriesFit inputs nets known (drive w n x ∷ es) = HasWidth nets x w × Uses known x × EntriesFit inputs (stated n w ∷ nets) (n ∷ known) es
EntriesFit inputs nets known (assign n x ∷ es) = ((w : ℕ) × Declares nets n w × HasWidth nets x w) × Uses known x × EntriesFit inputs nets (n ∷ known) es
EntriesFit inputs nets known (inst m ps n cs ∷ es) = PartFits m nets ps cs × ConnectionsUse known cs × EntriesFit inputs nets known es

-- each of the names is among those
abbrev pub AllAmong : List (List ℕ) → List (List ℕ) → Type 0
AllAmong [] known = Unit {0}
AllAmong (n ∷ ns) known = Among n known × AllAmong ns known

-- none of the names is among those
abbrev pub NoneAmong : List (List ℕ) → List (List ℕ) → Type 0
NoneAmong [] known = Unit {0}
NoneAmong (n ∷ ns) known = (Among n known → ⊥) × NoneAmong ns known

-- all drivers: expressions, assignments and outputs of instances
abbrev pub drivers_of : Module → List (List ℕ)
drivers_of m = expression_driven m.entries ++ instance_driven (inputs_of m.ports) m.entries

pub record WellFormed (m : Module) : Type 0 where
  pub printable : IsPrintable m
  pub names_differ : Differ (module_names m)
  pub entries_fit : EntriesFit (inputs_of m.ports) (port_nets m.ports) (inputs_of m.ports ++ instance_driven (inputs_of m.ports) m.entries) m.entries
  -- each output and each wire has exactly one driver, and inputs have none
  pub drivers_differ : Differ (drivers_of m)
  pub outputs_driven : AllAmong (outputs_of m.ports) (drivers_of m)
  pub wires_driven : AllAmong (wires_of m.entries) (drivers_of m)
  pub inputs_free : NoneAmong (inputs_of m.ports) (drivers_of m)

-- the module has a valuation for all inputs and all values of the nets that instances drive, its states among them
abbrev pub HasValuation : Module → Type 0
HasValuation m =
    (inputs given : Values)
    → (v : Values) × (next : Values) × Valuation m inputs given v next × ((n : List ℕ) → Among n (instance_driven (inputs_of m.ports) m.entries) → v n ≡ given n)

-- a well-formed module has one
abbrev pub ModuleHasValuation : Type 0
ModuleHasValuation = (m : Module) → WellFormed m → HasValuation m
