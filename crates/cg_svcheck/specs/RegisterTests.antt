-- Tests that compute: whether a module is a register module.
use Rattle.std.specs.Prelude.{ℕ, Bool, true, false, ◌&&◌, cond, eqb, leb, List, [], ◌∷◌, codes, Option, Some, None}
use Rattle.std.specs.List.{list_all}
use Rattle.std.specs.Str.{bytes_eq}
use Rattle.cg_svspec.specs.Tree.{Port, Entry, wire, drive, assign, inst, Module}
use Rattle.cg_svspec.specs.Value.{parameter_at, flop_name}
use Rattle.cg_svspec.specs.Register.{access_ports}
use Rattle.cg_svcheck.specs.Plain.{Literal, literal_in}

-- the same direction
abbrev pub same_way : Bool → Bool → Bool
same_way true b = b
same_way false true = false
same_way false false = true

-- a port with this direction, width and name
abbrev pub wanted : Bool → ℕ → List ℕ → Port
wanted i w n = record { input = i; width = w; name = n }

-- the same port
unfoldable pub is_port : Port → Port → Bool
is_port w p = same_way p.input w.input && (eqb p.width w.width && bytes_eq p.name w.name)

-- the ports behind these wanted ones, where those are the first
abbrev pub ports_behind : List Port → List Port → Option (List Port)
ports_behind [] ps = Some ps
ports_behind (w ∷ ws) [] = None
ports_behind (w ∷ ws) (p ∷ ps) = cond (is_port w p) (ports_behind ws ps) None

-- a port of at most 32 bits
abbrev pub is_narrow_port : Port → Bool
is_narrow_port p = leb p.width 32

-- at most 32 bits, where the parameter is a literal
abbrev pub is_narrow : Option Literal → Bool
is_narrow None = false
is_narrow (Some l) = leb l.value 32

-- no instance but of prim_flop with at most 32 bits
abbrev pub is_register_entry : Entry → Bool
is_register_entry (wire w n) = true
is_register_entry (drive w n x) = true
is_register_entry (assign n x) = true
is_register_entry (inst m ps n cs) = bytes_eq m flop_name && is_narrow (literal_in (parameter_at (codes "Width") ps))

-- the other ports are narrow
abbrev pub are_narrow : Option (List Port) → Bool
are_narrow None = false
are_narrow (Some ps) = list_all is_narrow_port ps

unfoldable pub is_register : Module → Bool
is_register m = are_narrow (ports_behind access_ports m.ports) && list_all is_register_entry m.entries
