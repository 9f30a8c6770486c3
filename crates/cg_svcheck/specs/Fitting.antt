-- Tests that compute: whether entries fit where they stand.
use Rattle.std.specs.Prelude.{ℕ, ◌+◌, Bool, true, false, ◌&&◌, cond, eqb, ltb, List, [], ◌∷◌, ◌++◌, length, codes, Option, Some, None, ◌^◌}
use Rattle.std.specs.List.{list_all}
use Rattle.std.specs.Str.{bytes_eq}
use Rattle.cg_svspec.specs.Tree.{Expression, Parameter, Connection, Entry, wire, drive, assign, inst, Module}
use Rattle.cg_svspec.specs.Value.{connection_at, parameter_at, flop_name}
use Rattle.cg_svspec.specs.WellFormed.{Net, flop_ports, split_ports, join_ports, fifo_ports, split_name, join_name, fifo_name}
use Rattle.cg_svcheck.specs.Counting.{one_if, is_name}
use Rattle.cg_svcheck.specs.Plain.{Literal, literal_in, net_of}
use Rattle.cg_svcheck.specs.Widths.{width_above, width_of, uses_only, is_known}

-- the width is this one
abbrev pub is_of : ℕ → Option ℕ → Bool
is_of w None = false
is_of w (Some u) = eqb u w

-- there is a width
abbrev pub has_some : Option ℕ → Bool
has_some None = false
has_some (Some u) = true

-- the expression, if there is one, has this width
abbrev pub is_of_width : (List ℕ → Option ℕ) → ℕ → Option Expression → Bool
is_of_width e w None = false
is_of_width e w (Some x) = is_of w (width_of e x)

-- how often a connection has the name
abbrev pub connected_count : List ℕ → List Connection → ℕ
connected_count n [] = 0
connected_count n (c ∷ cs) = one_if (bytes_eq c.name n) + connected_count n cs

-- the connection's name is that of no other
abbrev pub is_connected_once : List Connection → Connection → Bool
is_connected_once cs c = ltb (connected_count c.name cs) 2

-- the connections' names differ
unfoldable pub connections_differ : List Connection → Bool
connections_differ cs = list_all (is_connected_once cs) cs

-- each of the ports is connected with its width
abbrev pub ports_connected : (List ℕ → Option ℕ) → List Connection → List Net → Bool
ports_connected e cs [] = true
ports_connected e cs (p ∷ ps) = is_of_width e p.width (connection_at p.name cs) && ports_connected e cs ps

-- so many connections, of names that differ
abbrev pub are_connections : ℕ → List Connection → Bool
are_connections k cs = eqb (length cs) k && connections_differ cs

-- the expression, if there is one, is a bare net
abbrev pub is_bare : Option Expression → Bool
is_bare None = false
is_bare (Some x) = is_name (net_of x)

-- a flip-flop with these literals as its width and its value at reset
abbrev pub flop_with : (List ℕ → Option ℕ) → List Connection → Option Literal → Option Literal → Bool
flop_with e cs None r = false
flop_with e cs (Some w) None = false
flop_with e cs (Some w) (Some r) =
    (eqb w.width 0 && eqb r.width w.value) && (are_connections 4 cs && (ports_connected e cs (flop_ports w.value) && is_bare (connection_at (codes "q_o") cs)))

abbrev pub flop_fits : (List ℕ → Option ℕ) → List Parameter → List Connection → Bool
flop_fits e ps cs = eqb (length ps) 2 && flop_with e cs (literal_in (parameter_at (codes "Width") ps)) (literal_in (parameter_at (codes "ResetValue") ps))

-- a socket with this literal as the number of its links
abbrev pub socket_with : ℕ → (ℕ → List Net) → (List ℕ → Option ℕ) → List Connection → Option Literal → Bool
socket_with k ports_of e cs None = false
socket_with k ports_of e cs (Some l) = (eqb l.width 0 && ltb l.value (2 ^ 16)) && (are_connections k cs && ports_connected e cs (ports_of l.value))

abbrev pub socket_fits : ℕ → (ℕ → List Net) → List ℕ → (List ℕ → Option ℕ) → List Parameter → List Connection → Bool
socket_fits k ports_of number e ps cs = eqb (length ps) 1 && socket_with k ports_of e cs (literal_in (parameter_at number ps))

abbrev pub split_fits : (List ℕ → Option ℕ) → List Parameter → List Connection → Bool
split_fits = socket_fits 6 split_ports (codes "N")

abbrev pub join_fits : (List ℕ → Option ℕ) → List Parameter → List Connection → Bool
join_fits = socket_fits 5 join_ports (codes "M")

abbrev pub fifo_fits : (List ℕ → Option ℕ) → List Parameter → List Connection → Bool
fifo_fits e ps cs = eqb (length ps) 0 && (are_connections 6 cs && ports_connected e cs fifo_ports)

-- each connection has some width
abbrev pub all_have_width : (List ℕ → Option ℕ) → List Connection → Bool
all_have_width e [] = true
all_have_width e (c ∷ cs) = has_some (width_of e c.value) && all_have_width e cs

-- an instance has the ports of its module
unfoldable pub part_fits : (List ℕ → Option ℕ) → List ℕ → List Parameter → List Connection → Bool
part_fits e m ps cs =
    cond (bytes_eq m flop_name) (flop_fits e ps cs)
    (cond (bytes_eq m split_name) (split_fits e ps cs)
    (cond (bytes_eq m join_name) (join_fits e ps cs)
    (cond (bytes_eq m fifo_name) (fifo_fits e ps cs)
    (all_have_width e cs))))

-- each connection uses only nets that pass the test
abbrev pub connections_use_only : (List ℕ → Bool) → List Connection → Bool
connections_use_only k [] = true
connections_use_only k (c ∷ cs) = uses_only k c.value && connections_use_only k cs

-- both are one width
abbrev pub same_width : Option ℕ → Option ℕ → Bool
same_width None q = false
same_width (Some w) q = is_of w q

-- the entry fits where nets have these widths and these are known
abbrev pub entry_fits : (List ℕ → Option ℕ) → (List ℕ → Bool) → Entry → Bool
entry_fits e k (wire w n) = true
entry_fits e k (drive w n x) = is_of w (width_of e x) && uses_only k x
entry_fits e k (assign n x) = same_width (e n) (width_of e x) && uses_only k x
entry_fits e k (inst m ps n cs) = part_fits e m ps cs && connections_use_only k cs

-- the entries behind those above fit where they stand
abbrev pub entries_fit : Module → List Entry → List Entry → Bool
entries_fit m above [] = true
entries_fit m above (x ∷ es) = entry_fits (width_above m.ports above) (is_known m above) x && entries_fit m (above ++ (x ∷ [])) es
