-- Links, and what a request on a link meets in a crossbar (OpenTitan, TL-UL bus: sockets and asynchronous FIFO). A link is a net
-- of 70 bits that brings a request and a net of 33 bits that takes its response back. A request's bits are, from the highest:
-- valid, write, 4 byte strobes, 32 of the address, 32 of data.
use Rattle.std.specs.Prelude.{ℕ, suc, ◌+◌, ◌-◌, ◌*◌, eqb, Bool, true, false, not, cond, ◌&&◌, ◌||◌, List, [], ◌∷◌, ◌++◌, reverse, length, take, slice_get, codes, Option, Some, None}
use Rattle.std.specs.Str.{bytes_eq}
use Rattle.cg_svspec.specs.Bits.{Bits}
use Rattle.cg_svspec.specs.Tree.{Expression, net, cut, lit, cat, inv, any, and, or, equal, pick, Expressions, none, more, Port, Connection, Entry, wire, drive, assign, inst, Module}
use Rattle.cg_svspec.specs.Names.{is_among}
use Rattle.cg_svspec.specs.Value.{Values, eval, connection_at}
use Rattle.cg_svspec.specs.WellFormed.{Net, stated, port_nets, outputs_of, driven_nets, ends_with, begins_with, split_name, join_name, fifo_name}

-- a link, by the names of its nets
pub record Link : Type 0 where
  pub request : List ℕ
  pub response : List ℕ

abbrev pub link : List ℕ → List ℕ → Link
link q r = record { request = q; response = r }

-- ---- ports of a crossbar

-- a node's name as it stands in nets: two underscores for a dot
abbrev pub spelled : List ℕ → List ℕ
spelled [] = []
spelled (c ∷ cs) = cond (eqb c 46) (95 ∷ 95 ∷ spelled cs) (c ∷ spelled cs)

-- the link of a host of this name
abbrev pub host_link : List ℕ → Link
host_link host = link (codes "h_" ++ (spelled host ++ codes "_req")) (codes "h_" ++ (spelled host ++ codes "_rsp"))

-- and of a device
abbrev pub device_link : List ℕ → Link
device_link device = link (codes "d_" ++ (spelled device ++ codes "_req")) (codes "d_" ++ (spelled device ++ codes "_rsp"))

-- `P_rsp` for `P_req`
abbrev pub answer_to : List ℕ → List ℕ
answer_to q = take (length q - 4) q ++ codes "_rsp"

-- requests of a crossbar's hosts
abbrev pub is_host_request : List ℕ → Bool
is_host_request n = begins_with n (codes "h_") && ends_with n (codes "_req")

-- and of its devices
abbrev pub is_device_request : List ℕ → Bool
is_device_request n = begins_with n (codes "d_") && ends_with n (codes "_req")

-- a port of this direction, width and name is there
abbrev pub has_port : List Port → Bool → ℕ → List ℕ → Bool
has_port [] input w n = false
has_port (p ∷ ps) input w n = (cond p.input input (not input) && (eqb p.width w && bytes_eq p.name n)) || has_port ps input w n

-- a request comes into the module over these ports
abbrev pub comes_in : Module → Link → Bool
comes_in m l = has_port m.ports true 70 l.request && (has_port m.ports false 33 l.response && bytes_eq l.response (answer_to l.request))

-- or leaves it over them
abbrev pub goes_out : Module → Link → Bool
goes_out m l = has_port m.ports false 70 l.request && (has_port m.ports true 33 l.response && (bytes_eq l.response (answer_to l.request) && ends_with l.request (codes "_req")))

-- the number of the first port of this name
abbrev pub port_number : List Port → List ℕ → ℕ
port_number [] n = 0
port_number (p ∷ ps) n = cond (bytes_eq p.name n) 0 (suc (port_number ps n))

-- ---- the links at a part

-- the nets that entries declare
abbrev pub wire_nets : List Entry → List Net
wire_nets [] = []
wire_nets (wire w n ∷ es) = stated n w ∷ wire_nets es
wire_nets (drive w n x ∷ es) = stated n w ∷ wire_nets es
wire_nets (assign n x ∷ es) = wire_nets es
wire_nets (inst m ps n cs ∷ es) = wire_nets es

-- all nets of a module
abbrev pub nets_of : Module → List Net
nets_of m = port_nets m.ports ++ wire_nets m.entries

-- a net of this width and name is there
abbrev pub is_net : List Net → ℕ → List ℕ → Bool
is_net [] w n = false
is_net (x ∷ xs) w n = (eqb x.width w && bytes_eq x.name n) || is_net xs w n

-- each name is a net of this width
abbrev pub are_nets : List Net → ℕ → List (List ℕ) → Bool
are_nets nets w [] = true
are_nets nets w (n ∷ ns) = is_net nets w n && are_nets nets w ns

-- The nets at a connection, the lowest first: a bare net or a concatenation of bare nets, each of exactly this width. Any other
-- expression brings no nets.
abbrev pub nets_at : List Net → ℕ → Option Expression → List (List ℕ)
nets_at nets w None = []
nets_at nets w (Some x) = cond (are_nets nets w (driven_nets x)) (reverse (driven_nets x)) []

-- requests and responses as links, place by place
abbrev pub paired : List (List ℕ) → List (List ℕ) → List Link
paired [] rs = []
paired (q ∷ qs) [] = []
paired (q ∷ qs) (r ∷ rs) = link q r ∷ paired qs rs

-- the links at a part's side of the hosts
abbrev pub links_in : List Net → List Connection → List Link
links_in nets cs = paired (nets_at nets 70 (connection_at (codes "req_i") cs)) (nets_at nets 33 (connection_at (codes "rsp_o") cs))

-- and at its side of the devices
abbrev pub links_out : List Net → List Connection → List Link
links_out nets cs = paired (nets_at nets 70 (connection_at (codes "req_o") cs)) (nets_at nets 33 (connection_at (codes "rsp_i") cs))

-- the link is one of these
abbrev pub is_link : Link → List Link → Bool
is_link l [] = false
is_link l (x ∷ xs) = (bytes_eq x.request l.request && bytes_eq x.response l.response) || is_link l xs

abbrev pub first_link : List Link → Option Link
first_link [] = None
first_link (l ∷ ls) = Some l

-- ---- the select of a 1-to-N socket

-- nets whose values are known
pub record Known : Type 0 where
  pub names : List (List ℕ)
  pub values : Values

abbrev mutual
  -- the value of each net that the expression uses is known; of a choice both values count
  pub is_known : List (List ℕ) → Expression → Bool
  is_known names (net n) = is_among names n
  is_known names (cut n m l) = is_among names n
  is_known names (lit w v) = true
  is_known names (cat xs) = are_known names xs
  is_known names (inv x) = is_known names x
  is_known names (any x) = is_known names x
  is_known names (and x y) = is_known names x && is_known names y
  is_known names (or x y) = is_known names x && is_known names y
  is_known names (equal x y) = is_known names x && is_known names y
  is_known names (pick c x y) = is_known names c && (is_known names x && is_known names y)

  pub are_known : List (List ℕ) → Expressions → Bool
  are_known names none = true
  are_known names (more x xs) = is_known names x && are_known names xs

-- a net has the value of its expression, where that is known
abbrev pub learn : Known → List ℕ → Expression → Known
learn k n x = cond (is_known k.names x) (record { names = n ∷ k.names; values = λ m. cond (bytes_eq n m) (eval k.values x) (k.values m) }) k

-- what is known after the entries, each of which uses only nets above it
abbrev pub learn_all : Known → List Entry → Known
learn_all k [] = k
learn_all k (wire w n ∷ es) = learn_all k es
learn_all k (drive w n x ∷ es) = learn_all (learn k n x) es
learn_all k (assign n x ∷ es) = learn_all (learn k n x) es
learn_all k (inst m ps n cs ∷ es) = learn_all k es

-- what is known in a module where just the nets in `held` hold the request: their values, and those of nets with an expression or
-- an assignment that come of them
unfoldable pub known_of : Module → Bits → List (List ℕ) → Known
known_of m request held = learn_all (record { names = held; values = λ n. request }) m.entries

-- the number that a list of bits stands for
abbrev pub number : Bits → ℕ
number [] = 0
number (b ∷ bs) = cond b 1 0 + 2 * number bs

-- the link whose number is the select's value; none where the value is not known, or there is no such link
abbrev pub selected : Known → Option Expression → List Link → Option Link
selected k None outs = None
selected k (Some x) outs = cond (is_known k.names x) (slice_get outs (number (eval k.values x))) None

-- ---- what a request meets in a crossbar

-- What a request meets at a net: a FIFO or a socket that has the request's net at `req_i`, with its connections, or none.
pub data BusPart : Type 0 where
  -- `tlul_fifo_async`
  fifo : List Connection → BusPart
  -- `tlul_socket_1n`
  split : List Connection → BusPart
  -- `tlul_socket_m1`
  join : List Connection → BusPart
  no_part : BusPart

-- the part that an instance is, if it is one; else that behind it
abbrev pub kind_of : List ℕ → List Connection → BusPart → BusPart
kind_of m cs behind =
    cond (bytes_eq m fifo_name) (fifo cs) (cond (bytes_eq m split_name) (split cs) (cond (bytes_eq m join_name) (join cs) behind))

-- the first part, in the order of entries, that takes a request at this net
abbrev pub part_at : List Net → List ℕ → List Entry → BusPart
part_at nets q [] = no_part
part_at nets q (wire w n ∷ es) = part_at nets q es
part_at nets q (drive w n x ∷ es) = part_at nets q es
part_at nets q (assign n x ∷ es) = part_at nets q es
part_at nets q (inst m ps n cs ∷ es) = cond (is_among (nets_at nets 70 (connection_at (codes "req_i") cs)) q) (kind_of m cs (part_at nets q es)) (part_at nets q es)

-- The link behind the part. A part that takes the request brings the response of the link behind it back to the request's link: where
-- it does not, there is none.
abbrev pub behind : List Net → Link → List Connection → Option Link → Option Link
behind nets l cs next = cond (is_link l (links_in nets cs)) next None

-- A FIFO and an M-to-1 socket pass a request to their one link; a 1-to-N socket passes it to the link that its select names.
abbrev pub passed : List Net → Known → Link → BusPart → Option Link
passed nets k l (fifo cs) = behind nets l cs (first_link (links_out nets cs))
passed nets k l (split cs) = behind nets l cs (selected k (connection_at (codes "sel_i") cs) (links_out nets cs))
passed nets k l (join cs) = behind nets l cs (first_link (links_out nets cs))
passed nets k l no_part = None

-- how a way goes on from a link of a crossbar
pub data Onward : Type 0 where
  -- over a FIFO or a socket to the next link
  to : Link → Onward
  -- out of the crossbar: the request's net is an output port of it
  leaves : Onward
  -- the request meets nothing, or its response does not lead back
  stuck : Onward

abbrev pub to_link : Option Link → Onward
to_link None = stuck
to_link (Some l) = to l

-- From a link of a crossbar, where the nets in `held` hold the request, this link's among them. An output port counts before parts.
unfoldable pub inside : Module → Bits → List (List ℕ) → Link → Onward
inside m request held l =
    cond (is_among (outputs_of m.ports) l.request) leaves (to_link (passed (nets_of m) (known_of m request held) l (part_at (nets_of m) l.request m.entries)))
