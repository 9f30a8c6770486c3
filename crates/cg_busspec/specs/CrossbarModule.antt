-- The module of a crossbar: ports and entries in their order and spelling.
use Rattle.std.specs.Prelude.{ℕ, zero, suc, ◌+◌, ◌-◌, ◌/◌, ◌^◌, eqb, leb, Bool, cond, List, [], ◌∷◌, ◌++◌, map, reverse, length, flat_map, codes}
use Rattle.cg_svspec.specs.Tree.{Expression, net, cut, lit, cat, any, equal, pick, Expressions, none, more, expressions, Port, Parameter, Connection, Entry, wire, drive, inst, Module}
use Rattle.cg_svspec.specs.Register.{input_port, output_port}
use Rattle.cg_svspec.specs.Names.{is_among}
use Rattle.cg_svspec.specs.WellFormed.{split_name, join_name, fifo_name}
use Rattle.cg_svspec.specs.Links.{Link, link}
use Rattle.cg_desc.specs.declared.crossbar.Range.{Range}
use Rattle.cg_desc.specs.declared.crossbar.NodeDesc.{NodeDesc}
use Rattle.cg_desc.specs.declared.crossbar.XbarDesc.{XbarDesc}
use Rattle.cg_busspec.specs.Crossbar.{Crossbar, node, device_ranges, hosts, devices, label, reach, feeders, is_joined, has_fifo}

-- ---- nets

-- a link whose nets are `<start><name>_req` and `<start><name>_rsp`
abbrev pub link_named : List ℕ → List ℕ → Link
link_named start name = link (start ++ (name ++ codes "_req")) (start ++ (name ++ codes "_rsp"))

-- a host's link, and that behind its FIFO
abbrev pub h_link : XbarDesc → ℕ → Link
h_link x h = link_named (codes "h_") (label x h)

abbrev pub f_link : XbarDesc → ℕ → Link
f_link x h = link_named (codes "f_") (label x h)

-- a link from a host to a device that has an M-to-1 socket
abbrev pub l_link : XbarDesc → ℕ → ℕ → Link
l_link x h d = link_named (codes "l_") (label x h ++ (codes "_t_" ++ label x d))

-- a device's link, and that before its FIFO
abbrev pub m_link : XbarDesc → ℕ → Link
m_link x d = link_named (codes "m_") (label x d)

abbrev pub d_link : XbarDesc → ℕ → Link
d_link x d = link_named (codes "d_") (label x d)

abbrev pub sel : XbarDesc → ℕ → List ℕ
sel x h = codes "sel_" ++ label x h

abbrev pub clock_net : List ℕ → List ℕ
clock_net c = codes "c_" ++ c

-- the link at a host's socket
unfoldable pub socket_link : XbarDesc → ℕ → Link
socket_link x h = cond (has_fifo x h) (f_link x h) (h_link x h)

-- the first link of a device behind its M-to-1 socket, if it has one
unfoldable pub joined_link : XbarDesc → ℕ → Link
joined_link x d = cond (has_fifo x d) (m_link x d) (d_link x d)

-- the link to a device behind a host's socket
unfoldable pub lane : XbarDesc → ℕ → ℕ → Link
lane x h d = cond (is_joined x d) (l_link x h d) (joined_link x d)

-- ---- ports

-- the clocks in the order of their first use
abbrev pub new_clocks : List (List ℕ) → List NodeDesc → List (List ℕ)
new_clocks seen [] = []
new_clocks seen (n ∷ ns) = cond (is_among seen n.clock) (new_clocks seen ns) (n.clock ∷ new_clocks (n.clock ∷ seen) ns)

unfoldable pub clocks : XbarDesc → List (List ℕ)
clocks x = x.clock ∷ new_clocks (x.clock ∷ []) x.nodes

abbrev pub clock_port : List ℕ → Port
clock_port c = input_port 1 (clock_net c)

abbrev pub host_ports : XbarDesc → ℕ → List Port
host_ports x h = input_port 70 (h_link x h).request ∷ output_port 33 (h_link x h).response ∷ []

abbrev pub device_ports : XbarDesc → ℕ → List Port
device_ports x d = output_port 70 (d_link x d).request ∷ input_port 33 (d_link x d).response ∷ []

unfoldable pub crossbar_ports : XbarDesc → List Port
crossbar_ports x = map clock_port (clocks x) ++ (flat_map (host_ports x) (hosts x) ++ flat_map (device_ports x) (devices x))

-- ---- 1: the links between parts

abbrev pub link_wires : Link → List Entry
link_wires l = wire 70 l.request ∷ wire 33 l.response ∷ []

-- entries where the test holds
abbrev pub entries_if : Bool → List Entry → List Entry
entries_if b es = cond b es []

abbrev pub host_wires : XbarDesc → ℕ → List Entry
host_wires x h = entries_if (has_fifo x h) (link_wires (f_link x h))

abbrev pub lane_wires : XbarDesc → ℕ → ℕ → List Entry
lane_wires x h d = entries_if (is_joined x d) (link_wires (l_link x h d))

abbrev pub host_lanes : XbarDesc → ℕ → List Entry
host_lanes x h = flat_map (lane_wires x h) (reach x h)

abbrev pub device_wires : XbarDesc → ℕ → List Entry
device_wires x d = entries_if (has_fifo x d) (link_wires (m_link x d))

-- ---- 2: the selects

-- the number of a power of two: how often it can be halved
abbrev pub halvings : ℕ → ℕ → ℕ
halvings zero n = 0
halvings (suc fuel) n = cond (leb n 1) 0 (suc (halvings fuel (n / 2)))

-- the power of a range's size
unfoldable pub power_of : Range → ℕ
power_of r = halvings 32 r.size

-- the request's address is in the range
unfoldable pub range_term : List ℕ → Range → Expression
range_term q r =
    cond (eqb (power_of r) 32) (lit 1 1)
    (equal (cut q 63 (32 + power_of r)) (lit (32 - power_of r) (r.base / 2 ^ power_of r)))

abbrev pub range_terms : List ℕ → List Range → Expressions
range_terms q [] = none
range_terms q (r ∷ rs) = more (range_term q r) (range_terms q rs)

-- the number of the first of the devices, from number j on, one of whose ranges has the request's address
abbrev pub select : Crossbar → List ℕ → ℕ → List ℕ → Expression
select x q j [] = lit 8 j
select x q j (d ∷ ds) = pick (any (cat (range_terms q (device_ranges x d)))) (lit 8 j) (select x q (suc j) ds)

abbrev pub host_select : Crossbar → ℕ → Entry
host_select x h = drive 8 (sel x.desc h) (select x (socket_link x.desc h).request 0 (reach x.desc h))

-- ---- 3: the parts

abbrev pub number_parameter : List ℕ → ℕ → Parameter
number_parameter n k = record { name = n; value = lit 0 k }

abbrev pub connection : List ℕ → Expression → Connection
connection n x = record { name = n; value = x }

-- several nets, the first lowest
unfoldable pub bundle : List (List ℕ) → Expression
bundle ns = cat (expressions (map net (reverse ns)))

abbrev pub requests : List Link → List (List ℕ)
requests [] = []
requests (l ∷ ls) = l.request ∷ requests ls

abbrev pub responses : List Link → List (List ℕ)
responses [] = []
responses (l ∷ ls) = l.response ∷ responses ls

-- the asynchronous FIFO from one link to another, with their clocks
unfoldable pub fifo_instance : List ℕ → List ℕ → List ℕ → Link → Link → Entry
fifo_instance name near far a b =
    inst fifo_name [] name
    (connection (codes "clk_h_i") (net (clock_net near)) ∷ connection (codes "clk_d_i") (net (clock_net far))
    ∷ connection (codes "req_i") (net a.request) ∷ connection (codes "rsp_o") (net a.response)
    ∷ connection (codes "req_o") (net b.request) ∷ connection (codes "rsp_i") (net b.response) ∷ [])

-- the 1-to-N socket from one link to several
unfoldable pub split_instance : List ℕ → List ℕ → List ℕ → Link → List Link → Entry
split_instance name clock s a bs =
    inst split_name (number_parameter (codes "N") (length bs) ∷ []) name
    (connection (codes "clk_i") (net (clock_net clock)) ∷ connection (codes "sel_i") (net s)
    ∷ connection (codes "req_i") (net a.request) ∷ connection (codes "rsp_o") (net a.response)
    ∷ connection (codes "req_o") (bundle (requests bs)) ∷ connection (codes "rsp_i") (bundle (responses bs)) ∷ [])

-- the M-to-1 socket from several links to one
unfoldable pub join_instance : List ℕ → List ℕ → List Link → Link → Entry
join_instance name clock ls b =
    inst join_name (number_parameter (codes "M") (length ls) ∷ []) name
    (connection (codes "clk_i") (net (clock_net clock))
    ∷ connection (codes "req_i") (bundle (requests ls)) ∷ connection (codes "rsp_o") (bundle (responses ls))
    ∷ connection (codes "req_o") (net b.request) ∷ connection (codes "rsp_i") (net b.response) ∷ [])

abbrev pub host_fifo_entry : XbarDesc → ℕ → Entry
host_fifo_entry x h = fifo_instance (codes "u_hf_" ++ label x h) (node x h).clock x.clock (h_link x h) (f_link x h)

abbrev pub host_split_entry : XbarDesc → ℕ → Entry
host_split_entry x h = split_instance (codes "u_s_" ++ label x h) x.clock (sel x h) (socket_link x h) (map (lane x h) (reach x h))

-- the links from a device's hosts
abbrev pub join_lanes : XbarDesc → ℕ → List Link
join_lanes x d = map (λ h. l_link x h d) (feeders x d)

abbrev pub device_join_entry : XbarDesc → ℕ → Entry
device_join_entry x d = join_instance (codes "u_m_" ++ label x d) x.clock (join_lanes x d) (joined_link x d)

abbrev pub device_fifo_entry : XbarDesc → ℕ → Entry
device_fifo_entry x d = fifo_instance (codes "u_df_" ++ label x d) x.clock (node x d).clock (m_link x d) (d_link x d)

abbrev pub host_parts : XbarDesc → ℕ → List Entry
host_parts x h = entries_if (has_fifo x h) (host_fifo_entry x h ∷ []) ++ (host_split_entry x h ∷ [])

abbrev pub device_parts : XbarDesc → ℕ → List Entry
device_parts x d = entries_if (is_joined x d) (device_join_entry x d ∷ []) ++ entries_if (has_fifo x d) (device_fifo_entry x d ∷ [])

-- ---- the whole

abbrev pub crossbar_wires : XbarDesc → List Entry
crossbar_wires x = flat_map (host_wires x) (hosts x) ++ (flat_map (host_lanes x) (hosts x) ++ flat_map (device_wires x) (devices x))

abbrev pub crossbar_selects : Crossbar → List Entry
crossbar_selects x = map (host_select x) (hosts x.desc)

abbrev pub crossbar_parts : XbarDesc → List Entry
crossbar_parts x = flat_map (host_parts x) (hosts x) ++ flat_map (device_parts x) (devices x)

unfoldable pub crossbar_entries : Crossbar → List Entry
crossbar_entries x = crossbar_wires x.desc ++ (crossbar_selects x ++ crossbar_parts x.desc)

unfoldable pub crossbar_module : Crossbar → Module
crossbar_module x = record { name = codes "xbar_" ++ x.desc.name; ports = crossbar_ports x.desc; entries = crossbar_entries x }
