-- A crossbar as its module is made of it: its nodes by their numbers, which parts stand at each, and the ranges that count.
use Rattle.std.specs.Prelude.{ℕ, zero, suc, ◌+◌, eqb, leb, ltb, Bool, true, false, not, cond, ◌&&◌, ◌||◌, List, [], ◌∷◌, length, filter, flat_map, codes}
use Rattle.std.specs.Str.{bytes_eq}
use Rattle.cg_desc.specs.declared.crossbar.Range.{Range}
use Rattle.cg_desc.specs.declared.crossbar.NodeDesc.{NodeDesc}
use Rattle.cg_desc.specs.declared.crossbar.NodeRanges.{NodeRanges}
use Rattle.cg_desc.specs.declared.crossbar.XbarDesc.{XbarDesc}

-- A described crossbar, with the ranges of each of its nodes that count.
pub record Crossbar : Type 0 where
  pub desc : XbarDesc
  pub ranges : List NodeRanges

abbrev pub crossbar_of : XbarDesc → List NodeRanges → Crossbar
crossbar_of x ranges = record { desc = x; ranges = ranges }

-- ---- nodes by their numbers

abbrev pub no_node : NodeDesc
no_node = record { name = []; host = false; xbar = false; clock = []; ranges = []; to = []; at = record { byte = 0; line = 1; column = 1 } }

abbrev pub node_at : List NodeDesc → ℕ → NodeDesc
node_at [] i = no_node
node_at (n ∷ ns) zero = n
node_at (n ∷ ns) (suc i) = node_at ns i

-- the numbers of the hosts, or of the devices, where the first node has number i
abbrev pub numbers_of : Bool → ℕ → List NodeDesc → List ℕ
numbers_of host i [] = []
numbers_of host i (n ∷ ns) = cond (cond host n.host (not n.host)) (i ∷ numbers_of host (suc i) ns) (numbers_of host (suc i) ns)

abbrev pub node : XbarDesc → ℕ → NodeDesc
node x i = node_at x.nodes i

unfoldable pub hosts : XbarDesc → List ℕ
hosts x = numbers_of true 0 x.nodes

unfoldable pub devices : XbarDesc → List ℕ
devices x = numbers_of false 0 x.nodes

-- a character of a node's name as it stands in nets: a dot is two underscores
abbrev pub label_character : ℕ → List ℕ
label_character c = cond (eqb c 46) (codes "__") (c ∷ [])

-- the node's name as it stands in nets
unfoldable pub label : XbarDesc → ℕ → List ℕ
label x i = flat_map label_character (node x i).name

-- the number is one of these
abbrev pub is_in : List ℕ → ℕ → Bool
is_in [] i = false
is_in (j ∷ js) i = eqb j i || is_in js i

-- the devices that a host connects to, in its order
unfoldable pub reach : XbarDesc → ℕ → List ℕ
reach x h = (node x h).to

-- the hosts that connect to a device, in the order of nodes
unfoldable pub feeders : XbarDesc → ℕ → List ℕ
feeders x d = filter (λ h. is_in (reach x h) d) (hosts x)

-- ---- parts: a 1-to-N socket stands behind each host, and

-- an M-to-1 socket before each device to which more than one host connects
unfoldable pub is_joined : XbarDesc → ℕ → Bool
is_joined x d = leb 2 (length (feeders x d))

-- a FIFO at each node whose clock is not the crossbar's
unfoldable pub has_fifo : XbarDesc → ℕ → Bool
has_fifo x i = not (bytes_eq (node x i).clock x.clock)

-- ---- ranges

-- the ranges at a place
abbrev pub ranges_at : List NodeRanges → ℕ → List Range
ranges_at [] i = []
ranges_at (rs ∷ ranges) zero = rs.ranges
ranges_at (rs ∷ ranges) (suc i) = ranges_at ranges i

abbrev pub device_ranges : Crossbar → ℕ → List Range
device_ranges x d = ranges_at x.ranges d

-- the address is in the range
abbrev pub holds : ℕ → Range → Bool
holds a r = leb r.base a && ltb a (r.base + r.size)

-- or in one of the ranges
abbrev pub some_holds : ℕ → List Range → Bool
some_holds a [] = false
some_holds a (r ∷ rs) = holds a r || some_holds a rs
