-- What is written of a crossbar: its nodes and its connections, by the names that they have.
use Rattle.std.specs.Prelude.{◌≡◌, ℕ, Bool, true, false, List, [], map, codes, unwrap_or}
use Rattle.std.specs.Option.{option_map_or}
use Rattle.std.specs.Str.{bytes_eq}
use Rattle.cg_svspec.specs.Names.{Among}
use Rattle.cg_hjson.specs.declared.tree.Tree.{Tree}
use Rattle.cg_hjson.specs.declared.tree.Member.{Member}
use Rattle.cg_keys.specs.Values.{members_of, or_empty, text_in}
use Rattle.cg_keys.specs.Elements.{elements}
use Rattle.cg_keys.specs.Lookups.{object_at, place_at, text_at}
use Rattle.cg_xbread.specs.declared.written.WrittenNode.{WrittenNode}

-- ---- nodes

unfoldable pub node_name : Tree → List ℕ
node_name node = unwrap_or (text_at (codes "name") (members_of node)) []

-- the type is `host`; any other node is a device
unfoldable pub is_host : Tree → Bool
is_host node = option_map_or (bytes_eq (codes "host")) (text_at (codes "type") (members_of node)) false

-- a node with the place of its name's value
unfoldable pub written_node : Tree → WrittenNode
written_node node = record { name = node_name node; host = is_host node; at = place_at (codes "name") (members_of node) node.at }

-- the nodes, in the order in which they are written
unfoldable pub nodes_of : Tree → List WrittenNode
nodes_of t = map written_node (elements (codes "nodes") (members_of t))

-- some host of the crossbar has this name
pub record IsHostName (t : Tree) (name : List ℕ) : Type 0 where
  pub node : WrittenNode
  pub among : Among node (nodes_of t)
  pub host : node.host ≡ true
  pub named : node.name ≡ name

-- some device of the crossbar has this name
pub record IsDeviceName (t : Tree) (name : List ℕ) : Type 0 where
  pub node : WrittenNode
  pub among : Among node (nodes_of t)
  pub device : node.host ≡ false
  pub named : node.name ≡ name

-- ---- connections

-- the connections: each has the name of a host as its key, and a list of names of devices
unfoldable pub connections_of : Tree → List Member
connections_of t = or_empty (object_at (codes "connections") (members_of t))

-- the name that an element of a connection's list is
unfoldable pub text_of : Tree → List ℕ
text_of element = unwrap_or (text_in element) []

-- what the connection of a host of this name lists; nothing where there is none
unfoldable pub listed : Tree → List ℕ → List Tree
listed t host = elements host (connections_of t)

-- the connection of a host of this name lists a device
pub record Lists (t : Tree) (host device : List ℕ) : Type 0 where
  pub element : Tree
  pub among : Among element (listed t host)
  pub named : text_of element ≡ device
