-- What a crossbar's description breaks, rule by rule, each as a fact with its place and its name.
use Rattle.std.specs.Prelude.{◌≡◌, ℕ, true, false, List, [], ◌∷◌, ◌++◌, codes, Some}
use Rattle.cg_svspec.specs.Names.{Among}
use Rattle.cg_desc.specs.Crossbar.{IsNodeName}
use Rattle.cg_desc.specs.declared.place.At.{At}
use Rattle.cg_finding.specs.Finding.{Finding, finding}
use Rattle.cg_hjson.specs.declared.tree.Tree.{Tree}
use Rattle.cg_hjson.specs.declared.tree.Member.{Member}
use Rattle.cg_keys.specs.Table.{value_at}
use Rattle.cg_keys.specs.Values.{items_of, members_of, text_in}
use Rattle.cg_keys.specs.Lists.{InElement, TooLong, WrongElement, WrongForm}
use Rattle.cg_keys.specs.Violations.{BreaksTable, DuplicateKey}
use Rattle.cg_keys.specs.declared.forms.Form.TheVariants as form
use Rattle.cg_xbread.specs.Tables.{crossbar_keys, node_keys, range_keys}
use Rattle.cg_xbread.specs.Written.{IsDeviceName, IsHostName, Lists, connections_of, listed, nodes_of, text_of}
use Rattle.cg_xbread.specs.declared.written.WrittenNode.{WrittenNode}

-- ---- keys, kinds and names

-- 25: a node's name is a string, but neither a name nor two names joined by a dot
pub record BadNodeName (ms : List Member) (f : Finding) : Type 0 where
  pub value : Tree
  pub there : value_at (codes "name") ms ≡ Some value
  pub text : List ℕ
  pub is_text : text_in value ≡ Some text
  pub bad : ¬ IsNodeName text
  pub says : f ≡ finding 2 25 value.at (codes "name")

-- what a range of addresses breaks
abbrev pub BreaksRange : At → List Member → Finding → Type 0
BreaksRange opener ms f = BreaksTable opener ms range_keys f

-- what a node breaks
pub data BreaksNode (opener : At) (ms : List Member) (f : Finding) : Type 0 where
  keys : BreaksTable opener ms node_keys f → BreaksNode opener ms f
  bad_name : BadNodeName ms f → BreaksNode opener ms f
  many_ranges : TooLong 16 ms (codes "addr_range") f → BreaksNode opener ms f
  no_range : WrongElement form.Object ms (codes "addr_range") f → BreaksNode opener ms f
  in_range : InElement BreaksRange ms (codes "addr_range") f → BreaksNode opener ms f

-- what a crossbar breaks of the rules on keys, kinds and names
pub data BreaksKeys (t : Tree) (f : Finding) : Type 0 where
  duplicate : DuplicateKey t f → BreaksKeys t f
  keys : BreaksTable t.at (members_of t) (crossbar_keys (members_of t)) f → BreaksKeys t f
  many_nodes : TooLong 64 (members_of t) (codes "nodes") f → BreaksKeys t f
  no_node : WrongElement form.Object (members_of t) (codes "nodes") f → BreaksKeys t f
  in_node : InElement BreaksNode (members_of t) (codes "nodes") f → BreaksKeys t f
  no_list : (host : List ℕ) → WrongForm form.Items (connections_of t) host f → BreaksKeys t f
  no_text : (host : List ℕ) → WrongElement form.Text (connections_of t) host f → BreaksKeys t f

-- ---- nodes and connections

-- 50: a node has the name of an earlier node; at the later one
pub record NodeTwice (t : Tree) (f : Finding) : Type 0 where
  pub before : List WrittenNode
  pub node : WrittenNode
  pub after : List WrittenNode
  pub stands : nodes_of t ≡ before ++ (node ∷ after)
  pub earlier : WrittenNode
  pub among : Among earlier before
  pub same : earlier.name ≡ node.name
  pub says : f ≡ finding 6 50 node.at node.name

-- 50: a connection lists a device that it lists before; at the later element
pub record DeviceTwice (t : Tree) (f : Finding) : Type 0 where
  pub connection : Member
  pub is_connection : Among connection (connections_of t)
  pub before : List Tree
  pub element : Tree
  pub after : List Tree
  pub stands : items_of connection.value ≡ before ++ (element ∷ after)
  pub device : IsDeviceName t (text_of element)
  pub earlier : Tree
  pub among : Among earlier before
  pub same : text_of earlier ≡ text_of element
  pub says : f ≡ finding 6 50 element.at (text_of element)

-- 51: the key of a connection is no host's name; at the key
pub record UnknownHost (t : Tree) (f : Finding) : Type 0 where
  pub connection : Member
  pub is_connection : Among connection (connections_of t)
  pub unknown : ¬ IsHostName t connection.key
  pub says : f ≡ finding 6 51 connection.key_at connection.key

-- 51: an element of a connection is no device's name; at the element
pub record UnknownDevice (t : Tree) (f : Finding) : Type 0 where
  pub connection : Member
  pub is_connection : Among connection (connections_of t)
  pub element : Tree
  pub among : Among element (items_of connection.value)
  pub unknown : ¬ IsDeviceName t (text_of element)
  pub says : f ≡ finding 6 51 element.at (text_of element)

-- 52: a host has no connection, or one that lists nothing; at the host
pub record HostWithoutDevice (t : Tree) (f : Finding) : Type 0 where
  pub node : WrittenNode
  pub is_node : Among node (nodes_of t)
  pub host : node.host ≡ true
  pub none : listed t node.name ≡ []
  pub says : f ≡ finding 6 52 node.at node.name

-- 53: no host's connection lists a device; at the device
pub record DeviceWithoutHost (t : Tree) (f : Finding) : Type 0 where
  pub node : WrittenNode
  pub is_node : Among node (nodes_of t)
  pub device : node.host ≡ false
  pub none : (host : List ℕ) → IsHostName t host → ¬ Lists t host node.name
  pub says : f ≡ finding 6 53 node.at node.name

-- what a crossbar breaks of the rules on nodes and connections
pub data BreaksNodes (t : Tree) (f : Finding) : Type 0 where
  node_twice : NodeTwice t f → BreaksNodes t f
  device_twice : DeviceTwice t f → BreaksNodes t f
  unknown_host : UnknownHost t f → BreaksNodes t f
  unknown_device : UnknownDevice t f → BreaksNodes t f
  host_without_device : HostWithoutDevice t f → BreaksNodes t f
  device_without_host : DeviceWithoutHost t f → BreaksNodes t f

-- ---- all of them

-- What a crossbar breaks: a rule on nodes and connections is read where none on keys, kinds and names is broken.
pub data Violates (t : Tree) (f : Finding) : Type 0 where
  keys : BreaksKeys t f → Violates t f
  nodes : ((g : Finding) → ¬ BreaksKeys t g) → BreaksNodes t f → Violates t f
