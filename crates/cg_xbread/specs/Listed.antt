-- What a crossbar's description breaks, as lists of findings.
use Rattle.std.specs.Prelude.{ℕ, Bool, true, false, not, ◌&&◌, cond, nat_lt, length, List, [], ◌∷◌, ◌++◌, flat_map, codes}
use Rattle.std.specs.List.{list_any, before_first, after_first, position_or_len}
use Rattle.std.specs.Option.{option_map_or}
use Rattle.std.specs.Prelude.{eqb}
use Rattle.std.specs.Str.{bytes_eq}
use Rattle.cg_finding.specs.Finding.{Finding, finding, each_after}
use Rattle.cg_hjson.specs.declared.tree.Tree.{Tree}
use Rattle.cg_hjson.specs.declared.tree.Member.{Member}
use Rattle.cg_keys.specs.Duplicates.{duplicate_faults}
use Rattle.cg_keys.specs.Elements.{each_faults, element_faults, elements, length_faults, list_faults, object_faults}
use Rattle.cg_keys.specs.Forms.{is_name, name_limit}
use Rattle.cg_keys.specs.Lists.{first_members}
use Rattle.cg_keys.specs.Table.{table_faults, value_at, value_faults}
use Rattle.cg_keys.specs.Values.{items_of, members_of, text_in}
use Rattle.cg_keys.specs.declared.forms.Form.TheVariants.{Items, Text}
use Rattle.cg_xbread.specs.Tables.{crossbar_keys, node_keys, range_keys}
use Rattle.cg_xbread.specs.Written.{connections_of, text_of}
use Rattle.cg_xbread.specs.declared.written.WrittenNode.{WrittenNode}

-- ---- names of nodes

abbrev pub is_dot : ℕ → Bool
is_dot c = eqb c 46

abbrev pub has_dot : List ℕ → Bool
has_dot s = nat_lt (position_or_len is_dot s) (length s)

-- a name, or where there is a dot the names before and behind the first
unfoldable pub is_node_name : List ℕ → Bool
is_node_name s =
    cond (has_dot s) (is_name name_limit (before_first is_dot s) && is_name name_limit (after_first is_dot s)) (is_name name_limit s)

-- 25: the value is a string and no node's name
unfoldable pub node_name_faults : Tree → List Finding
node_name_faults t = option_map_or (λ s. cond (is_node_name s) [] (finding 2 25 t.at (codes "name") ∷ [])) (text_in t) []

-- ---- keys, kinds and names

-- what the members of a node break beside their table
unfoldable pub node_members_faults : List Member → List Finding
node_members_faults ms =
    option_map_or node_name_faults (value_at (codes "name") ms) []
    ++ (length_faults 0 16 (codes "addr_range") ms
    ++ (element_faults (codes "addr_range") ms ++ each_faults range_keys (elements (codes "addr_range") ms)))

unfoldable pub node_faults : Tree → List Finding
node_faults t = object_faults node_keys t ++ node_members_faults (members_of t)

-- 22: a connection is no list, or has an element that is no string
unfoldable pub connection_faults : Member → List Finding
connection_faults m = value_faults m.key (Items ∷ []) m.value ++ list_faults Text m.key m.value

unfoldable pub key_faults : Tree → List Finding
key_faults t =
    duplicate_faults t
    ++ (table_faults t.at (members_of t) (crossbar_keys (members_of t))
    ++ (length_faults 0 64 (codes "nodes") (members_of t)
    ++ (element_faults (codes "nodes") (members_of t)
    ++ (flat_map node_faults (elements (codes "nodes") (members_of t))
    ++ flat_map connection_faults (first_members (connections_of t))))))

-- ---- nodes and connections

-- one of the nodes is a host, or is none, and has this name
unfoldable pub is_named : Bool → List WrittenNode → List ℕ → Bool
is_named host nodes name = list_any (λ node. cond host node.host (not node.host) && bytes_eq node.name name) nodes

-- 50: a node with the name of one of these before it
unfoldable pub node_twice : List WrittenNode → WrittenNode → List Finding
node_twice before node = cond (list_any (λ b. bytes_eq b.name node.name) before) (finding 6 50 node.at node.name ∷ []) []

-- 51 where an element is no device; 50 where it is one that stands before it
unfoldable pub element_faults_after : List WrittenNode → List Tree → Tree → List Finding
element_faults_after nodes before element =
    cond (is_named false nodes (text_of element))
    (cond (list_any (λ b. bytes_eq (text_of b) (text_of element)) before) (finding 6 50 element.at (text_of element) ∷ []) [])
    (finding 6 51 element.at (text_of element) ∷ [])

-- 51: its key is no host
unfoldable pub unknown_host : List WrittenNode → Member → List Finding
unknown_host nodes m = cond (is_named true nodes m.key) [] (finding 6 51 m.key_at m.key ∷ [])

unfoldable pub ends_faults : List WrittenNode → Member → List Finding
ends_faults nodes m = unknown_host nodes m ++ each_after (element_faults_after nodes) [] (items_of m.value)

abbrev pub is_empty : List Tree → Bool
is_empty [] = true
is_empty (t ∷ ts) = false

-- 52: a host whose connection lists nothing
unfoldable pub lonely_host : List Member → WrittenNode → List Finding
lonely_host connections node = cond (node.host && is_empty (elements node.name connections)) (finding 6 52 node.at node.name ∷ []) []

-- what a connection lists, where its key is a host
abbrev pub host_elements : List WrittenNode → Member → List Tree
host_elements nodes m = cond (is_named true nodes m.key) (items_of m.value) []

-- what the connections of hosts list
unfoldable pub heard : List WrittenNode → List Member → List Tree
heard nodes connections = flat_map (host_elements nodes) (first_members connections)

-- 53: a device that no host's connection lists
unfoldable pub lonely_device : List Tree → WrittenNode → List Finding
lonely_device elements node = cond (not node.host && not (list_any (λ e. bytes_eq (text_of e) node.name) elements)) (finding 6 53 node.at node.name ∷ []) []

unfoldable pub node_rules : List WrittenNode → List Member → List Finding
node_rules nodes connections =
    each_after node_twice [] nodes
    ++ (flat_map (ends_faults nodes) connections
    ++ (flat_map (lonely_host connections) nodes
    ++ flat_map (lonely_device (heard nodes connections)) nodes))
