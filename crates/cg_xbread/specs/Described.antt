-- The description of a crossbar that breaks no rule.
use Rattle.std.specs.Prelude.{ℕ, false, cond, List, [], map, position, codes, unwrap_or}
use Rattle.std.specs.Str.{bytes_eq}
use Rattle.cg_desc.specs.declared.crossbar.Range.{Range}
use Rattle.cg_desc.specs.declared.crossbar.NodeDesc.{NodeDesc}
use Rattle.cg_desc.specs.declared.crossbar.XbarDesc.{XbarDesc}
use Rattle.cg_hjson.specs.declared.tree.Tree.{Tree}
use Rattle.cg_hjson.specs.declared.tree.Member.{Member}
use Rattle.cg_keys.specs.Elements.{elements}
use Rattle.cg_keys.specs.Lookups.{boolean_at, number_at, text_at}
use Rattle.cg_keys.specs.Values.{members_of}
use Rattle.cg_xbread.specs.Tables.{clock_key}
use Rattle.cg_xbread.specs.Written.{connections_of, nodes_of, text_of, written_node}
use Rattle.cg_xbread.specs.declared.written.WrittenNode.{WrittenNode}

-- the crossbar's clock
unfoldable pub clock_of : List Member → List ℕ
clock_of ms = unwrap_or (text_at (clock_key ms) ms) []

unfoldable pub range_of : Tree → Range
range_of t = record {
  base = unwrap_or (number_at 0 4294967295 (codes "base_addr") (members_of t)) 0;
  size = unwrap_or (number_at 0 4294967296 (codes "size_byte") (members_of t)) 0;
}

-- the number of the first node with this name
unfoldable pub number_of : List WrittenNode → List ℕ → ℕ
number_of nodes name = unwrap_or (position (λ node. bytes_eq node.name name) nodes) 0

-- the numbers of the devices that a node connects to, in the order in which its connection lists them; none where it is no host
unfoldable pub to_of : List WrittenNode → List Member → WrittenNode → List ℕ
to_of nodes connections node = cond node.host (map (λ e. number_of nodes (text_of e)) (elements node.name connections)) []

-- a node of a crossbar with this clock, these nodes and these connections: its own clock, or else the crossbar's
unfoldable pub node_of : List ℕ → List WrittenNode → List Member → Tree → NodeDesc
node_of clock nodes connections t =
    let ms = members_of t in
    let node = written_node t in
    record {
      name = node.name;
      host = node.host;
      xbar = unwrap_or (boolean_at (codes "xbar") ms) false;
      clock = unwrap_or (text_at (codes "clock") ms) clock;
      ranges = map range_of (elements (codes "addr_range") ms);
      to = to_of nodes connections node;
      at = node.at;
    }

-- the description of the crossbar whose file has this number
unfoldable pub crossbar_of : ℕ → Tree → XbarDesc
crossbar_of file t = record {
  file = file;
  name = unwrap_or (text_at (codes "name") (members_of t)) [];
  clock = clock_of (members_of t);
  nodes = map (node_of (clock_of (members_of t)) (nodes_of t) (connections_of t)) (elements (codes "nodes") (members_of t));
  at = t.at;
}
